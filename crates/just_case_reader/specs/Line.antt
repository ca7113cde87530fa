-- The lines of a case.
use Rattle.std.specs.Prelude.{ℕ, zero, suc, Bool, true, false, List, [], ◌∷◌, ◌++◌, ◌==◌, length, Option, Some, None}
use Rattle.std.specs.Prelude.{if◌then◌else◌, codes}
use Rattle.std.specs.List.{slice_split}
use Rattle.std.specs.Str.{bytes_eq, is_utf8}
use Rattle.just_syntax.specs.Plain.{Text}
use Rattle.just_case_reader.specs.declared.operator.UnaryOperator.{UnaryOperator}
use Rattle.just_case_reader.specs.declared.operator.UnaryOperator.TheVariants.{Root, Not, Group, Assert}
use Rattle.just_case_reader.specs.declared.operator.BinaryOperator.{BinaryOperator}
use Rattle.just_case_reader.specs.declared.operator.BinaryOperator.TheVariants.{Add, Join, Cat, And, Or, Equal}
use Rattle.just_case_reader.specs.declared.operator.BinaryOperator.TheVariants.{NotEqual, Match, Mismatch}
use Rattle.just_case_reader.specs.declared.operator.BinaryOperator.TheVariants.{AssertMessage, When}
use Rattle.just_case_reader.specs.Rest.{is_name, names, number, word_of, rest_of}

-- a line; literals and commands have their text and their lexeme
pub data CaseLine : Type 0 where
  Skipped : CaseLine
  Bad : CaseLine
  Literal : Text → Text → CaseLine
  Command : Text → Text → CaseLine
  Variable : Text → CaseLine
  Unary : UnaryOperator → CaseLine
  Binary : BinaryOperator → CaseLine
  If : CaseLine
  ListOf : ℕ → CaseLine
  Call : Text → ℕ → CaseLine
  Assign : Text → Bool → CaseLine
  Function : Text → CaseLine
  Override : Text → Text → CaseLine
  Dotenv : Text → Text → CaseLine
  Order : Text → CaseLine
  Only : Text → CaseLine
  Reply : Text → CaseLine
  Fail : ℕ → CaseLine
  Always : Text → CaseLine
  Lists : CaseLine
  Dry : CaseLine
  Limit : ℕ → CaseLine
  Run : CaseLine
  Const : CaseLine
  Blocks : Text → CaseLine

-- whether a line is skipped
abbrev pub says_nothing : CaseLine → Bool
says_nothing Skipped = true
says_nothing _ = false

-- a line of a single word that combines expressions
abbrev pub operator_line : Text → CaseLine
operator_line word =
    if bytes_eq word (codes "root") then Unary Root else
    if bytes_eq word (codes "not") then Unary Not else
    if bytes_eq word (codes "group") then Unary Group else
    if bytes_eq word (codes "assert") then Unary Assert else
    if bytes_eq word (codes "add") then Binary Add else
    if bytes_eq word (codes "join") then Binary Join else
    if bytes_eq word (codes "cat") then Binary Cat else
    if bytes_eq word (codes "and") then Binary And else
    if bytes_eq word (codes "or") then Binary Or else
    if bytes_eq word (codes "eq") then Binary Equal else
    if bytes_eq word (codes "ne") then Binary NotEqual else
    if bytes_eq word (codes "match") then Binary Match else
    if bytes_eq word (codes "mismatch") then Binary Mismatch else
    if bytes_eq word (codes "assertm") then Binary AssertMessage else
    if bytes_eq word (codes "when") then Binary When else
    Bad

-- a line of a single word
abbrev pub bare_line : Text → CaseLine
bare_line word =
    if bytes_eq word (codes "if") then If else
    if bytes_eq word (codes "lists") then Lists else
    if bytes_eq word (codes "dry") then Dry else
    if bytes_eq word (codes "run") then Run else
    if bytes_eq word (codes "const") then Const else
    operator_line word

-- a line with a name; bad if it is not one
abbrev pub name_line : Text → CaseLine → CaseLine
name_line name line = if is_name name then line else Bad

-- a line with a number; bad if there is none
abbrev pub number_line : Option ℕ → (ℕ → CaseLine) → CaseLine
number_line None line = Bad
number_line (Some n) line = line n

-- a line with names; bad if one of them is not a name
abbrev pub names_line : Option (List Text) → CaseLine → CaseLine
names_line None line = Bad
names_line (Some names) line = line

-- a line with at least one name
abbrev pub first_name_line : Option (List Text) → CaseLine → CaseLine
first_name_line None line = Bad
first_name_line (Some []) line = Bad
first_name_line (Some (name ∷ names)) line = line

-- a limit is not 0
abbrev pub limit : ℕ → CaseLine
limit zero = Bad
limit (suc n) = Limit (suc n)

-- a line with a rarer word, by its word and the text after it
abbrev pub rare_line : Text → Text → CaseLine
rare_line word rest =
    if bytes_eq word (codes "fun") then first_name_line (names rest) (Function rest) else
    if bytes_eq word (codes "order") then names_line (names rest) (Order rest) else
    if bytes_eq word (codes "only") then names_line (names rest) (Only rest) else
    if bytes_eq word (codes "blocks") then first_name_line (names rest) (Blocks rest) else
    if bytes_eq word (codes "fail") then number_line (number rest) Fail else
    if bytes_eq word (codes "limit") then number_line (number rest) limit else
    if length rest == 0 then bare_line word else
    Bad

-- a line by its word and the text after it
abbrev pub line_of_word : Text → Text → CaseLine
line_of_word word rest =
    if bytes_eq word (codes "var") then name_line rest (Variable rest) else
    if bytes_eq word (codes "assign") then name_line rest (Assign rest false) else
    if bytes_eq word (codes "str") then Literal rest (codes "'" ++ rest ++ codes "'") else
    if bytes_eq word (codes "cmd") then Command rest (codes "`" ++ rest ++ codes "`") else
    if bytes_eq word (codes "call")
    then name_line (word_of rest) (number_line (number (rest_of rest)) (Call (word_of rest))) else
    if bytes_eq word (codes "list") then number_line (number rest) ListOf else
    if bytes_eq word (codes "reply") then Reply rest else
    if bytes_eq word (codes "always") then Always rest else
    if bytes_eq word (codes "dotenv") then name_line (word_of rest) (Dotenv (word_of rest) (rest_of rest)) else
    if bytes_eq word (codes "override") then name_line (word_of rest) (Override (word_of rest) (rest_of rest)) else
    if bytes_eq word (codes "export") then name_line rest (Assign rest true) else
    rare_line word rest

-- the text is empty, or begins with `#`
abbrev pub is_skipped : Text → Bool
is_skipped [] = true
is_skipped (byte ∷ bytes) = byte == 35

abbrev pub line_of_text : Text → CaseLine
line_of_text text = if is_skipped text then Skipped else line_of_word (word_of text) (rest_of text)

-- a line by its bytes; bad if they are not text
abbrev pub case_line_of : Text → CaseLine
case_line_of bytes = if is_utf8 bytes then line_of_text bytes else Bad

-- the pieces without an empty last one
abbrev pub without_empty_end : List Text → List Text
without_empty_end [] = []
without_empty_end ([] ∷ []) = []
without_empty_end (piece ∷ pieces) = piece ∷ without_empty_end pieces

-- the lines of a case, each of which ends with a newline, which the last may lack
abbrev pub lines_of : Text → List Text
lines_of case = without_empty_end (slice_split (λ byte. byte == 10) case)
