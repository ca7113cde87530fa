-- The commands that a recipe's lines make.
use Rattle.std.specs.Prelude.{◌==◌, ◌-◌, Bool, true, false, List, [], ◌∷◌, ◌++◌, length, Option, Some, None}
use Rattle.std.specs.Prelude.{if◌then◌else◌}
use Rattle.std.specs.List.{slice_get}
use Rattle.just_syntax.specs.Plain.{Text, Expr, Fragment, TextFragment, Interpolation}
use Rattle.just_value.specs.Value.{Value}
use Rattle.just_host.specs.Interaction.{Tree, bind, gives}
use Rattle.just_meaning.specs.Line.{line, line_expressions}

-- whether the last byte of a text is a backslash
abbrev pub ends_with_backslash : Text → Bool
ends_with_backslash [] = false
ends_with_backslash (c ∷ []) = c == 92
ends_with_backslash (c ∷ d ∷ cs) = ends_with_backslash (d ∷ cs)

-- a text without the backslash at its end, if it has one
abbrev pub without_backslash : Text → Text
without_backslash [] = []
without_backslash (c ∷ []) = if c == 92 then [] else c ∷ []
without_backslash (c ∷ d ∷ cs) = c ∷ without_backslash (d ∷ cs)

-- whether the last fragment, if there is one, is a text that ends with a backslash
abbrev pub is_continued_by : Option Fragment → Bool
is_continued_by None = false
is_continued_by (Some (TextFragment t)) = ends_with_backslash t.lexeme
is_continued_by (Some (Interpolation e)) = false

-- whether the next line continues this one
abbrev pub is_continued : List Fragment → Bool
is_continued l = is_continued_by (slice_get l (length l - 1))

-- the commands of the lines so far, and the text that the next line continues, if it does
pub record Joined : Type 0 where
  pub commands : List Text
  pub text : Text
  pub continues : Bool

-- before the first line
abbrev pub unjoined : Joined
unjoined = record { commands = []; text = []; continues = false }

-- After a further line with this text. A continued line loses its backslash; any other ends a command.
abbrev pub with_further_line : Joined → List Fragment → Text → Joined
with_further_line j l text =
    if is_continued l
    then record { commands = j.commands; text = j.text ++ without_backslash text; continues = true }
    else record { commands = j.commands ++ (j.text ++ text) ∷ []; text = []; continues = false }

-- The commands after the last line. If that one is continued, its text is a command.
abbrev pub commands_of : Joined → List Text
commands_of j = if j.continues then j.commands ++ j.text ∷ [] else j.commands

-- the commands of lines, evaluated in order
abbrev pub commands_after : (Expr → Tree Value) → Joined → List (List Fragment) → Tree (List Text)
commands_after means j [] = gives (commands_of j)
commands_after means j (l ∷ ls) =
    bind (line means j.continues l) (λ text. commands_after means (with_further_line j l text) ls)

abbrev pub commands : (Expr → Tree Value) → List (List Fragment) → Tree (List Text)
commands means ls = commands_after means unjoined ls

-- the expressions of lines
abbrev pub lines_expressions : List (List Fragment) → List Expr
lines_expressions [] = []
lines_expressions (l ∷ ls) = line_expressions l ++ lines_expressions ls
