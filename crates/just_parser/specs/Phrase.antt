-- Phrases: what is read from the first tokens.
use Rattle.std.specs.Prelude.{ℕ, zero, suc, Bool, true, false, List, [], ◌∷◌, ◌++◌, length, Option, Some, None}
use Rattle.std.specs.Prelude.{if◌then◌else◌}
use Rattle.just_syntax.specs.Plain.{Expr, Token}
use Rattle.just_lexer.specs.declared.kind.TokenKind.{TokenKind}
use Rattle.just_lexer.specs.declared.kind.TokenKind.TheVariants as kinds
use Rattle.just_expression_parser.specs.Machine as machine
use Rattle.just_expression_parser.specs.Tokens.{Tokens, is_at, is_kind}
use Rattle.just_expression_parser.specs.declared.parse_error.Fault.TheVariants as faults
use Rattle.just_parser.specs.declared.parse_error.Fault.{Fault}
use Rattle.just_parser.specs.declared.parse_error.Fault.TheVariants.{Syntax}

-- how reading ends: with something, before these tokens; or with the first of these tokens refused, or their end
pub data Parsed (A : Type 0) : Type 0 where
  Read : A → Tokens → Parsed A
  Refused : Fault → Tokens → Parsed A

abbrev pub Phrase : Type 0 → Type 0
Phrase A = Tokens → Parsed A

-- ---- phrases one after another

-- what follows something that was read
abbrev pub after_read : {A B : Type 0} → Parsed A → (A → Phrase B) → Parsed B
after_read (Read a ts) next = next a ts
after_read (Refused fault ts) next = Refused fault ts

infixl 10 ◌>>=◌
abbrev pub ◌>>=◌ : {A B : Type 0} → Phrase A → (A → Phrase B) → Phrase B
◌>>=◌ first next = λ ts. after_read (first ts) next

infixl 10 ◌>>◌
abbrev pub ◌>>◌ : {A B : Type 0} → Phrase A → Phrase B → Phrase B
◌>>◌ first next = λ ts. after_read (first ts) (λ _. next)

-- this, of no token
abbrev pub give : {A : Type 0} → A → Phrase A
give a = λ ts. Read a ts

-- the next token is refused
abbrev pub refuse : {A : Type 0} → Fault → Phrase A
refuse fault = λ ts. Refused fault ts

-- this, if it is there; else the next token is refused
abbrev pub give_if : {A : Type 0} → Fault → Option A → Phrase A
give_if fault None = refuse fault
give_if fault (Some a) = give a

-- ---- tokens and expressions

-- a token of another kind was expected
abbrev pub expected : TokenKind → Fault
expected kind = Syntax (faults.Expected kind)

-- a token of this kind
unfoldable pub one : TokenKind → Phrase Token
one kind [] = Refused (expected kind) []
one kind (t ∷ ts) = if is_kind kind t then Read t.token ts else Refused (expected kind) (t ∷ ts)

abbrev pub of_machine : machine.Result → Parsed Expr
of_machine (machine.Read e ts) = Read e ts
of_machine (machine.Refused fault ts) = Refused (Syntax fault) ts

-- a token of this kind, if it comes next; whether it does
unfoldable pub accepted : TokenKind → Phrase Bool
accepted kind ts = if is_at 0 kind ts then after_read (one kind ts) (λ token. give true) else Read false ts

-- an expression
unfoldable pub expression : Phrase Expr
expression ts = of_machine (machine.parse ts (machine.Expression 0) [])

-- a value
unfoldable pub value : Phrase Expr
value ts = of_machine (machine.parse ts (machine.Expression 4) [])

-- what was found, if it is there; else the first of these tokens is refused
abbrev pub found_at : {A : Type 0} → Fault → Tokens → Option A → Phrase A
found_at fault ts None rest = Refused fault ts
found_at fault ts (Some a) rest = Read a rest

-- a value of some form; else its first token is refused
unfoldable pub value_as : {A : Type 0} → Fault → (Expr → Option A) → Phrase A
value_as fault form ts = after_read (value ts) (λ e. found_at fault ts (form e))

-- the end of a line, or of the file, which stays
unfoldable pub line_end : Phrase Unit
line_end ts = if is_at 0 kinds.Eof ts then Read tt ts else after_read (one kinds.Eol ts) (λ _. give tt)

-- something, and the end of its line
abbrev pub in_line : {A : Type 0} → Phrase A → Phrase A
in_line phrase = do
  a ← phrase
  line_end
  give a

-- a comma, or nothing before a closing token
unfoldable pub comma_unless : TokenKind → Phrase Unit
comma_unless close ts =
    if is_at 0 close ts then Read tt ts else
    if is_at 0 kinds.Comma ts then after_read (one kinds.Comma ts) (λ _. give tt) else
    Refused (expected close) ts

-- ---- a phrase again and again

-- what was read, after more of it
abbrev pub prepended : {A : Type 0} → List A → Parsed (List A) → Parsed (List A)
prepended front outcome = after_read outcome (λ more. give (front ++ more))

-- a phrase again and again, up to an end, but at most this often: all that it gives, in order
unfoldable pub repeated_phrase : {A : Type 0} → ℕ → (Tokens → Bool) → Phrase (List A) → Phrase (List A)
repeated_phrase zero ends phrase ts = Read [] ts
repeated_phrase (suc n) ends phrase ts =
    if ends ts then Read [] ts
    else after_read (phrase ts) (λ found rest. prepended found (repeated_phrase n ends phrase rest))

-- A phrase again and again, up to an end. It takes a token each time, so it is there at most as often as tokens are.
abbrev pub many : {A : Type 0} → (Tokens → Bool) → Phrase (List A) → Phrase (List A)
many ends phrase = λ ts. repeated_phrase (length ts) ends phrase ts
