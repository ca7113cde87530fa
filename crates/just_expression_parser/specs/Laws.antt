-- The laws of parsing.
use Rattle.std.specs.Prelude.{◌≡◌, false, codes, [], ◌∷◌, None}
use Rattle.just_syntax.specs.Plain.{Expr}
use Rattle.just_lexer.specs.declared.kind.TokenKind.TheVariants as kinds
use Rattle.just_expression_parser.specs.Grammar.{reads}
use Rattle.just_expression_parser.specs.Machine as machine
use Rattle.just_expression_parser.specs.Machine.{parse}
use Rattle.just_expression_parser.specs.Operator.{operator_of}
use Rattle.just_expression_parser.specs.Tokens.{Tokens, is_word}

-- the next token, if there is one, goes on with no expression: it is no operator, no `(` and no `else`
abbrev pub IsEnded : Tokens → Type 0
IsEnded [] = Unit {0}
IsEnded (t ∷ ts) = (is_word (codes "else") t ≡ false) × (t.kind ≡ kinds.ParenL → ⊥) × (operator_of t.kind ≡ None)

-- what the grammar derives is read, if the next token does not go on with it
abbrev pub ReadsWhatIsDerived : Type 0
ReadsWhatIsDerived = (e : Expr) (ts rest : Tokens) → reads e 0 ts rest → IsEnded rest
    → parse ts (machine.Expression 0) [] ≡ machine.Read e rest

-- tokens are one expression at most
abbrev pub OneReading : Type 0
OneReading = (e f : Expr) (ts rest more : Tokens) → reads e 0 ts rest → IsEnded rest → reads f 0 ts more → IsEnded
    more → (e ≡ f) × (rest ≡ more)

-- what is read, the grammar derives
abbrev pub DerivesWhatIsRead : Type 0
DerivesWhatIsRead = (e : Expr) (ts rest : Tokens) → parse ts (machine.Expression 0) [] ≡ machine.Read e rest → reads e 0
    ts rest
