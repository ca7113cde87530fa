-- What texts and lines of recipes mean.
use Rattle.std.specs.Prelude.{Bool, false, List, [], ◌∷◌, ◌++◌, codes, if◌then◌else◌}
use Rattle.std.specs.Str.{trim_start}
use Rattle.just_syntax.specs.Plain.{Text, Expr, Fragment, Interpolation, TextFragment}
use Rattle.just_syntax.specs.StringContext.{StringContext}
use Rattle.just_value.specs.Value.{Value, joined}
use Rattle.just_text.specs.Replace.{replaced}
use Rattle.just_host.specs.Interaction.{Tree, done, bind, gives}
use Rattle.just_meaning.specs.Settings.{text_in}

-- what an expression means where a single text is required: the one element of its value
abbrev pub string : (Expr → Tree Value) → StringContext → Expr → Tree Text
string means context e = bind (means e) (λ v. done (text_in context v))

-- Text as written, with `{{{{` for `{{`. If it continues a line, its leading white space is dropped.
abbrev pub fragment_text : Bool → Text → Text
fragment_text continues text = let t =
    replaced text (codes "{{{{") (codes "{{") in if continues then trim_start t else t

-- the text of a fragment, or its interpolation, joined
abbrev pub fragment : (Expr → Tree Value) → Bool → Fragment → Tree Text
fragment means continues (TextFragment t) = gives (fragment_text continues t.lexeme)
fragment means continues (Interpolation e) = bind (means e) (λ v. gives (joined v))

-- The text of a line: its fragments in order. The first may continue the line before.
abbrev pub line : (Expr → Tree Value) → Bool → List Fragment → Tree Text
line means continued [] = gives []
line means continued (f ∷ fs) =
    bind (fragment means continued f) (λ text. bind (line means false fs) (λ rest. gives (text ++ rest)))

-- the expressions of a line
abbrev pub line_expressions : List Fragment → List Expr
line_expressions [] = []
line_expressions (TextFragment t ∷ fs) = line_expressions fs
line_expressions (Interpolation e ∷ fs) = e ∷ line_expressions fs
