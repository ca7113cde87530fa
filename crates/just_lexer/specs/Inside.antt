-- What a token may be inside of.
use Rattle.std.specs.Prelude.{Bool, true, false}
use Rattle.just_lexer.specs.declared.inside.Delimiter.{Delimiter}
use Rattle.just_lexer.specs.declared.inside.Delimiter.TheVariants.{Brace, Bracket, Paren}

abbrev pub same_delimiter : Delimiter → Delimiter → Bool
same_delimiter Brace Brace = true
same_delimiter Bracket Bracket = true
same_delimiter Paren Paren = true
same_delimiter _ _ = false
