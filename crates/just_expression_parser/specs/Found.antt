-- What was found in the place of what was expected, in words.
use Rattle.std.specs.Prelude.{◌==◌, ◌++◌, Option, Some, None, codes, if◌then◌else◌, length}
use Rattle.just_syntax.specs.Plain.{Text, Token}

-- a token without a text is the end
abbrev pub found_text : Option Token → Text
found_text (Some token) =
    if length token.lexeme == 0 then codes ", found the end" else ((codes ", found `" ++ token.lexeme) ++ codes "`")
found_text None = codes ", found the end"
