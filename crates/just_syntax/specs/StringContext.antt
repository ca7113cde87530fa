-- The places that require one text and refuse a list of any other length.
use Rattle.std.specs.Prelude.{◌++◌, codes}
use Rattle.just_syntax.specs.Plain as plain
use Rattle.just_syntax.specs.Plain.{Text}

-- the key of an attribute, an argument of a function, or a setting, each by its name
pub data StringContext : Type 0 where
  EnvKey : plain.Token → StringContext
  Function : plain.Token → StringContext
  Setting : plain.Token → StringContext

-- the name
abbrev pub token : StringContext → plain.Token
token (EnvKey name) = name
token (Function name) = name
token (Setting name) = name

-- the context as written
abbrev pub context_text : StringContext → Text
context_text (EnvKey name) = codes "in key of `" ++ (name.lexeme ++ codes "` attribute")
context_text (Function name) = codes "in argument to function `" ++ (name.lexeme ++ codes "`")
context_text (Setting name) = codes "in setting `" ++ (name.lexeme ++ codes "`")
