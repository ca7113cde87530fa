-- Texts in backticks.
use Rattle.std.specs.Prelude.{◌++◌, Option, Some, codes}
use Rattle.std.specs.Fmt.{◌++?◌}
use Rattle.just_syntax.specs.Plain.{Text}

-- a text in backticks
abbrev pub ticked : Text → Text
ticked text = codes "`" ++ (text ++ codes "`")

-- a backtick, the text, a backtick, if there is a text
abbrev pub ticked_output : Option Text → Option Text
ticked_output text = Some (codes "`") ++? text ++? Some (codes "`")
