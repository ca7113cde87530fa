-- How many arguments a parameter takes.
use Rattle.std.specs.Prelude.{Bool, true, false}
use Rattle.just_syntax.specs.declared.parameter_kind.ParameterKind.{ParameterKind}
use Rattle.just_syntax.specs.declared.parameter_kind.ParameterKind.TheVariants.{Singular, Plus, Star}

-- whether a parameter takes one or more arguments, or any number
abbrev pub is_variadic : ParameterKind → Bool
is_variadic Singular = false
is_variadic Plus = true
is_variadic Star = true
