-- What a called name stands for.
use Rattle.std.specs.Prelude.{◌≡◌, ℕ, ◌==◌, nat_le, ◌&&◌, Bool, true, false, List, length, Option, Some, None}
use Rattle.std.specs.Prelude.{if◌then◌else◌}
use Rattle.just_syntax.specs.Plain.{Text, Function}
use Rattle.just_builtins.specs.Argument.{IsExpected}
use Rattle.just_builtins.specs.Shape.{fewest_arguments, most_arguments}
use Rattle.just_builtins.specs.Table.{function_named, is_left_out}
use Rattle.just_builtins.specs.declared.function.Function as built_in
use Rattle.just_meaning.specs.Reaches.{function_at}

-- a function that the file defines, a built-in function, one that is left out, or nothing
pub data Callee : Type 0 where
  Defined : Function → Callee
  BuiltIn : built_in.Function → Callee
  LeftOut : Callee
  Unknown : Callee

abbrev pub built_in_or_unknown : Option built_in.Function → Callee
built_in_or_unknown (Some f) = BuiltIn f
built_in_or_unknown None = Unknown

-- what a name stands for if the file does not define it
abbrev pub undefined : Text → Callee
undefined name = if is_left_out name then LeftOut else built_in_or_unknown (function_named name)

abbrev pub defined_or : Option Function → Callee → Callee
defined_or (Some f) other = Defined f
defined_or None other = other

-- a function of the file hides any other meaning of its name
abbrev pub callee : List Function → Text → Callee
callee functions name = defined_or (function_at functions name) (undefined name)

-- The callee takes this many arguments. One that is left out takes any number.
abbrev pub Accepts : Callee → ℕ → Type 0
Accepts (Defined f) n = n ≡ length f.parameters
Accepts (BuiltIn f) n = IsExpected f n
Accepts LeftOut n = Unit {0}
Accepts Unknown n = ⊥

-- the same as a boolean test
abbrev pub accepts : Callee → ℕ → Bool
accepts (Defined f) n = length f.parameters == n
accepts (BuiltIn f) n = nat_le (fewest_arguments f) n && nat_le n (most_arguments f)
accepts LeftOut n = true
accepts Unknown n = false
