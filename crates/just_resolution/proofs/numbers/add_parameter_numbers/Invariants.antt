use Rattle.std.proofs.Common.{◌≡◌, ◌++◌, map}
use Rattle.just_resolution.specs.Prelude.{function_view, numbered_parameters, parameter_view}
use Rattle.just_resolution.proofs.numbers.add_parameter_numbers.Given as goal

-- the parameters so far and the remaining ones are all
abbrev pub invariant-loop-function : goal.invariant-loop-function
invariant-loop-function l = map parameter_view l.numbers.items ++ numbered_parameters (map function_view l.function-iterator)
    ≡ map parameter_view l.fn.numbers.items ++ numbered_parameters (map function_view l.functions)
