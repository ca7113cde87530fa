use Rattle.std.proofs.Common.{map, string_bytes}
use Rattle.std.specs.Iterator.Adapters.{zip_first, zip_second}
use Rattle.std.specs.Slice.Iter.{iter_rest}
use Rattle.just_eval.specs.Prelude.{recipe_parameter_view}
use Rattle.just_eval.proofs.Bindings.{ParametersLeft}
use Rattle.just_eval.proofs.evaluator.Evaluator.bind_parameters.Given as goal

-- the parameters that are left, and the bindings so far
abbrev pub invariant-loop-parameter : goal.invariant-loop-parameter
invariant-loop-parameter g l = ParametersLeft g.H.Host.step g.C.Fn l.fn.check l.fn.recipe l.fn.host l.fn.self (map recipe_parameter_view l.fn.parameters)
    l.fn.arguments l.self (map string_bytes l.words.items)
    (map recipe_parameter_view (iter_rest (zip_first l.parameter-iterator))) (iter_rest (zip_second l.parameter-iterator)) l.host
