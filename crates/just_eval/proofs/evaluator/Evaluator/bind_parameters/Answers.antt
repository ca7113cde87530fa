use Rattle.std.proofs.Common.{◌≡◌, ⊎_elim, inl, inr, map, ap, ◌∙◌, string_bytes}
use Rattle.std.specs.Iterator.Adapters.{zip_first, zip_second}
use Rattle.std.specs.Slice.Iter.{iter_rest}
use Rattle.just_eval.specs.Prelude.{recipe_parameter_view}
use Rattle.just_expression.proofs.Exits.{runs_exit}
use Rattle.just_eval.proofs.Bindings.{check_ends, parameter_ends, parameter_next, parameter_stops, parameters_all, parameters_start, mapped_none}
use Rattle.just_eval.proofs.Same.{same_may_call}
use Rattle.just_eval.proofs.evaluator.Evaluator.bind_parameters.Goals as goal

pub loop-parameter-init : goal.loop-parameter-init
loop-parameter-init g c =
    let second : iter_rest (zip_second c.zip-parameter-items.result) ≡ c.args.arguments.now = c.zip-parameter-items.ensures.second.0 in
    parameters_start (ap (map string_bytes) c.new-words.ensures.items)
    (ap (λ i. map recipe_parameter_view (iter_rest (zip_first i))) c.into_iter-parameter-iterator.ensures.into_iter_gives
    ∙ ap (λ i. map recipe_parameter_view (iter_rest i)) c.zip-parameter-items.ensures.first ∙ ap (map recipe_parameter_view) c.iter.ensures.rest)
    (ap (λ i. iter_rest (zip_second i)) c.into_iter-parameter-iterator.ensures.into_iter_gives ∙ second)

pub parameter_value-requires : goal.parameter_value-requires
parameter_value-requires g c = record { may_call = same_may_call c.args.self.now c.loop-parameter.self c.loop-parameter.invariant.same c.requires.may_call }

pub returns-in_err-value : goal.returns-in_err-value
returns-in_err-value g c =
    runs_exit _ _ _ c.from_residual.ensures.1 (parameter_ends c.loop-parameter.invariant (ap (map recipe_parameter_view) c.in-Some.ensures.steps.0)
    c.in-Some.ensures.steps.1 _ c.in_err-value.ensures)

pub returns-in_err-value-2 : goal.returns-in_err-value-2
returns-in_err-value-2 g c =
    runs_exit _ _ _ c.from_residual-in_err-value-2.ensures.1
    (check_ends c.loop-parameter.invariant (ap (map recipe_parameter_view) c.in-Some.ensures.steps.0) c.in-Some.ensures.steps.1 c.in_ok-value.ensures _
    c.in_err-value-2.ensures)

pub loop-parameter-preserved : goal.loop-parameter-preserved
loop-parameter-preserved g c =
    let now = c.in_ok-bind_parameter.ensures in
    rw now.words (parameter_next c.loop-parameter.invariant (ap (map recipe_parameter_view) c.in-Some.ensures.steps.0) c.in-Some.ensures.steps.1
    c.in_ok-value.ensures c.in_ok-value-2.ensures now.same.0 now.same.1 c.requires.based now.bound)

pub returns-in_err-bind_parameter : goal.returns-in_err-bind_parameter
returns-in_err-bind_parameter g c =
    runs_exit _ _ _ c.from_residual-in_err-bind_parameter.ensures.1
    (parameter_stops c.loop-parameter.invariant (ap (map recipe_parameter_view) c.in-Some.ensures.steps.0) c.in-Some.ensures.steps.1 c.in_ok-value.ensures
    c.in_ok-value-2.ensures)

pub returns : goal.returns
returns g c =
    ⊎_elim (λ u. parameters_all c.loop-parameter.invariant (inl (mapped_none recipe_parameter_view _ u.1.0)))
    (λ u. parameters_all c.loop-parameter.invariant (inr u.1.0)) c.in-None.ensures.steps
