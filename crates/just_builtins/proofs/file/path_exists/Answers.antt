use Rattle.std.proofs.lemmas.Result.{err_from_is_err_and}
use Rattle.std.proofs.Common.{sym, subst, ◌∙◌, ap, Err}
use Rattle.just_builtins.specs.Prelude.{Asked, ExistsAt, existence_answer, existence_answered, frameless, function_context_view, has_lists}
use Rattle.just_builtins.specs.Prelude.{in_working_directory, truth}
use Rattle.just_builtins.proofs.Calls.{asked, at_once}
use Rattle.just_builtins.proofs.Commands.{existence_is, existence_unasked}
use Rattle.just_builtins.proofs.file.path_exists.Goals as goal

pub returns-then-is_empty : goal.returns-then-is_empty
returns-then-is_empty g c = λ shown.
    let context = function_context_view c.args.context.now in
    existence_unasked shown context (truth (has_lists context)) c.args.path.now c.is_empty.result _ c.is_empty.ensures c.if-is_empty.true c.nowhere.ensures

pub returns-in_err-place : goal.returns-in_err-place
returns-in_err-place g c = λ shown. let p = err_from_is_err_and c.from_residual.result c.from_residual.ensures.1 in at_once _ (p.1 ∙ ap Err p.2)

pub returns : goal.returns
returns g c = λ shown.
    let context = function_context_view c.args.context.now in
    let unasked = truth (has_lists context) in
    let place = in_working_directory context c.args.path.now in
    let taken = subst (λ p. g.H.Host.step c.args.host.now (frameless (ExistsAt p)) (existence_answer c.exists-answer.result) c.exists-answer.new.self)
    (c.deref.ensures ∙ c.in_ok-place.ensures) c.exists-answer.ensures in
    subst (λ r. Asked g.H.Host.step c.args.host.now shown r c.existence_answered.result c.exists-answer.new.self)
    (sym (existence_is context unasked c.args.path.now c.is_empty.result c.is_empty.ensures c.if-is_empty.false))
    (asked shown (ExistsAt place) (existence_answered unasked) _ _ taken c.existence_answered.ensures)
