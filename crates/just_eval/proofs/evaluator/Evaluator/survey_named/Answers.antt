use Rattle.std.proofs.Common.{[], ◌∷◌, append-nil, subst, sym}
use Rattle.just_eval.specs.Prelude.{Refused, Staged, compile_refusal, constants_of, name_view, stage_state_of, Survey, without_value}
use Rattle.just_value.specs.View.{const_eval_refusal}
use Rattle.just_eval.specs.Survey.{Finished, Passes, Refuses}
use Rattle.just_eval.proofs.Survey.{more_refused}
use Rattle.just_eval.proofs.evaluator.Evaluator.survey_named.Goals as goal

pub returns-in-Ok-clause-found : goal.returns-in-Ok-clause-found
returns-in-Ok-clause-found c = λ order. ([], Passes (c.in-Ok.ensures.staged order) Finished, sym (append-nil _))

pub returns-in_ok-push-in-Err-ConstEval-clause-found : goal.returns-in_ok-push-in-Err-ConstEval-clause-found
returns-in_ok-push-in-Err-ConstEval-clause-found c = λ order.
    let m = constants_of c.args.assignments.now order c.args.overrides.now c.args.references in
    let s = stage_state_of c.args.self.now in
    let t = name_view c.args.name.now in
    let r = const_eval_refusal c.in-Err-ConstEval.error in
    let refused : Staged m s (t ∷ []) (Refused r) =
    subst (λ e. Staged m s (t ∷ []) (without_value (compile_refusal e))) c.in-Err-ConstEval.field-0-is (c.in-Err-ConstEval.ensures.staged order) in
    let opened = c.in_ok-open_named-in-Err-ConstEval.ensures.opened in (
      (t, r) ∷ [],
      Refuses r refused (subst (λ x. Survey m x [] [] (stage_state_of c.open_named.new.self)) (rw c.in-Err-ConstEval.ensures.kept at opened) Finished),
      rw c.in_ok-push-in-Err-ConstEval.ensures.items (more_refused _ _),
    )
