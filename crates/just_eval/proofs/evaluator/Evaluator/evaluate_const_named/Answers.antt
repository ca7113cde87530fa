use Rattle.std.proofs.Common.{◌≡◌, ◌∙◌, ap, sym, subst, true, false, Some, None, [], ◌∷◌, nat_eq}
use Rattle.std.specs.List.{list_any}
use Rattle.just_eval.specs.Prelude.{Gave, IsConstEval, Staged, assignment_view, constants_of, is_referenced_in, name_view, refusal, stage_state_of}
use Rattle.just_eval.specs.Prelude.{text_numbered, view}
use Rattle.just_syntax.proofs.Tables.{found_at}
use Rattle.just_eval.proofs.Assigned.{few_assigned, staged_gave, staged_refused, stage_state_kept, stage_state_same}
use Rattle.just_eval.proofs.Constants.{for_some}
use Rattle.just_eval.proofs.Here.{staged_here}
use Rattle.just_eval.proofs.Stages.{staged_open, staged_passes, staged_unknown}
use Rattle.just_eval.proofs.evaluator.Evaluator.evaluate_const_named.Goals as goal

pub returns-in_default-clause-staged : goal.returns-in_default-clause-staged
returns-in_default-clause-staged c = λ order.
    rw c.unwrap_const.ensures.refusal (staged_unknown (stage_state_of c.args.self.now) (name_view c.args.name.now) _
    (found_at assignment_view (λ a. a.name.lexeme) _ _ _ None c.in_default.ensures (ap (λ l. l.now) c.lexeme.ensures)) c.error_at-error.ensures)

pub returns-then-not-is_referenced-clause-staged : goal.returns-then-not-is_referenced-clause-staged
returns-then-not-is_referenced-clause-staged c = λ order.
    let b : is_referenced_in c.args.references c.in-Some.assignment.now.number ≡ false = cc in
    staged_passes (stage_state_of c.args.self.now) (name_view c.args.name.now) (assignment_view c.in-Some.assignment.now)
    (found_at assignment_view (λ a. a.name.lexeme) _ _ _ (Some c.in-Some.assignment.now) c.in-Some.ensures (ap (λ l. l.now) c.lexeme.ensures)) b

pub returns-then-is_open-clause-staged : goal.returns-then-is_open-clause-staged
returns-then-is_open-clause-staged c = λ order.
    let b : is_referenced_in c.args.references c.in-Some.assignment.now.number ≡ true = cc in
    let open_ : list_any (nat_eq c.in-Some.assignment.now.number) c.args.self.now.non_const_assignments.keys ≡ true = cc in
    staged_open (stage_state_of c.args.self.now) (name_view c.args.name.now) (assignment_view c.in-Some.assignment.now)
    (found_at assignment_view (λ a. a.name.lexeme) _ _ _ (Some c.in-Some.assignment.now) c.in-Some.ensures (ap (λ l. l.now) c.lexeme.ensures)) b open_

pub open_or_end-requires : goal.open_or_end-requires
open_or_end-requires c = record {
  start = record { start = c.in-Err.ensures.same.1; context = c.in-Err.ensures.same.0.context ∙ c.requires.start.context };
  few = for_some IsConstEval (refusal c.in-Err.error)
      (few_assigned (constants_of c.args.assignments.now [] c.args.overrides.now c.args.references) (stage_state_of c.args.self.now)
      (assignment_view c.in-Some.assignment.now) (refusal c.in-Err.error)
      (staged_here c.args.self.now c.requires.start (text_numbered c.args.overrides.now c.in-Some.assignment.now.number) (view c.in-Some.assignment.now.value)
      c.in-Err.ensures.assigned));
}

pub returns-in-Ok-clause-staged : goal.returns-in-Ok-clause-staged
returns-in-Ok-clause-staged c = λ order.
    let m = constants_of c.args.assignments.now order c.args.overrides.now c.args.references in
    let s = stage_state_of c.args.self.now in
    let b : is_referenced_in c.args.references c.in-Some.assignment.now.number ≡ true = cc in
    let closed : list_any (nat_eq c.in-Some.assignment.now.number) c.args.self.now.non_const_assignments.keys ≡ false = cc in
    subst (λ x. Staged m s (name_view c.args.name.now ∷ []) (Gave x)) (sym (stage_state_same _ _ c.in-Ok.ensures.same.0))
    (staged_gave m s (assignment_view c.in-Some.assignment.now) (name_view c.args.name.now)
    (found_at assignment_view (λ a. a.name.lexeme) _ _ _ (Some c.in-Some.assignment.now) c.in-Some.ensures (ap (λ l. l.now) c.lexeme.ensures)) b closed
    (staged_here c.args.self.now c.requires.start (text_numbered c.args.overrides.now c.in-Some.assignment.now.number) (view c.in-Some.assignment.now.value)
    c.in-Ok.ensures.assigned))

pub returns-in-Err-clause-staged : goal.returns-in-Err-clause-staged
returns-in-Err-clause-staged c = λ order.
    let s = stage_state_of c.args.self.now in
    let b : is_referenced_in c.args.references c.in-Some.assignment.now.number ≡ true = cc in
    let closed : list_any (nat_eq c.in-Some.assignment.now.number) c.args.self.now.non_const_assignments.keys ≡ false = cc in
    staged_refused (constants_of c.args.assignments.now order c.args.overrides.now c.args.references) s (assignment_view c.in-Some.assignment.now)
    (name_view c.args.name.now)
    (found_at assignment_view (λ a. a.name.lexeme) _ _ _ (Some c.in-Some.assignment.now) c.in-Some.ensures (ap (λ l. l.now) c.lexeme.ensures)) b closed
    (refusal c.in-Err.error) _
    (staged_here c.args.self.now c.requires.start (text_numbered c.args.overrides.now c.in-Some.assignment.now.number) (view c.in-Some.assignment.now.value)
    c.in-Err.ensures.assigned)
    (rw (stage_state_kept c.args.self.now c.evaluate_assignment.new.self c.in-Err.ensures.same.0 c.in-Err.ensures.kept) at c.open_or_end.ensures.ended)
