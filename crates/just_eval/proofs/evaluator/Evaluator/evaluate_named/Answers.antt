use Rattle.std.proofs.Common.{◌≡◌, true, false, ap, Some, None}
use Rattle.just_eval.specs.Prelude.{assignment_view, dynamically, frames_view, module_view, text_numbered, view}
use Rattle.just_syntax.proofs.Tables.{found_at}
use Rattle.just_meaning.specs.View.{is_referenced_in}
use Rattle.just_eval.proofs.Assigned.{turn_assigned}
use Rattle.just_eval.proofs.Here.{ran_here}
use Rattle.just_eval.proofs.Module.{turn_passes, turn_unknown}
use Rattle.just_eval.proofs.evaluator.Evaluator.evaluate_named.Goals as goal

pub returns-in_default-clause-ran : goal.returns-in_default-clause-ran
returns-in_default-clause-ran g c =
    turn_unknown dynamically (module_view c.args.context.now c.args.references) (frames_view c.args.self.now.scope) _ _
    (found_at assignment_view (λ a. a.name.lexeme) _ _ _ None c.in_default.ensures
    (ap (λ l. l.now) c.lexeme.ensures)) c.error_at.ensures

pub returns-then-not-is_referenced-clause-ran : goal.returns-then-not-is_referenced-clause-ran
returns-then-not-is_referenced-clause-ran g c =
    let out : is_referenced_in c.args.references c.in-Some.assignment.now.number ≡ false = cc in
    turn_passes dynamically (module_view c.args.context.now c.args.references) (frames_view c.args.self.now.scope) _ (assignment_view c.in-Some.assignment.now)
    (found_at assignment_view (λ a. a.name.lexeme) _ _ _ (Some c.in-Some.assignment.now) c.in-Some.ensures (ap (λ l. l.now) c.lexeme.ensures)) out

pub returns-clause-ran : goal.returns-clause-ran
returns-clause-ran g c =
    let assignment = c.in-Some.assignment.now in
    let referenced : is_referenced_in c.args.references assignment.number ≡ true = cc in
    turn_assigned dynamically (module_view c.args.context.now c.args.references) (frames_view c.args.self.now.scope) _ (assignment_view assignment)
    (found_at assignment_view (λ a. a.name.lexeme) _ _ _ (Some assignment) c.in-Some.ensures (ap (λ l. l.now) c.lexeme.ensures)) referenced
    (ran_here c.args.self.now c.requires.start (text_numbered c.args.context.now.overrides.now assignment.number) (view assignment.value)
    c.args.context.now c.requires.here c.requires.lists c.evaluate_assignment.ensures.assigned)
