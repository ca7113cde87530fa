use Rattle.std.proofs.Common.{◌≡◌, ap, map, refl, Some, None}
use Rattle.just_eval.specs.Prelude.{Assignment, assignment_view, name_view, value_at}
use Rattle.just_syntax.proofs.Tables.{found_at}
use Rattle.just_eval.proofs.Assigned.{stage_state_opened}
use Rattle.just_eval.proofs.evaluator.Evaluator.open_named.Goals as goal

pub returns-in_ok-insert-clause-opened : goal.returns-in_ok-insert-clause-opened
returns-in_ok-insert-clause-opened c =
    let e = c.args.self.now in
    let name = (name_view c.args.name.now).lexeme in
    let a = c.in-Some.assignment.now in
    let found : value_at (λ (a : Assignment). a.name.lexeme) name (map assignment_view c.args.assignments.now) ≡ Some (assignment_view a) =
    found_at assignment_view (λ a. a.name.lexeme) _ _ _ (Some a) c.in-Some.ensures (ap (λ l. l.now) c.lexeme.ensures) in
    rw found (stage_state_opened e (record e { non_const_assignments = c.insert.new.self }) a.number refl refl c.in_ok-insert.ensures.updates.0)

pub returns-in_default-clause-opened : goal.returns-in_default-clause-opened
returns-in_default-clause-opened c =
    let name = (name_view c.args.name.now).lexeme in
    let none : value_at (λ (a : Assignment). a.name.lexeme) name (map assignment_view c.args.assignments.now) ≡ None =
    found_at assignment_view (λ a. a.name.lexeme) _ _ _ None c.in_default.ensures (ap (λ l. l.now) c.lexeme.ensures) in
    rw none refl
