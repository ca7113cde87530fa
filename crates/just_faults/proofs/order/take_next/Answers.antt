use Rattle.std.proofs.Common.{◌≡◌, ◌↔◌, ◌⊎◌, ap, refl, sym, subst, inl, [], map, Some, None, Bor, IsTrue}
use Rattle.just_faults.specs.Prelude.{Text, assignment_at, assignment_view, function_view, is_name_in, is_number_taken, is_readable, module_fault_view}
use Rattle.just_faults.specs.Prelude.{name_view, ordered_view}
use Rattle.just_meaning.proofs.Names.{name_added}
use Rattle.just_resolution.proofs.Ordering.{comes_now, comes_now_takes_one, more_readable, passed_over, passed_over_takes_none, reads_if}
use Rattle.just_resolution.proofs.Tables.{assignment_seen}
use Rattle.just_faults.proofs.Walking.{comes_again, comes_again_takes_none, passes_one, takes_one, unknown_takes_none}
use Rattle.just_faults.proofs.order.take_next.Goals.{In-None, In-Some}
use Rattle.just_faults.proofs.order.take_next.Goals as goal

-- the assignment that was looked up, as plain data
found : (c : In-Some) → assignment_at (ordered_view c.args.assignments.now [] c.args.variable_references) (name_view c.args.name.now).lexeme
    ≡ Some (assignment_view c.in-Some.assignment.now)
found c = assignment_seen _ _ _ _ _ (ap (λ (l : Bor Text). l.now) c.lexeme.ensures) c.in-Some.is c.get.ensures

-- there is none
none : (c : In-None) → assignment_at (ordered_view c.args.assignments.now [] c.args.variable_references) (name_view c.args.name.now).lexeme ≡ None
none c = assignment_seen _ _ _ _ _ (ap (λ (l : Bor Text). l.now) c.lexeme.ensures) c.in-None.is c.get.ensures

pub take-requires : goal.take-requires
take-requires c = record { closed = c.requires.passed.closed }

pub returns-in-None-clause-exact : goal.returns-in-None-clause-exact
returns-in-None-clause-exact c = inl (refl, none (goal.at.returns-in-None-clause-exact c).In-None)

pub returns-in-None-clause-number : goal.returns-in-None-clause-number
returns-in-None-clause-number c =
    unknown_takes_none (map function_view c.args.functions.now) (ordered_view c.args.assignments.now [] c.args.variable_references)
    (is_number_taken c.args.readable.now) (name_view c.args.name.now) (none (goal.at.returns-in-None-clause-number c).In-None)

pub returns-then-not-is_referenced-clause-exact : goal.returns-then-not-is_referenced-clause-exact
returns-then-not-is_referenced-clause-exact c =
    passed_over (map function_view c.args.functions.now) (ordered_view c.args.assignments.now [] c.args.variable_references) (name_view c.args.name.now) _
    (found (goal.at.returns-then-not-is_referenced-clause-exact c).In-Some) _ (sym c.if-not-is_referenced.ensures)

pub returns-then-not-is_referenced-clause-number : goal.returns-then-not-is_referenced-clause-number
returns-then-not-is_referenced-clause-number c =
    passed_over_takes_none (map function_view c.args.functions.now) (ordered_view c.args.assignments.now [] c.args.variable_references)
    (name_view c.args.name.now) _ (found (goal.at.returns-then-not-is_referenced-clause-number c).In-Some) (is_number_taken c.args.readable.now)
    (sym c.if-not-is_referenced.ensures)

pub returns-then-contains-clause-exact : goal.returns-then-contains-clause-exact
returns-then-contains-clause-exact c =
    comes_again (map function_view c.args.functions.now) (ordered_view c.args.assignments.now [] c.args.variable_references)
    (is_number_taken c.args.readable.now)
    (is_readable c.args.readable.now) (is_name_in c.args.passed.now) (is_name_in c.args.admitted.now) c.requires.passed (name_view c.args.name.now)
    (subst (λ (t : Text). IsTrue (is_name_in c.args.passed.now t)) (ap (λ (l : Bor Text). l.now) c.lexeme-in-Some.ensures) (sym c.if-contains.ensures))

pub returns-then-contains-clause-number : goal.returns-then-contains-clause-number
returns-then-contains-clause-number c =
    comes_again_takes_none (map function_view c.args.functions.now) (ordered_view c.args.assignments.now [] c.args.variable_references)
    (is_number_taken c.args.readable.now) (is_readable c.args.readable.now) (is_name_in c.args.passed.now) (is_name_in c.args.admitted.now) c.requires.passed
    (name_view c.args.name.now)
    (subst (λ (t : Text). IsTrue (is_name_in c.args.passed.now t)) (ap (λ (l : Bor Text). l.now) c.lexeme-in-Some.ensures) (sym c.if-contains.ensures))

pub returns-then-is_some-clause-exact : goal.returns-then-is_some-clause-exact
returns-then-is_some-clause-exact c =
    comes_now (map function_view c.args.functions.now) (ordered_view c.args.assignments.now [] c.args.variable_references) (name_view c.args.name.now)
    _ (found (goal.at.returns-then-is_some-clause-exact c).In-Some) module_fault_view (is_readable c.args.readable.now) c.in_ok-fault-in-Some.fault
    (sym c.if-not-is_referenced.ensures) c.in_ok-fault-in-Some.ensures.exact

pub returns-then-is_some-clause-number : goal.returns-then-is_some-clause-number
returns-then-is_some-clause-number c =
    comes_now_takes_one (map function_view c.args.functions.now) (ordered_view c.args.assignments.now [] c.args.variable_references)
    (name_view c.args.name.now) _ (found (goal.at.returns-then-is_some-clause-number c).In-Some) (is_number_taken c.args.readable.now)
    (is_number_taken c.take.new.readable) (sym c.if-not-is_referenced.ensures) c.in_ok-fault-in-Some.ensures.taken

pub returns-then-is_some-clause-passed : goal.returns-then-is_some-clause-passed
returns-then-is_some-clause-passed c =
    let taken = c.in_ok-fault-in-Some.ensures.taken in
    takes_one (map function_view c.args.functions.now) (ordered_view c.args.assignments.now [] c.args.variable_references) (is_number_taken c.args.readable.now)
    (is_readable c.args.readable.now) (is_name_in c.args.passed.now) (is_name_in c.args.admitted.now) c.requires.passed
    (assignment_view c.in-Some.assignment.now) (is_number_taken c.take.new.readable) (is_readable c.take.new.readable) (is_name_in c.take.new.admitted)
    c.in_ok-fault-in-Some.ensures.closed taken
    (more_readable c.args.readable.now c.take.new.readable c.take.ensures.outer (λ n k. (taken n).1 (inl k)))

pub returns-in_ok-insert-in-Some-clause-exact : goal.returns-in_ok-insert-in-Some-clause-exact
returns-in_ok-insert-in-Some-clause-exact c =
    comes_now (map function_view c.args.functions.now) (ordered_view c.args.assignments.now [] c.args.variable_references) (name_view c.args.name.now)
    _ (found (goal.at.returns-in_ok-insert-in-Some-clause-exact c).In-Some) module_fault_view (is_readable c.args.readable.now) None
    (sym c.if-not-is_referenced.ensures) (reads_if _ c.in_ok-fault-in-Some.fault c.in_ok-fault-in-Some.ensures.exact (sym c.if-is_some.ensures))

pub returns-in_ok-insert-in-Some-clause-number : goal.returns-in_ok-insert-in-Some-clause-number
returns-in_ok-insert-in-Some-clause-number c =
    comes_now_takes_one (map function_view c.args.functions.now) (ordered_view c.args.assignments.now [] c.args.variable_references)
    (name_view c.args.name.now) _ (found (goal.at.returns-in_ok-insert-in-Some-clause-number c).In-Some) (is_number_taken c.args.readable.now)
    (is_number_taken c.take.new.readable) (sym c.if-not-is_referenced.ensures) c.in_ok-fault-in-Some.ensures.taken

pub returns-in_ok-insert-in-Some-clause-passed : goal.returns-in_ok-insert-in-Some-clause-passed
returns-in_ok-insert-in-Some-clause-passed c =
    let taken = c.in_ok-fault-in-Some.ensures.taken in
    passes_one (map function_view c.args.functions.now) (ordered_view c.args.assignments.now [] c.args.variable_references)
    (is_number_taken c.args.readable.now)
    (is_readable c.args.readable.now) (is_name_in c.args.passed.now) (is_name_in c.args.admitted.now) c.requires.passed
    (assignment_view c.in-Some.assignment.now) (is_number_taken c.take.new.readable) (is_readable c.take.new.readable) (is_name_in c.take.new.admitted)
    c.in_ok-fault-in-Some.ensures.closed taken
    (more_readable c.args.readable.now c.take.new.readable c.take.ensures.outer (λ n k. (taken n).1 (inl k))) (name_view c.args.name.now)
    (is_name_in c.insert.new.self) (found (goal.at.returns-in_ok-insert-in-Some-clause-passed c).In-Some)
    (reads_if _ c.in_ok-fault-in-Some.fault c.in_ok-fault-in-Some.ensures.exact (sym c.if-is_some.ensures))
    (subst (λ (l : Text). (t : Text) → IsTrue (is_name_in c.insert.new.self t) ↔ ((l ≡ t) ⊎ IsTrue (is_name_in c.args.passed.now t)))
    (ap (λ (l : Bor Text). l.now) c.lexeme-in-Some-2.ensures)
    (name_added c.args.passed.now c.insert.new.self c.lexeme-in-Some-2.result c.in_ok-insert-in-Some.ensures.updates.0))
