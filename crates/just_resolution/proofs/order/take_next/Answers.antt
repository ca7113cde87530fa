use Rattle.std.proofs.Common.{◌≡◌, ap, refl, sym, inl, [], map, Some, None, Bor}
use Rattle.std.proofs.lemmas.Result.{IfOk-weaker}
use Rattle.just_resolution.specs.Prelude.{Text, assignment_at, assignment_view, function_view, is_number_taken, is_readable, module_fault_view, name_view}
use Rattle.just_resolution.specs.Prelude.{ordered_view}
use Rattle.just_resolution.proofs.Ordering.{all_three, comes_again, comes_again_takes_none, comes_now, comes_now_takes_one, more_readable, passed_over}
use Rattle.just_resolution.proofs.Ordering.{passed_over_takes_none, reads_if, takes_one}
use Rattle.just_resolution.proofs.Tables.{assignment_seen}
use Rattle.just_resolution.proofs.order.take_next.Goals.{In-None, In-Some}
use Rattle.just_resolution.proofs.order.take_next.Goals as goal

-- the assignment that was looked up, as plain data
found : (c : In-Some) → assignment_at (ordered_view c.args.assignments.now [] c.args.variable_references) (name_view c.args.name.now).lexeme
    ≡ Some (assignment_view c.in-Some.assignment.now)
found c = assignment_seen _ _ _ _ _ (ap (λ (l : Bor Text). l.now) c.lexeme.ensures) c.in-Some.is c.get.ensures

-- there is none
none : (c : In-None) → assignment_at (ordered_view c.args.assignments.now [] c.args.variable_references) (name_view c.args.name.now).lexeme ≡ None
none c = assignment_seen _ _ _ _ _ (ap (λ (l : Bor Text). l.now) c.lexeme.ensures) c.in-None.is c.get.ensures

pub take-requires : goal.take-requires
take-requires c = record { closed = c.requires.taken.closed }

pub returns-in-None-clause-exact : goal.returns-in-None-clause-exact
returns-in-None-clause-exact c = inl (refl, none (goal.at.returns-in-None-clause-exact c).In-None)

pub returns-then-not-is_referenced-clause-exact : goal.returns-then-not-is_referenced-clause-exact
returns-then-not-is_referenced-clause-exact c =
    passed_over (map function_view c.args.functions.now) (ordered_view c.args.assignments.now [] c.args.variable_references) (name_view c.args.name.now) _
    (found (goal.at.returns-then-not-is_referenced-clause-exact c).In-Some) _ (sym c.if-not-is_referenced.ensures)

pub returns-then-not-is_referenced-clause-number : goal.returns-then-not-is_referenced-clause-number
returns-then-not-is_referenced-clause-number c = λ h.
    passed_over_takes_none (map function_view c.args.functions.now) (ordered_view c.args.assignments.now [] c.args.variable_references)
    (name_view c.args.name.now) _ (found (goal.at.returns-then-not-is_referenced-clause-number c).In-Some) (is_number_taken c.args.readable.now)
    (sym c.if-not-is_referenced.ensures)

pub returns-then-not-is_referenced-clause-taken : goal.returns-then-not-is_referenced-clause-taken
returns-then-not-is_referenced-clause-taken c = λ h. c.requires.taken

pub returns-then-has_taken-clause-exact : goal.returns-then-has_taken-clause-exact
returns-then-has_taken-clause-exact c =
    comes_again (map function_view c.args.functions.now) (ordered_view c.args.assignments.now [] c.args.variable_references) (name_view c.args.name.now) _
    (found (goal.at.returns-then-has_taken-clause-exact c).In-Some) _ _ _ c.requires.distinct c.requires.taken (sym c.if-has_taken.ensures)

pub returns-then-has_taken-clause-number : goal.returns-then-has_taken-clause-number
returns-then-has_taken-clause-number c = λ h.
    comes_again_takes_none (map function_view c.args.functions.now) (ordered_view c.args.assignments.now [] c.args.variable_references)
    (name_view c.args.name.now) _ (found (goal.at.returns-then-has_taken-clause-number c).In-Some) (is_number_taken c.args.readable.now)
    (sym c.if-has_taken.ensures)

pub returns-then-has_taken-clause-taken : goal.returns-then-has_taken-clause-taken
returns-then-has_taken-clause-taken c = λ h. c.requires.taken

pub returns-else-has_taken-clause-exact : goal.returns-else-has_taken-clause-exact
returns-else-has_taken-clause-exact c =
    IfOk-weaker c.take.result _ _
    (λ fault. comes_now (map function_view c.args.functions.now) (ordered_view c.args.assignments.now [] c.args.variable_references) (name_view c.args.name.now)
    _ (found (goal.at.returns-else-has_taken-clause-exact c).In-Some) module_fault_view (is_readable c.args.readable.now) fault
    (sym c.if-not-is_referenced.ensures))
    c.take.ensures.exact

pub returns-else-has_taken-clause-number : goal.returns-else-has_taken-clause-number
returns-else-has_taken-clause-number c =
    IfOk-weaker c.take.result _ _
    (λ fault adds nothing. comes_now_takes_one (map function_view c.args.functions.now) (ordered_view c.args.assignments.now [] c.args.variable_references)
    (name_view c.args.name.now) _ (found (goal.at.returns-else-has_taken-clause-number c).In-Some) (is_number_taken c.args.readable.now)
    (is_number_taken c.take.new.readable) (sym c.if-not-is_referenced.ensures) adds)
    c.take.ensures.taken

pub returns-else-has_taken-clause-taken : goal.returns-else-has_taken-clause-taken
returns-else-has_taken-clause-taken c =
    all_three c.take.result _ _ _ _
    (λ fault reads adds closed nothing.
    takes_one (map function_view c.args.functions.now) (ordered_view c.args.assignments.now [] c.args.variable_references) (name_view c.args.name.now) _ _ _ _ _
    _ _ c.requires.taken (found (goal.at.returns-else-has_taken-clause-taken c).In-Some) closed (reads_if _ fault reads nothing) adds
    (more_readable c.args.readable.now c.take.new.readable c.take.ensures.outer (λ n k. (adds n).1 (inl k))))
    c.take.ensures.exact c.take.ensures.taken c.take.ensures.closed
