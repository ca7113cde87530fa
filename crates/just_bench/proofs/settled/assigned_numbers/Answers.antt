use Rattle.std.proofs.Common.{◌≡◌, ◌||◌, map, subst}
use Rattle.std.specs.Map.Iter.{deref}
use Rattle.std.proofs.lemmas.Map.Iter.{rest_more}
use Rattle.just_bench.specs.Prelude.{assigned_in, assignment_view, number_set_view}
use Rattle.just_syntax.specs.declared.assignment.Assignment.{Assignment}
use Rattle.just_bench.proofs.Places.{one_fewer}
use Rattle.just_bench.proofs.settled.assigned_numbers.Goals as goal

pub loop-assignment-preserved : goal.loop-assignment-preserved
loop-assignment-preserved c = λ n.
    let numbers = c.loop-assignment.numbers in
    let all = assigned_in (map assignment_view c.args.assignments.now) n in
    one_fewer numbers.keys c.insert.new.self.keys c.in-Some.assignment.now.number n (assigned_in (map assignment_view c.next.new.self) n) all
    (c.in_ok-insert.ensures.updates.0 n)
    (subst (λ xs. (number_set_view numbers n || assigned_in (map assignment_view xs) n) ≡ all)
    (rest_more (deref {X = Assignment}) c.loop-assignment.assignment-iterator c.next.new.self c.next.result c.in-Some.assignment c.in-Some.is
    c.next.ensures.steps)
    (c.loop-assignment.invariant n))
