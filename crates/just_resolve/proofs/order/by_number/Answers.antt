use Rattle.std.proofs.Common.{List, ap, map, subst, sym}
use Rattle.just_syntax.specs.declared.assignment.Assignment as declared
use Rattle.just_resolve.specs.Prelude.{assignment_view}
use Rattle.just_resolve.proofs.Indexing.{IsIndexed, index_all, index_begins, index_more}
use Rattle.just_resolve.proofs.order.by_number.Goals as goal

pub loop-assignment-init : goal.loop-assignment-init
loop-assignment-init c =
    subst (λ (xs : List declared.Assignment). IsIndexed (map assignment_view c.args.assignments.now) (map assignment_view xs) c.new-names.result)
    (sym c.into_iter-assignment-iterator.ensures.into_iter_gives.0)
    (index_begins (map assignment_view c.args.assignments.now) c.new-names.result c.new-names.ensures.empty)

pub loop-assignment-preserved : goal.loop-assignment-preserved
loop-assignment-preserved c =
    index_more (map assignment_view c.args.assignments.now) (map assignment_view c.next.new.self) (map assignment_view c.loop-assignment.assignment-iterator)
    (assignment_view c.in-Some.assignment.now) c.loop-assignment.names c.add_named.new.names c.loop-assignment.invariant
    (ap (λ (xs : List declared.Assignment). map assignment_view xs) c.in-Some.ensures.steps) c.in_ok-add_named.ensures

pub returns : goal.returns
returns c = record {
  known = index_all (map assignment_view c.args.assignments.now) (map assignment_view c.loop-assignment.assignment-iterator) c.loop-assignment.names
      c.loop-assignment.invariant (ap (λ (xs : List declared.Assignment). map assignment_view xs) c.in-None.ensures.steps.0);
  named = c.loop-assignment.invariant.named;
}
