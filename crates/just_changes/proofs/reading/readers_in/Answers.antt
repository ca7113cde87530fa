use Rattle.std.proofs.Common.{◌∙◌, map, sym, subst, refl}
use Rattle.std.proofs.lemmas.Map.Iter.{rest_all, rest_more}
use Rattle.std.specs.Map.Iter.{deref}
use Rattle.just_changes.specs.Prelude.{assignment_view, frames_view, function_view, version_view}
use Rattle.just_syntax.specs.declared.assignment.Assignment.{Assignment}
use Rattle.just_syntax.specs.declared.function_definition.FunctionDefinition.{FunctionDefinition}
use Rattle.just_changes.proofs.Readings.{at_last, beside, one_more}
use Rattle.just_changes.proofs.Whole.{AnyAssignment, AnyFunction, reads_all}
use Rattle.just_changes.proofs.reading.readers_in.Goals as goal

pub loop-assignment-preserved : goal.loop-assignment-preserved
loop-assignment-preserved c = λ x y.
    let v = version_view c.args.version.now in
    let outer = frames_view c.args.parent.now in
    let left = rest_more (deref {X = Assignment}) c.loop-assignment.assignment-iterator c.next.new.self c.next.result c.in-Some.assignment c.in-Some.is
    c.next.ensures.steps in
    one_more (c.in_ok-add_assignment.ensures x y) (λ m. subst (λ rest. AnyAssignment v outer (map assignment_view rest) y x) left m)
    (λ h. subst (λ rest. AnyAssignment v outer (map assignment_view rest) y x) (sym left) h)
    (c.loop-assignment.invariant x y)

pub loop-function-init : goal.loop-function-init
loop-function-init c = λ x y.
    let v = version_view c.args.version.now in
    let outer = frames_view c.args.parent.now in
    let none = rest_all (deref {X = Assignment}) c.loop-assignment.assignment-iterator c.next.new.self c.next.result c.in-None.is c.next.ensures.steps in
    let all = at_last (λ l. subst (λ rest. AnyAssignment v outer (map assignment_view rest) y x) none l) (c.loop-assignment.invariant x y) in
    let whole = c.into_iter-function-iterator.ensures.into_iter_gives ∙ c.iter-function-items.ensures.rest in
    rw whole (beside all)

pub loop-function-preserved : goal.loop-function-preserved
loop-function-preserved c = λ x y.
    let left = rest_more (deref {X = FunctionDefinition}) c.loop-function.function-iterator c.next-in-loop-function.new.self c.next-in-loop-function.result
    c.in-Some-function.function c.in-Some-function.is c.next-in-loop-function.ensures.steps in
    one_more (c.in_ok-add_function.ensures x y) (λ m. subst (λ rest. AnyFunction (map function_view rest) y x) left m)
    (λ h. subst (λ rest. AnyFunction (map function_view rest) y x) (sym left) h) (c.loop-function.invariant x y)

pub returns : goal.returns
returns c = λ x y.
    let v = version_view c.args.version.now in
    let outer = frames_view c.args.parent.now in
    let none = rest_all (deref {X = FunctionDefinition}) c.loop-function.function-iterator c.next-in-loop-function.new.self c.next-in-loop-function.result
    c.in-None-function.is c.next-in-loop-function.ensures.steps in
    let all = at_last (λ l. subst (λ rest. AnyFunction (map function_view rest) y x) none l) (c.loop-function.invariant x y) in
    let reads = reads_all v outer (map assignment_view c.args.version.now.assignments.now) c.args.version.now.functions.now c.requires.whole (λ t. refl)
    c.iter-function-items.ensures.in_order y x in
    ((λ h. reads.0 (all.0 h)), (λ r. all.1 (reads.1 r)))
