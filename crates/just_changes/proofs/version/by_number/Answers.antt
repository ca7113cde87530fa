use Rattle.std.proofs.Common.{◌∙◌, ap, sym, map, nat_eq}
use Rattle.std.specs.Option.{option_or}
use Rattle.std.specs.Map.Iter.{deref}
use Rattle.std.proofs.lemmas.Map.Iter.{rest_all, rest_more}
use Rattle.just_changes.specs.Prelude.{assignment_in, assignment_numbered, assignment_view}
use Rattle.just_syntax.specs.declared.assignment.Assignment.{Assignment}
use Rattle.just_changes.proofs.Versions.{or_more, or_none}
use Rattle.just_changes.proofs.version.by_number.Goals as goal

pub loop-assignment-preserved : goal.loop-assignment-preserved
loop-assignment-preserved c = λ n.
    let left = rest_more (deref {X = Assignment}) c.loop-assignment.assignment-iterator c.next.new.self c.next.result c.in-Some.assignment c.in-Some.is
    c.next.ensures.steps in
    let rest = assignment_numbered (map assignment_view c.next.new.self) n in
    ap (λ o. option_or o rest) (c.in_ok-add.ensures n)
    ∙ or_more (assignment_in c.loop-assignment.all n) rest (nat_eq c.in-Some.assignment.now.number n) (assignment_view c.in-Some.assignment.now)
    ∙ ap (λ vs. option_or (assignment_in c.loop-assignment.all n) (assignment_numbered (map assignment_view vs) n)) (sym left)
    ∙ c.loop-assignment.invariant n

pub returns : goal.returns
returns c = λ n.
    let none = rest_all (deref {X = Assignment}) c.loop-assignment.assignment-iterator c.next.new.self c.next.result c.in-None.is c.next.ensures.steps in
    sym (or_none (assignment_in c.loop-assignment.all n))
    ∙ ap (λ vs. option_or (assignment_in c.loop-assignment.all n) (assignment_numbered (map assignment_view vs) n)) (sym none)
    ∙ c.loop-assignment.invariant n
