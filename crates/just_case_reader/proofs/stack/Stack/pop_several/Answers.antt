use Rattle.std.proofs.Common.{map, ◌∙◌, arith}
use Rattle.std.proofs.lemmas.List.{length-map, length-reverse}
use Rattle.just_case_reader.specs.Prelude.{Nil, stack_view, view}
use Rattle.just_case_reader.proofs.Stacks.{taken_from, too_few}
use Rattle.just_case_reader.proofs.stack.Stack.pop_several.Goals as goal

pub returns-then-len-count-clause-bad : goal.returns-then-len-count-clause-bad
returns-then-len-count-clause-bad c =
    let stack = stack_view c.args.self.now in
    let counted = length-reverse (map view c.args.self.now.expressions.items) ∙ length-map c.args.self.now.expressions.items view in
    too_few c.args.count Nil stack (omega (arith, c.if-len-count.true, c.len.ensures, counted))

pub returns-clause-ok : goal.returns-clause-ok
returns-clause-ok c =
    let all = c.args.self.now.expressions.items in
    let taken = c.in_ok-expressions in
    rw c.pop_levels.ensures (taken_from all c.pop_parts.new.parts.items taken.expressions.items c.args.count taken.ensures.taken taken.ensures.count)
