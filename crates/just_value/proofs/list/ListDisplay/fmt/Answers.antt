use Rattle.std.proofs.Common.{Ok, ◌≡◌, ◌+◌, ◌<◌, ◌++◌, ◌∷◌, [], length, take, sym, ap, ◌∙◌, arith, rules}
use Rattle.std.proofs.lemmas.List.{take_more, take_all, length-take-le}
use Rattle.just_syntax.proofs.Styled.{displays_plain}
use Rattle.just_value.proofs.Writes.{step, from_write, finish}
use Rattle.just_value.proofs.list.ListDisplay.fmt.Goals as goal

pub loop-i-preserved : goal.loop-i-preserved
loop-i-preserved g c = λ flush.
    let items = c.as_slice-items.result.now in
    let conjunction = c.args.self.now.conjunction.now in
    let within : c.loop-i.i < length c.as_slice-items.result.now = omega arith in
    let now = from_write g.W.Write.write_str_gives c.loop-i.f c.write_unstyled.new.f (Ok c.in_ok-write_unstyled.field-0) (search rules)
    c.parts_before.result.0.now c.parts_before.result.1.now c.parts_before.result.2.now _ c.parts_before.ensures (g.T.Display.output c.index-items-i.result)
    c.in_ok-write_unstyled.ensures.styled in
    let more : take (c.loop-i.i + 1) c.as_slice-items.result.now ≡ take c.loop-i.i c.as_slice-items.result.now ++ c.index-items-i.result ∷ [] =
    take_more c.as_slice-items.result.now c.loop-i.i c.index-items-i.result within
    ∙ ap (λ x. take c.loop-i.i c.as_slice-items.result.now ++ x ∷ []) (sym c.index-items-i.is) in
    rw more (step g.W.Write.write_str_gives c.args.f.now c.loop-i.f c.write_unstyled.new.f conjunction (length items) g.T.Display.output (take c.loop-i.i items)
    c.index-items-i.result (c.loop-i.invariant flush) (rw (length-take-le c.loop-i.i c.as_slice-items.result.now (omega arith)) now))

pub returns-clause-styled : goal.returns-clause-styled
returns-clause-styled g c =
    let all : take c.loop-i.i c.as_slice-items.result.now ≡ c.as_slice-items.result.now = take_all c.loop-i.i c.as_slice-items.result.now (omega arith) in
    rw (← c.as_slice-items.ensures.value) (finish g.W.Write.write_str_gives c.args.f.now c.loop-i.f (Ok tt) c.args.self.now.conjunction.now g.T.Display.output
    c.as_slice-items.result.now (λ flush. rw all at (c.loop-i.invariant flush)))

pub returns-clause-writes : goal.returns-clause-writes
returns-clause-writes g c = displays_plain g.W.Write.write_str_gives c.args.f.now c.loop-i.f (Ok tt) _ (returns-clause-styled g c)
