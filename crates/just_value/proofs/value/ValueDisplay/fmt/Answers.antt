use Rattle.std.proofs.Common.{true, ◌++◌, ◌≡◌, ◌≢◌, length, take, codes, sym, ap, refl, ◌∙◌, arith}
use Rattle.std.specs.Fmt.{HasWrittenStyled}
use Rattle.std.specs.List.{join_by}
use Rattle.std.proofs.Output.{has_written_styled_append, has_written_styled_of_eq}
use Rattle.std.proofs.lemmas.List.{take_all}
use Rattle.just_value.specs.Prelude.{quoted}
use Rattle.just_value.proofs.Texts.{joined_more, shown_many}
use Rattle.just_value.proofs.value.ValueDisplay.fmt.Goals as goal

pub loop-i-preserved : goal.loop-i-preserved
loop-i-preserved g c = λ flush.
    let took = g.W.Write.write_str_gives in
    let before = c.loop-i.invariant flush in
    let now = c.in_ok-write_element.ensures before.flush (refl {a = true}) in
    let x = c.index-elements-i.result in
    let e = joined_more quoted (codes ", ") c.elements-elements.result.now c.loop-i.i x (omega arith) c.index-elements-i.is in
    has_written_styled_of_eq took _ _ _ _ (rw c.deref-in-loop-i.ensures e) (has_written_styled_append took _ _ _ _ _ before now)

pub returns-clause-styled : goal.returns-clause-styled
returns-clause-styled g c = λ flush ok.
    let took = g.W.Write.write_str_gives in
    let xs = c.elements-elements.result.now in
    let start : HasWrittenStyled took c.args.f.now (codes "[") c.write_str.new.self = c.in_ok-write_str.ensures.styled flush (refl {a = true}) in
    let all = c.loop-i.invariant start.flush in
    let whole : take c.loop-i.i c.elements-elements.result.now ≡ c.elements-elements.result.now =
    take_all c.loop-i.i c.elements-elements.result.now (omega arith) in
    let many : length xs ≢ 1 = λ e. c.if-elements-eq1.false e in
    has_written_styled_of_eq took _ _ _ _
    (sym (rw (← c.elements-elements.ensures) (shown_many xs many
    ∙ ap (λ ys. codes "[" ++ (join_by quoted (codes ", ") ys ++ codes "]")) (sym whole))))
    (has_written_styled_append took _ _ _ _ _ start (has_written_styled_append took _ _ _ _ _ all (c.write_str-2.ensures.styled all.flush ok)))
