use Rattle.std.proofs.Common.{length, sym, ap, ◌∙◌}
use Rattle.just_case_reader.proofs.Counts.{was_new, was_there}
use Rattle.just_case_reader.proofs.builder.insert_new.Goals as goal

pub returns-then-len-earlier-clause-bad : goal.returns-then-len-earlier-clause-bad
returns-then-len-earlier-clause-bad g c = was_there _ c.args.table.now c.args.value c.len-earlier.ensures.in_order (sym c.len-earlier.ensures.count
    ∙ sym c.if-len-earlier.true ∙ c.len.ensures.count ∙ ap length c.in_ok-insert.ensures.ok)

pub returns-else-len-earlier-clause-new : goal.returns-else-len-earlier-clause-new
returns-else-len-earlier-clause-new g c = was_new _ c.args.table.now c.args.value c.len-earlier.ensures.in_order
    (λ same. c.if-len-earlier.false (c.len.ensures.count ∙ ap length c.in_ok-insert.ensures.ok ∙ sym same ∙ sym c.len-earlier.ensures.count))
