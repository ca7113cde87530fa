use Rattle.std.proofs.Common.{[], ap, ◌∙◌, unwrap_or}
use Rattle.std.proofs.lemmas.Iterator.Consumers.{nth_from_yields_List}
use Rattle.std.proofs.lemmas.Iterator.Splits.{YieldsList-from_lines}
use Rattle.just_report.proofs.Lines.{unwrap_now}
use Rattle.just_report.proofs.report.line_at.Goals as goal

pub returns : goal.returns
returns c =
    let lines = YieldsList-from_lines c.args.source.now c.lines.ensures.rest in
    let found = nth_from_yields_List c.nth.result c.nth.new.self c.args.number c.nth.ensures.ran lines in
    ap (λ r. r.now) c.unwrap_or.ensures ∙ unwrap_now c.nth.result _ ∙ ap (λ r. unwrap_or r []) found
