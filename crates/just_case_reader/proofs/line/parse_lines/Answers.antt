use Rattle.std.proofs.Common.{◌<◌, length, rules}
use Rattle.just_case_reader.specs.Prelude.{case_line_view}
use Rattle.just_case_reader.proofs.Lines.{lines_more}
use Rattle.just_case_reader.proofs.line.parse_lines.Goals as goal

pub loop-rest-preserved : goal.loop-rest-preserved
loop-rest-preserved c =
    let some : 0 < length c.loop-rest.rest.now = search rules in
    let said = rw c.split_line.ensures.line at c.in_ok-parse_line.ensures in
    let more = lines_more case_line_view c.args.case.now c.loop-rest.rest.now c.loop-rest.lines.items c.in_ok-parse_line.field-0 some said
    c.loop-rest.invariant in
    rw (c.in_ok-push.ensures.items, c.split_line.ensures.rest) more
