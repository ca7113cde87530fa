use Rattle.std.proofs.Common.{string_bytes}
use Rattle.just_bench.specs.Prelude.{case_view, const_ended, frames_view, stage_state_of, stage_view}
use Rattle.just_bench.proofs.Stages.{status_printed}
use Rattle.just_bench.proofs.settled.evaluate_const.Goals as goal

pub returns-clause-answer : goal.returns-clause-answer
returns-clause-answer c =
    let stage = c.in_ok-stage.stage in
    status_printed c.print_outcome.result (case_view c.args.case) (frames_view c.args.parent.now) (stage_view stage) stage.lists c.in_ok-resolved.resolved
    (const_ended stage_state_of c.evaluate-outcome.result)
    (string_bytes c.args.text.now) (string_bytes c.print_unless_resolved.new.text) (string_bytes c.print_outcome.new.text)
    c.in_ok-stage.ensures.constants c.in_ok-stage.ensures.lists c.in_ok-resolved.ensures c.evaluate-outcome.ensures c.in_ok-print_unless_resolved.ensures
    c.print_outcome.ensures.printed c.print_outcome.ensures.ends
