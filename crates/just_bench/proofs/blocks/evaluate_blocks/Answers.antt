use Rattle.just_bench.proofs.Both.{blocks_printed}
use Rattle.just_bench.proofs.blocks.evaluate_blocks.Goals as goal

pub returns-clause-answer : goal.returns-clause-answer
returns-clause-answer g c =
    blocks_printed _ _ _ _ _ _ c.in_ok-script_copy.field-0 c.case_script.result c.around.result c.around-2.result _ _ _ _ _ c.print_runs.result
    c.in_ok-script_copy.ensures c.around.ensures c.new-one_host.ensures.host c.case_script.ensures.host c.around-2.ensures c.new-other_host.ensures.host
    c.case_script.ensures.rest c.in_ok-run.ensures c.print_runs.ensures.answer
