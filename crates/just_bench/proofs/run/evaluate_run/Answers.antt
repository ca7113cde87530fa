use Rattle.just_bench.proofs.Printed.{case_printed}
use Rattle.just_bench.proofs.run.evaluate_run.Goals as goal

pub returns-clause-answer : goal.returns-clause-answer
returns-clause-answer g c = case_printed _ _ _ _ _ c.case_script.result c.around.result _ _ _ _ c.evaluate_module.result c.case_script.ensures.host
    c.around.ensures c.new-host.ensures.host c.case_script.ensures.rest c.in_ok-run.ensures c.evaluate_module.ensures.answer
