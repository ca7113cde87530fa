use Rattle.std.proofs.Common.{◌++◌, ap, map, string_bytes, ◌∙◌}
use Rattle.just_bench.specs.Prelude.{agreement_line, found_view, module_run_view, name_view}
use Rattle.just_bench.proofs.Both.{compared, first_refused, second_refused}
use Rattle.just_bench.proofs.blocks.print_both.Goals as goal

pub returns-in_default-clause-answer : goal.returns-in_default-clause-answer
returns-in_default-clause-answer g c =
    first_refused (string_bytes c.args.text.now) (string_bytes c.print_run.new.text) (rw c.in_default.is at c.in_ok-one.ensures.prints)

pub returns-in-Some-2-clause-answer : goal.returns-in-Some-2-clause-answer
returns-in-Some-2-clause-answer g c =
    compared (module_run_view c.args.run.now) (module_run_view c.print_run.new.run) (map name_view c.args.second.now) c.in_ok-one.ensures.run
    (found_view c.in-Some.one)
    (string_bytes c.args.text.now) (string_bytes c.print_run.new.text) (string_bytes c.print_run-2.new.text) (rw c.in-Some.is at c.in_ok-one.ensures.prints)
    (found_view c.in-Some-2.other) (string_bytes c.print_agreement.new.text) (rw c.in-Some-2.is at c.in_ok-other.ensures.prints)
    (c.in_ok-print_agreement-in-Some-2.ensures ∙ ap (λ agree. string_bytes c.print_run-2.new.text ++ agreement_line agree) c.agree.ensures)

pub returns-clause-answer : goal.returns-clause-answer
returns-clause-answer g c =
    second_refused (module_run_view c.args.run.now) (module_run_view c.print_run.new.run) (map name_view c.args.second.now) c.in_ok-one.ensures.run
    (found_view c.in-Some.one)
    (string_bytes c.args.text.now) (string_bytes c.print_run.new.text) (string_bytes c.print_run-2.new.text) (rw c.in-Some.is at c.in_ok-one.ensures.prints)
    (rw c.in-None.is at c.in_ok-other.ensures.prints)
