use Rattle.std.proofs.Common.{◌-◌, drop, length, arith, sym, ◌∙◌, ap}
use Rattle.std.proofs.lemmas.List.{drop-map, length-drop, take_all}
use Rattle.just_bench.specs.Prelude.{recorded_view}
use Rattle.just_bench.proofs.blocks.asked_since.Goals as goal

pub returns-then-before-questions : goal.returns-then-before-questions
returns-then-before-questions g c =
    let questions = c.questions-questions.result.now in
    rw (take_all (length questions - c.args.before) (drop c.args.before questions) (omega (arith, length-drop c.args.before questions)))
    (sym (drop-map recorded_view c.args.before questions) ∙ ap (λ kept. drop c.args.before kept) c.questions-questions.ensures)
