use Rattle.std.proofs.Common.{◌-◌, drop, length, map, arith, sym, ◌∙◌, ap}
use Rattle.std.proofs.lemmas.List.{drop-map, length-drop, take_all}
use Rattle.just_bench.specs.Prelude.{name_view, next_number, taken_view}
use Rattle.just_bench.proofs.blocks.number_at.Goals as goal

pub returns-then-at-taken-clause-number : goal.returns-then-at-taken-clause-number
returns-then-at-taken-clause-number c =
    let taken = c.args.taken.now in
    c.next_number.ensures.number ∙ ap (λ coming. next_number coming (name_view c.args.name.now))
    (ap (map taken_view) (take_all (length taken - c.args.at) (drop c.args.at taken) (omega (arith, length-drop c.args.at taken)))
    ∙ sym (drop-map taken_view c.args.at taken))
