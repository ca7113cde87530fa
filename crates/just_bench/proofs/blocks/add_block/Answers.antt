use Rattle.std.proofs.Common.{map, sym}
use Rattle.std.proofs.lemmas.List.{drop-drop}
use Rattle.just_bench.specs.Prelude.{taken_view}
use Rattle.just_bench.proofs.blocks.add_block.Goals as goal

pub returns-in_ok-print_block-in-Some-clause-rest : goal.returns-in_ok-print_block-in-Some-clause-rest
returns-in_ok-print_block-in-Some-clause-rest c =
    let e = c.in-Some.ensures.number in
    rw (← e) (sym (drop-drop 1 c.args.at (map taken_view c.args.taken.now)))
