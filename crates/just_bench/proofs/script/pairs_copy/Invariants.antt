use Rattle.std.proofs.Common.{◌≡◌, take, map}
use Rattle.just_bench.specs.Prelude.{pair_view}
use Rattle.just_bench.proofs.script.pairs_copy.Given as goal

abbrev pub invariant-loop-command : goal.invariant-loop-command
invariant-loop-command l = map pair_view l.copies.items ≡ map pair_view (take l.command-index l.pairs)
