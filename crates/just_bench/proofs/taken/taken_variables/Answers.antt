use Rattle.std.proofs.Common.{false}
use Rattle.just_bench.specs.Prelude.{is_member}
use Rattle.just_bench.proofs.Places.{places_same}
use Rattle.just_bench.proofs.taken.taken_variables.Goals as goal

pub loop-name-init : goal.loop-name-init
loop-name-init c = rw c.in_ok-taken.ensures.items (places_same (is_member c.in_ok-seen.seen) (λ n. false) _ c.in_ok-seen.ensures)
