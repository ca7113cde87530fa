use Rattle.just_resolve.proofs.Unordered.{no_order}
use Rattle.just_resolve.proofs.laws.no_order_resolves_a_cycle.Goals as goal

pub returns : goal.returns
returns c = λ functions assignments outer names order cycle found unbound is_order resolved.
    no_order functions assignments outer order cycle.members cycle.known cycle.ring found unbound is_order resolved
