use Rattle.just_bench.specs.Prelude.{RecordsAndAsks, inner_host, recording, records_view, seen}
use Rattle.just_bench.proofs.Seen.{extends_seen}
use Rattle.just_bench.proofs.blocks.print_turn.Goals as goal

pub returns-in-Ok-clause-extends : goal.returns-in-Ok-clause-extends
returns-in-Ok-clause-extends g c =
    extends_seen (λ old question answer new. RecordsAndAsks g.H.Host.step (inner_host old) (records_view old) question answer (inner_host new)
    (records_view new)) (recording g.H.Host.step) seen (λ a q x b step. step)
    c.args.host.now c.extend.new.host (rw c.in-Ok.is at c.in_ok-bound.ensures.extends)

pub returns-in-Err-clause-extends : goal.returns-in-Err-clause-extends
returns-in-Err-clause-extends g c =
    extends_seen (λ old question answer new. RecordsAndAsks g.H.Host.step (inner_host old) (records_view old) question answer (inner_host new)
    (records_view new)) (recording g.H.Host.step) seen (λ a q x b step. step)
    c.args.host.now c.extend.new.host (rw c.in-Err.is at c.in_ok-bound.ensures.extends)
