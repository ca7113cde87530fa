use Rattle.std.proofs.Common.{map}
use Rattle.std.proofs.lemmas.Result.{IfOk-weaker}
use Rattle.just_resolve.specs.Prelude.{frames_view, parameter_view}
use Rattle.just_resolve.proofs.Unused.{are_new}
use Rattle.just_resolve.proofs.free_numbers.free_numbers.Goals as goal

pub returns-clause-new : goal.returns-clause-new
returns-clause-new c =
    IfOk-weaker c.numbers_from.result _ _ (λ all free. are_new (frames_view c.args.outer.now) _ c.in_ok-free.free.next
    (map (λ p. p.1) (map parameter_view all.items)) c.in_ok-free.ensures free) c.numbers_from.ensures.free
