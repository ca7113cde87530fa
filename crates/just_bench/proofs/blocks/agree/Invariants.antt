use Rattle.std.proofs.Common.{◌≡◌, map}
use Rattle.std.specs.List.{list_all}
use Rattle.just_bench.specs.Prelude.{Bound, agree, bindings_left, bound_at, bound_view, found_view, frames_view, own_frame}
use Rattle.just_bench.specs.Blocks.{is_alike}
use Rattle.just_bench.proofs.blocks.agree.Given as goal

-- the remaining bindings decide the result
abbrev pub invariant-loop-binding : goal.invariant-loop-binding
invariant-loop-binding l =
    list_all (λ (b : Bound). is_alike ((found_view l.one).asked b.number) ((found_view l.other).asked b.number) b
    (bound_at b.number (own_frame (frames_view l.other.scope)))) (map bound_view (bindings_left l.binding-iterator))
    ≡ agree (found_view l.one) (found_view l.other)
