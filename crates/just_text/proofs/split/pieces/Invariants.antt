use Rattle.std.proofs.Common.{◌≡◌, map}
use Rattle.just_text.proofs.split.pieces.Given as goal

abbrev pub invariant-loop-piece : goal.invariant-loop-piece
invariant-loop-piece l = l.all.items ≡ map (λ piece. piece.now) l.yielded
