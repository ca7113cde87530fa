use Rattle.std.proofs.Common.{◌≡◌, ◌==◌, [], if◌then◌else◌, map, length, string_bytes}
use Rattle.just_text.proofs.Joined.{joined_by}
use Rattle.just_text.proofs.replace.with_text_substituted.Given as goal

-- the pieces so far are joined, and `to` comes between them and the next
abbrev pub invariant-loop-piece : goal.invariant-loop-piece
invariant-loop-piece l = record {
  so_far : string_bytes l.replaced ≡ joined_by l.to (map (λ piece. piece.now) l.yielded);
  next : l.between ≡ (if length (map (λ piece. piece.now) l.yielded) == 0 then [] else l.to);
}
