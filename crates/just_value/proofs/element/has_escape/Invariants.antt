use Rattle.std.proofs.Common.{◌≡◌, ◌<◌, ℕ, false, get_or}
use Rattle.just_value.specs.Prelude.{IsPlain}
use Rattle.just_value.proofs.element.has_escape.Given as goal

-- unless an escape was found, none of the bytes so far has one
abbrev pub invariant-loop-byte : goal.invariant-loop-byte
invariant-loop-byte l = l.found ≡ false → (k : ℕ) → k < l.byte-index → IsPlain (get_or l.bytes k 0)
