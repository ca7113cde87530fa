-- What is constant before a run keeps its value in the run, in terms of the two scopes.
use Rattle.std.specs.Prelude.{◌≡◌, ◌⊎◌, ℕ, Bool, false, Some, None}
use Rattle.just_value.specs.Frames.{Bound, Frames, bound_at, own_frame}

-- For a number that is not open and that the stage's scope binds, the run's scope binds the same value, or the run did
-- not reach it.
abbrev pub KeepsConstants : (ℕ → Bool) → Frames → Frames → Type 0
KeepsConstants is_open stage run =
    (n : ℕ) (settled : Bound) → is_open n ≡ false → bound_at n (own_frame stage) ≡ Some settled
    → (bound_at n (own_frame run) ≡ None)
    ⊎ ((bound : Bound) × (bound_at n (own_frame run) ≡ Some bound) × (bound.value ≡ settled.value))
