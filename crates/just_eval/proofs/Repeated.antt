-- A value's elements, repeated.
use Rattle.std.proofs.Common.{◌≡◌, ◌∙◌, ◌+◌, ℕ, zero, suc, ◌++◌, ap, sym, add-one}
use Rattle.std.proofs.lemmas.List.{append-nil, append_assoc}
use Rattle.just_eval.specs.Prelude.{Value, repeated}

-- appending one repetition is prepending one
one_after : (v : Value) (n : ℕ) → repeated n v ++ v ≡ repeated (suc n) v
one_after v zero = sym (append-nil v)
one_after v (suc n) = append_assoc v (repeated n v) v ∙ ap (λ w. v ++ w) (one_after v n)

pub once_more : (v : Value) (n : ℕ) → repeated n v ++ v ≡ repeated (n + 1) v
once_more v n = one_after v n ∙ ap (λ k. repeated k v) (sym (add-one n))
