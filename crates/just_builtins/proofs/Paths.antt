-- Joined paths.
use Rattle.std.proofs.Common.{◌≡◌, ℕ, zero, suc, ◌<◌, List, [], ◌∷◌, sym, ap, ◌∙◌, arith, length, drop}
use Rattle.std.specs.Path.{path_join}
use Rattle.just_builtins.specs.Prelude.{Text, Value, all_joined, argument_at, first}
use Rattle.just_text.specs.Path.{joined_paths}
use Rattle.just_text.proofs.Slashes.{joined_is}

-- one more path, joined to those before it
pub one_more : (base text new : Text) (vs : List Value) (i : ℕ) → i < length vs → argument_at vs i ≡ text ∷ [] → new ≡ path_join base text
    → all_joined new (drop (suc i) vs) ≡ all_joined base (drop i vs)
one_more base text new [] i within is e = absurd (omega arith)
one_more base text new (v ∷ vs) zero within is e = ap (λ path. all_joined path vs) (e ∙ (joined_is base text ∙ ap (λ w. joined_paths base (first w)) (sym is)))
one_more base text new (v ∷ vs) (suc i) within is e = one_more base text new vs i (omega arith) is e
