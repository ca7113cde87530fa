-- The texts of arguments.
use Rattle.std.proofs.Common.{◌≡◌, ℕ, suc, ◌+◌, ◌<◌, ◌≤◌, List, [], ◌∷◌, ◌++◌, sym, ap, ◌∙◌, add-one, drop-cons, length, drop, map}
use Rattle.std.proofs.lemmas.List.{append-nil, append_assoc, drop_all}
use Rattle.std.proofs.lemmas.Option.{unwrap_or-slice_get}
use Rattle.just_builtins.specs.Prelude.{Text, Value, argument_at}

-- the rest begins with the argument
ahead : (vs : List Value) (i : ℕ) (v : Value) → i < length vs → argument_at vs i ≡ v → drop i vs ≡ v ∷ drop (suc i) vs
ahead vs i v within is = drop-cons vs i [] within ∙ ap (λ y. y ∷ drop (suc i) vs) (sym (unwrap_or-slice_get vs i []) ∙ is)

-- one more text, after those before it
pub one_more : (g : Value → Text) (vs : List Value) (i : ℕ) (v : Value) (old new : List Text) (item : Text) (all : List Text) → i < length vs
    → argument_at vs i ≡ v → new ≡ old ++ item ∷ [] → item ≡ g v → old ++ map g (drop i vs) ≡ all → new ++ map g (drop (i + 1) vs) ≡ all
one_more g vs i v old new item all within is grown says so =
    let left = map g (drop (i + 1) vs) in
    let rest : item ∷ left ≡ map g (drop i vs)
    = ap (λ t. t ∷ left) says ∙ ap (λ j. g v ∷ map g (drop j vs)) (add-one i) ∙ sym (ap (map g) (ahead vs i v within is)) in
    ap (λ ts. ts ++ left) grown ∙ append_assoc old (item ∷ []) left ∙ ap (λ ts. old ++ ts) rest ∙ so

-- and nothing is left after the last
pub all_done : (g : Value → Text) (vs : List Value) (i : ℕ) (texts all : List Text) → length vs ≤ i → texts ++ map g (drop i vs) ≡ all → texts ≡ all
all_done g vs i texts all past so = sym (append-nil texts) ∙ ap (λ rest. texts ++ map g rest) (sym (drop_all i vs past)) ∙ so
