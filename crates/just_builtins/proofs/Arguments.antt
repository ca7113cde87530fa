-- The arguments of a call.
use Rattle.std.proofs.Common.{◌≡◌, ℕ, ◌<◌, ◌≤◌, List, [], ◌∷◌, refl, sym, ap, ◌∙◌, arith, length, drop, get_or, unwrap_or, Option, Some, None, Bor}
use Rattle.std.proofs.Common.{option_map, slice_get}
use Rattle.std.proofs.lemmas.Option.{slice_get-get_or}
use Rattle.just_builtins.specs.Prelude.{Value, argument_at, values_given}

-- a value with exactly one element is the view of that element
pub only : (xs : List (List ℕ)) (x : List ℕ) (v : Value) (t : List ℕ) → xs ≡ v → length v ≡ 1 → x ≡ get_or xs 0 x → t ≡ x → v ≡ t ∷ []
only [] x v t e n g h = absurd (omega (arith, ap length e))
only (y ∷ []) x v t e n g h = sym e ∙ ap (λ u. u ∷ []) (sym g ∙ sym h)
only (y ∷ z ∷ zs) x v t e n g h = absurd (omega (arith, ap length e))

-- the argument at a position
pub read_at : (vs : List Value) (i : ℕ) (v : Value) → i < length vs → v ≡ get_or vs i v → argument_at vs i ≡ v
read_at vs i v within is = ap (λ found. unwrap_or found []) (slice_get-get_or vs i v within) ∙ sym is

-- the second of two arguments
pub second : (vs : List Value) (v : Value) → length vs ≤ 2 → 1 < length vs → argument_at vs 1 ≡ v → v ∷ [] ≡ drop 1 vs
second [] v n m a = absurd (omega arith)
second (x ∷ []) v n m a = absurd (omega arith)
second (x ∷ y ∷ []) v n m a = ap (λ u. u ∷ []) (sym a)
second (x ∷ y ∷ z ∷ zs) v n m a = absurd (omega arith)

-- the optional second argument
pub given_second : (v : Value) (given : Option (Bor Value)) → option_map (λ value. value.now) given ≡ slice_get (v ∷ values_given given) 1
given_second v None = refl
given_second v (Some w) = refl

-- the list of exactly one argument
pub one : (vs : List Value) (v : Value) → length vs ≡ 1 → argument_at vs 0 ≡ v → vs ≡ v ∷ []
one [] v n a = absurd (omega arith)
one (x ∷ []) v n a = ap (λ y. y ∷ []) a
one (x ∷ y ∷ ys) v n a = absurd (omega arith)

-- the first argument, and the others
pub first_of : (vs : List Value) (v : Value) → 1 ≤ length vs → argument_at vs 0 ≡ v → vs ≡ v ∷ drop 1 vs
first_of [] v n a = absurd (omega arith)
first_of (x ∷ xs) v n a = ap (λ y. y ∷ xs) a

pub two : (vs : List Value) (v w : Value) → length vs ≡ 2 → argument_at vs 0 ≡ v → argument_at vs 1 ≡ w → vs ≡ v ∷ w ∷ []
two [] v w n a b = absurd (omega arith)
two (x ∷ xs) v w n a b = ap (λ y. y ∷ xs) a ∙ ap (λ ys. v ∷ ys) (one xs w (omega arith) b)

pub three : (vs : List Value) (v w u : Value) → length vs ≡ 3 → argument_at vs 0 ≡ v → argument_at vs 1 ≡ w → argument_at vs 2 ≡ u → vs ≡ v ∷ w ∷ u ∷ []
three [] v w u n a b c = absurd (omega arith)
three (x ∷ xs) v w u n a b c = ap (λ y. y ∷ xs) a ∙ ap (λ ys. v ∷ ys) (two xs w u (omega arith) b c)
