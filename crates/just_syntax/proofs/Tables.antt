-- Look-ups in tables.
use Rattle.std.proofs.Common.{◌≡◌, Bool, true, false, cond, List, [], ◌∷◌, map, Option, Some, refl, sym, ap, ◌∙◌, subst, option_map}
use Rattle.std.specs.Str.{bytes_eq}
use Rattle.just_syntax.specs.Prelude.{Text, value_at}

-- `option_map` of a choice
pub map_cond : {X Y : Type 0} (f : X → Y) (t : Bool) (a b : Option X) → option_map f (cond t a b) ≡ cond t (option_map f a) (option_map f b)
map_cond f true a b = refl
map_cond f false a b = refl

module _ {X Y : Type 0} (f : X → Y) (key : Y → Text) where
  -- a look-up commutes with `f`
  pub seen_at : (name : Text) (xs : List X) → value_at key name (map f xs) ≡ option_map f (value_at (λ x. key (f x)) name xs)
  seen_at name [] = refl
  seen_at name (x ∷ xs) =
      ap (cond (bytes_eq name (key (f x))) (Some (f x))) (seen_at name xs)
      ∙ sym (map_cond f (bytes_eq name (key (f x))) (Some x) (value_at (λ x. key (f x)) name xs))

  pub found_at : (name text : Text) (xs : List X) (o : Option X) → o ≡ value_at (λ x. key (f x)) text xs → text ≡ name
      → value_at key name (map f xs) ≡ option_map f o
  found_at name text xs o is same = seen_at name xs ∙ ap (λ t. option_map f (value_at (λ x. key (f x)) t xs)) (sym same) ∙ ap (option_map f) (sym is)

-- If All of a list implies One of its first value and All of the values after it, then it implies One of the value that
-- is found.
module _ {V : Type 0} (key : V → Text) (name : Text) (All : List V → Type 0) (One : V → Type 0) (first : (v : V) (vs : List V) → All (v ∷ vs) → One v)
    (after : (v : V) (vs : List V) → All (v ∷ vs) → All vs) where
  pub found_is : (vs : List V) (v : V) → All vs → value_at key name vs ≡ Some v → One v
  found_is [] v h e = absurd (cc)
  found_is (x ∷ xs) v h e = by (λ is. found_is xs v (after x xs h) is) (bytes_eq name (key x)) e
    where
      by : (value_at key name xs ≡ Some v → One v) → (b : Bool) → cond b (Some x) (value_at key name xs) ≡ Some v → One v
      by later true is = let same : x ≡ v = cc in subst One same (first x xs h)
      by later false is = later is
