-- Numbers that are taken one after another.
use Rattle.std.proofs.Common.{◌≡◌, ◌≤◌, inl, inr, ℕ, suc, List, [], ◌∷◌, ◌++◌, refl, ap, sym, ◌∙◌, subst, arith}
use Rattle.just_resolve.specs.Prelude.{AreDistinct, AreFree, AreTaken, Frames, HasValue, IsIn, IsNextFree, value_in}
use Rattle.just_resolve.specs.Free.{number_after}

module _ (outer : Frames) where
  free_append : (start : ℕ) (xs ys : List ℕ) → AreFree outer start xs → AreFree outer (number_after start xs) ys → AreFree outer start (xs ++ ys)
  free_append start [] ys f g = g
  free_append start (x ∷ xs) ys f g = (f.0, free_append (suc x) xs ys f.1 g)

  after_append : (start : ℕ) (xs ys : List ℕ) → number_after start (xs ++ ys) ≡ number_after (number_after start xs) ys
  after_append start [] ys = refl
  after_append start (x ∷ xs) ys = after_append (suc x) xs ys

  -- some numbers, and then others
  pub taken_append : (start mid end : ℕ) (xs ys : List ℕ) → AreTaken outer start xs mid → AreTaken outer mid ys end → AreTaken outer start (xs ++ ys) end
  taken_append start mid end xs ys a b = record {
    free = free_append start xs ys a.free (subst (λ m. AreFree outer m ys) a.next b.free);
    next = b.next ∙ ap (λ m. number_after m ys) a.next ∙ sym (after_append start xs ys);
  }

  pub none_taken : (start : ℕ) → AreTaken outer start [] start
  none_taken start = record { free = tt; next = refl }

  -- one more number
  pub taken_more : (start mid n end : ℕ) (xs : List ℕ) → AreTaken outer start xs mid → IsNextFree outer mid n → end ≡ suc n
      → AreTaken outer start (xs ++ n ∷ []) end
  taken_more start mid n end xs a free is = taken_append start mid end xs (n ∷ []) a (record { free = (free, tt); next = is })

  pub above : (start : ℕ) (ns : List ℕ) → AreFree outer start ns → (k : ℕ) → IsIn ns k → start ≤ k
  above start [] f k h = absurd h
  above start (n ∷ ns) f k (inl same) = let low = f.0.from in omega arith
  above start (n ∷ ns) f k (inr later) = let low = f.0.from in let rest = above (suc n) ns f.1 k later in omega arith

  -- they are distinct
  pub free_distinct : (start : ℕ) (ns : List ℕ) → AreFree outer start ns → AreDistinct ns
  free_distinct start [] f = tt
  free_distinct start (n ∷ ns) f = ((λ h. let low = above (suc n) ns f.1 n h in absurd (omega arith)), free_distinct (suc n) ns f.1)

  -- none of them is bound
  pub free_unbound : (start : ℕ) (ns : List ℕ) (n : ℕ) → AreFree outer start ns → IsIn ns n → HasValue (value_in outer) n → ⊥
  free_unbound start [] n f h bound = h
  free_unbound start (k ∷ ns) n f (inl same) bound = f.0.free (subst (HasValue (value_in outer)) (sym same) bound)
  free_unbound start (k ∷ ns) n f (inr later) bound = free_unbound (suc k) ns n f.1 later bound

-- the first of some distinct numbers are distinct
pub first_distinct : (xs ys : List ℕ) → AreDistinct (xs ++ ys) → AreDistinct xs
first_distinct [] ys h = tt
first_distinct (x ∷ xs) ys h = ((λ k. h.0 (here xs ys x k)), first_distinct xs ys h.1)
  where
    here : (xs ys : List ℕ) (x : ℕ) → IsIn xs x → IsIn (xs ++ ys) x
    here [] ys x k = absurd k
    here (z ∷ zs) ys x (inl same) = inl same
    here (z ∷ zs) ys x (inr later) = inr (here zs ys x later)
