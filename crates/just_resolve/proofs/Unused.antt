-- Numbers beyond the used ones.
use Rattle.std.proofs.Common.{◌≡◌, ◌≤◌, ◌<◌, ◌+◌, inl, inr, ℕ, List, [], ◌∷◌, ◌++◌, map, take, get_or, length, ap, ◌∙◌, subst, sym, arith}
use Rattle.std.proofs.lemmas.List.{map-append, take_more}
use Rattle.just_syntax.specs.declared.name.Name.{Name}
use Rattle.just_resolve.specs.Prelude.{AreBelow, AreFree, AreNew, Frames, IsIn, Token, name_view}
use Rattle.just_resolve.proofs.Numbering.{above, free_distinct, free_unbound}

-- a greater bound, and one more number
pub below_more : (n m k : ℕ) (ks : List ℕ) → AreBelow n ks → n ≤ m → k < m → AreBelow m (ks ++ k ∷ [])
below_more n m k [] h up new = (new, tt)
below_more n m k (j ∷ ks) h up new = ((let low = h.0 in omega (arith, low, up)), below_more n m k ks h.1 up new)

below_each : (n k : ℕ) (ks : List ℕ) → AreBelow n ks → IsIn ks k → k < n
below_each n k [] h there = absurd there
below_each n k (j ∷ ks) h (inl same) = subst (λ i. i < n) same h.0
below_each n k (j ∷ ks) h (inr later) = below_each n k ks h.1 later

-- numbers that were taken beyond the used ones are new
pub are_new : (outer : Frames) (used : List ℕ) (start : ℕ) (ns : List ℕ) → AreBelow start used → AreFree outer start ns → AreNew used outer ns
are_new outer used start ns below free = record {
  distinct = free_distinct outer start ns free;
  unused = λ n there before.
      let low = above outer start ns free n there in
      let high = below_each start n used below before in
      absurd (omega (arith, low, high));
  unbound = λ n there bound. free_unbound outer start ns n free there bound;
}

-- ---- one more name

module _ (names : List Name) (i : ℕ) (d : Name) (old new : List (Token × ℕ)) (n : ℕ) (more : new ≡ old ++ (name_view (get_or names i d), n) ∷ []) where
  pub names_more : i < length names → map (λ p. p.0) old ≡ map name_view (take i names) → map (λ p. p.0) new ≡ map name_view (take (i + 1) names)
  names_more fits so_far =
      ap (map (λ p. p.0)) more ∙ map-append (λ p. p.0) old ((name_view (get_or names i d), n) ∷ []) ∙ ap (λ ts. ts ++ name_view (get_or names i d) ∷ []) so_far
      ∙ sym (ap (map name_view) (take_more names i d fits) ∙ map-append name_view (take i names) (get_or names i d ∷ []))

  pub numbers_more : map (λ p. p.1) new ≡ map (λ p. p.1) old ++ n ∷ []
  numbers_more = ap (map (λ p. p.1)) more ∙ map-append (λ p. p.1) old ((name_view (get_or names i d), n) ∷ [])
