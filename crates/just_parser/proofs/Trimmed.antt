-- Lines without the empty ones at the end.
use Rattle.std.specs.Prelude.{ℕ, suc, ◌≡◌, ◌==◌, true, false, List, [], ◌∷◌, ◌++◌, length}
use Rattle.std.proofs.Common.{◌∙◌, ap, arith, inl, inr, refl, sym}
use Rattle.std.proofs.lemmas.Bool.Decides.{eqb_tells}
use Rattle.just_parser.specs.Plain.{Line}
use Rattle.just_parser.specs.Recipes.{trimmed, with_first_line}

kept_before : (first : Line) (rest : List Line) (last : Line) → with_first_line first (rest ++ last ∷ []) ≡ first ∷ (rest ++ last ∷ [])
kept_before [] [] last = refl
kept_before [] (line ∷ rest) last = refl
kept_before (fragment ∷ fragments) [] last = refl
kept_before (fragment ∷ fragments) (line ∷ rest) last = refl

empty_is_none : (n : ℕ) → (suc n == 0) ≡ true → ⊥
empty_is_none n is =
    elim (eqb_tells (suc n) 0) as (λ _. ⊥) [
      | inl same ↦ omega (arith, same.1)
      | inr differ ↦ true_is_not_false (sym is ∙ differ.0)
    ]
  where
    true_is_not_false : true ≡ false → ⊥
    true_is_not_false same = absurd (cc)

-- an empty line at the end is left out
pub without_empty : (lines : List Line) (last : Line) → (length last == 0) ≡ true → trimmed (lines ++ last ∷ []) ≡ trimmed lines
without_empty [] [] is = refl
without_empty (first ∷ rest) [] is = ap (with_first_line first) (without_empty rest [] is)
without_empty lines (fragment ∷ fragments) is = absurd (empty_is_none (length fragments) is)

-- another one is kept, and all before it
pub with_full : (lines : List Line) (last : Line) → (length last == 0) ≡ false → trimmed (lines ++ last ∷ []) ≡ lines ++ last ∷ []
with_full lines [] is = absurd (cc)
with_full [] (fragment ∷ fragments) is = refl
with_full (first ∷ rest) (fragment ∷ fragments) is =
    ap (with_first_line first) (with_full rest (fragment ∷ fragments) is) ∙ kept_before first rest (fragment ∷ fragments)
