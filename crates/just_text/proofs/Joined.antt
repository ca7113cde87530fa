-- Joined texts.
use Rattle.std.proofs.Common.{◌≡◌, ℕ, ◌<◌, List, [], ◌∷◌, ◌++◌, length, refl, ap, sym, ◌∙◌, arith, flat_map, if◌then◌else◌, ◌==◌}
use Rattle.std.specs.List.{join_by, onto_first}
use Rattle.std.proofs.lemmas.Bool.{ne_eqb}
use Rattle.std.proofs.lemmas.List.{append_assoc, append-nil, flat_map_more}

-- the texts with the separator between them
abbrev pub joined_by : List ℕ → List (List ℕ) → List ℕ
joined_by separator texts = join_by (λ text. text) separator texts

-- a text added before the others
pub joined_more : (separator x : List ℕ) (ps : List (List ℕ)) → 0 < length ps → joined_by separator (x ∷ ps) ≡ x ++ (separator ++ joined_by separator ps)
joined_more separator x [] some = absurd (omega arith)
joined_more separator x (p ∷ ps) some = ap (λ t. x ++ t) (append_assoc separator p (flat_map (λ y. separator ++ y) ps))

-- a byte added before the first text
pub joined_onto : (separator : List ℕ) (b : ℕ) (ps : List (List ℕ)) → 0 < length ps → joined_by separator (onto_first b ps) ≡ b ∷ joined_by separator ps
joined_onto separator b [] some = absurd (omega arith)
joined_onto separator b (p ∷ ps) some = refl

-- a text added after the others
pub joined_after : (separator : List ℕ) (ps : List (List ℕ)) (x : List ℕ)
    → joined_by separator (ps ++ x ∷ []) ≡ (joined_by separator ps ++ (if length ps == 0 then [] else separator)) ++ x
joined_after separator [] x = append-nil x
joined_after separator (p ∷ ps) x =
    rw (ne_eqb (length (p ∷ ps)) 0 (λ e. absurd (omega arith)))
    (ap (λ t. p ++ t) (sym (flat_map_more (λ y. separator ++ y) [] ps x)) ∙ simp append_assoc)
