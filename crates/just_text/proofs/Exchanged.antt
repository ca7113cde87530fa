-- Texts with one byte instead of another.
use Rattle.std.proofs.Common.{◌≡◌, ℕ, zero, suc, ◌<◌, List, [], ◌∷◌, ◌++◌, length, take, drop}
use Rattle.std.proofs.Common.{get_or, map, refl, ap, sym, ◌∙◌, arith, slice_set, inl, inr, flat_map, eqb, IsAscii}
use Rattle.std.proofs.lemmas.Bool.{cases_Bool, cond_both}
use Rattle.std.proofs.lemmas.Str.Ascii.{IsAscii-map}
use Rattle.just_text.specs.Prelude.{exchanged, replaced, substituted}
use Rattle.just_text.proofs.Runs.{replaced_byte}

-- one more byte is exchanged
pub exchanged_next : (f : ℕ → ℕ) (bs : List ℕ) (i : ℕ) → i < length bs
    → slice_set (map f (take i bs) ++ drop i bs) i (f (get_or (map f (take i bs) ++ drop i bs) i 0)) ≡ map f (take (suc i) bs) ++ drop (suc i) bs
exchanged_next f [] i within = absurd (omega arith)
exchanged_next f (b ∷ bs) zero within = refl
exchanged_next f (b ∷ bs) (suc i) within = ap (λ t. f b ∷ t) (exchanged_next f bs i (omega arith))

-- an ASCII text stays one
pub exchanged_ascii : (from to : ℕ) (bs : List ℕ) → to < 128 → IsAscii bs → IsAscii (map (exchanged from to) bs)
exchanged_ascii from to bs small = IsAscii-map (exchanged from to) bs (λ b low. cond_both (eqb b from) to b (λ x. x < 128) (λ e. small) (λ e. low))

-- a byte is substituted by one byte
pub substituted_byte : (from to : ℕ) (bs : List ℕ) → flat_map (substituted from (to ∷ [])) bs ≡ map (exchanged from to) bs
substituted_byte from to [] = refl
substituted_byte from to (b ∷ bs) = elim (cases_Bool (eqb b from)) [
  | inl e ↦ rw e (ap (λ t. to ∷ t) (substituted_byte from to bs))
  | inr e ↦ rw e (ap (λ t. b ∷ t) (substituted_byte from to bs))
]

-- a text that is one byte, substituted
pub one_byte_replaced : (byte : ℕ) (from to text : List ℕ) → from ≡ byte ∷ [] → flat_map (substituted byte to) text ≡ replaced text from to
one_byte_replaced byte from to text one = sym (replaced_byte byte to text) ∙ ap (λ f. replaced text f to) (sym one)

-- a text that is one byte, replaced by one byte
pub one_byte_exchanged : (byte other : ℕ) (from to text : List ℕ) → from ≡ byte ∷ [] → to ≡ other ∷ []
    → map (exchanged byte other) text ≡ replaced text from to
one_byte_exchanged byte other from to text one another =
    sym (substituted_byte byte other text) ∙ (ap (λ t. flat_map (substituted byte t) text) (sym another) ∙ one_byte_replaced byte from to text one)
