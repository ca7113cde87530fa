-- Bytes split at a byte.
use Rattle.std.proofs.Common.{◌≡◌, ℕ, suc, ◌+◌, ◌≤◌, Bool, true, false, not, cond, eqb, get_or, ◌<◌, List, [], ◌∷◌, length, Option, None, Some, refl, ap}
use Rattle.std.proofs.Common.{arith, position}
use Rattle.std.specs.List.{onto_first, position_or_len, slice_split}
use Rattle.std.proofs.lemmas.Bool.{eqb-true, false_from_ne_true}
use Rattle.std.proofs.lemmas.Grind.{common_steps}
use Rattle.std.proofs.lemmas.List.Quantifiers.{position-Some}
use Rattle.std.proofs.lemmas.List.Sums.{position_or_len_is}
use Rattle.memchr.specs.Find.{IsFirstByte, is_byte}

-- the byte is at the index where it was found
pub found_at : (byte : ℕ) (bytes : List ℕ) (i : ℕ) → position (λ b. eqb b byte) bytes ≡ Some i → (i < length bytes) × (get_or bytes i 0 ≡ byte)
found_at byte bytes i found =
    let at = position-Some (λ b. eqb b byte) bytes i 0 found in
    (at.0, eqb-true (get_or bytes i 0) byte at.1)

-- the first place of a byte, if there is one
pub first_place : (byte : ℕ) (bytes : List ℕ) (place : Option ℕ) → IsFirstByte (is_byte byte) bytes place → place ≡ position (λ b. eqb b byte) bytes
first_place byte bytes None none =
    let lacks = λ (k : ℕ) (low : k < length bytes). false_from_ne_true (eqb (get_or bytes k 0) byte) (none k (omega arith) low) in
    let at = position_or_len_is (λ b. eqb b byte) bytes (length bytes) 0 (omega arith) lacks (λ within. absurd (omega arith)) in
    grind (arith, common_steps, at)
first_place byte bytes (Some k) first =
    let within : k < length bytes = first.0.high in
    let lacks = λ (j : ℕ) (low : j < k). false_from_ne_true (eqb (get_or bytes j 0) byte) (first.0.before j (omega arith) low) in
    let at = position_or_len_is (λ b. eqb b byte) bytes k 0 (omega arith) lacks (λ within. first.1) in
    grind (arith, common_steps, at)

-- bytes that lack a byte are one piece: the induction step, by whether the first byte is the one
whole_step : (t : Bool) (b n : ℕ) (bytes : List ℕ) (pieces : List (List ℕ)) → suc (length bytes) ≤ cond (not t) (1 + n) 0
    → (length bytes ≤ n → pieces ≡ bytes ∷ []) → cond t ([] ∷ pieces) (onto_first b pieces) ≡ (b ∷ bytes) ∷ []
whole_step true b n bytes pieces none whole = absurd (omega (arith, none))
whole_step false b n bytes pieces none whole = ap (onto_first b) (whole (omega (arith, none)))

pub split_whole : (byte : ℕ) (bytes : List ℕ) → length bytes ≤ position_or_len (λ b. eqb b byte) bytes → slice_split (λ b. eqb b byte) bytes ≡ bytes ∷ []
split_whole byte [] none = refl
split_whole byte (b ∷ bytes) none =
    whole_step (eqb b byte) b (position_or_len (λ b. eqb b byte) bytes) bytes (slice_split (λ b. eqb b byte) bytes) none (split_whole byte bytes)
