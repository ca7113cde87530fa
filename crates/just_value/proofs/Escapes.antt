-- The escapes of a text, byte by byte.
use Rattle.std.proofs.Common.{◌≡◌, ℕ, suc, ◌+◌, ◌-◌, ◌<◌, ◌≤◌, if◌then◌else◌, nat_lt, List, []}
use Rattle.std.proofs.Common.{◌∷◌, ◌++◌, length, take, drop, get_or, refl, ap, sym, subst, ◌∙◌, inl}
use Rattle.std.proofs.Common.{inr, arith, chars, IsUtf8, append_assoc, append-nil, lt-ltb, length-drop, get_or-drop, flat_map}
use lib.Utf8.{encode, encodes}
use Rattle.std.proofs.lemmas.Bool.{cases_lt}
use Rattle.std.proofs.lemmas.Bool.Decides.{nat_tests}
use Rattle.std.proofs.lemmas.List.{get_or-take, length-take, take_more, take_all}
use Rattle.std.proofs.lemmas.List.Concat.{flat_map-append}
use Rattle.std.proofs.lemmas.Str.{encode_ascii, encodes-chars, inside_one}
use Rattle.just_value.specs.Prelude.{IsPlain, escaped}

-- a byte as a quoted text shows it
unfoldable pub escaped_byte : ℕ → List ℕ
escaped_byte b = if nat_lt b 128 then escaped b else b ∷ []

pub ascii_byte : (b : ℕ) → b < 128 → escaped_byte b ≡ escaped b
unfolding escaped_byte
ascii_byte b ascii = rw (lt-ltb b 128 ascii) refl

pub plain_byte : (b : ℕ) → (b < 128 → escaped b ≡ b ∷ []) → escaped_byte b ≡ b ∷ []
unfolding escaped_byte
plain_byte b plain = grind (arith, nat_tests)

wide_char : (c : ℕ) → 128 ≤ c → escaped c ≡ encode c
wide_char c wide = grind (arith, nat_tests)

wide_bytes : (bs : List ℕ) → ((i : ℕ) → i < length bs → 128 ≤ get_or bs i 0) → flat_map escaped_byte bs ≡ bs
wide_bytes [] wide = refl
wide_bytes (b ∷ bs) wide =
    let first : escaped_byte b ≡ b ∷ [] = plain_byte b (λ ascii. absurd (omega (arith, wide 0 (omega arith)))) in
    rw (first, wide_bytes bs (λ i within. wide (suc i) (omega arith))) refl

high_byte : (c : ℕ) → 128 ≤ c → (i : ℕ) → i < length (encode c) → 128 ≤ get_or (encode c) i 0
high_byte c wide i within = grind (arith, inside_one c [] (encode c) i (sym (append-nil (encode c))) within)

bytes_of_char : (c : ℕ) → flat_map escaped_byte (encode c) ≡ escaped c
bytes_of_char c = elim (cases_lt c 128) [
  | inl ascii ↦ ap (flat_map escaped_byte) (encode_ascii c ascii) ∙ (append-nil (escaped_byte c) ∙ ascii_byte c ascii)
  | inr wide ↦ wide_bytes (encode c) (high_byte c wide) ∙ sym (wide_char c wide)
]

bytes_of_chars : (cs : List ℕ) → flat_map escaped_byte (encodes cs) ≡ flat_map escaped cs
bytes_of_chars [] = refl
bytes_of_chars (c ∷ cs) = rw (flat_map-append escaped_byte (encode c) (encodes cs), bytes_of_char c, bytes_of_chars cs) refl

-- one more byte of the text
one_more : (bs shown : List ℕ) (at : ℕ) → at < length bs → flat_map escaped_byte (take at bs) ≡ shown
    → flat_map escaped_byte (take (at + 1) bs) ≡ shown ++ escaped_byte (get_or bs at 0)
one_more bs shown at within is =
    let byte = get_or bs at 0 in
    rw (take_more bs at 0 within, flat_map-append escaped_byte (take at bs) (byte ∷ []), is, append-nil (escaped_byte byte)) refl

-- a byte without an escape joins the run
pub run_goes_on : (bs done : List ℕ) (start at : ℕ) → start ≤ at → at < length bs → escaped_byte (get_or bs at 0) ≡ get_or bs at 0 ∷ []
    → flat_map escaped_byte (take at bs) ≡ done ++ take (at - start) (drop start bs)
    → flat_map escaped_byte (take (at + 1) bs) ≡ done ++ take (at + 1 - start) (drop start bs)
run_goes_on bs done start at low within plain is =
    let place : start + (at - start) ≡ at = omega arith in
    let next : at + 1 - start ≡ at - start + 1 = omega arith in
    let run = take_more (drop start bs) (at - start) 0 (omega (arith, length-drop start bs)) in
    one_more bs _ at within is ∙ rw (plain, next, run, get_or-drop, place) (append_assoc done _ _)

-- an escape ends the run
pub run_ends : (bs done : List ℕ) (start at : ℕ) → at < length bs → flat_map escaped_byte (take at bs) ≡ done ++ take (at - start) (drop start bs)
    → flat_map escaped_byte (take (at + 1) bs)
    ≡ (done ++ (take (at - start) (drop start bs) ++ escaped_byte (get_or bs at 0))) ++ take (at + 1 - (at + 1)) (drop (at + 1) bs)
run_ends bs done start at within is =
    let none : at + 1 - (at + 1) ≡ 0 = omega arith in
    one_more bs _ at within is ∙ rw (none, append-nil) (append_assoc done _ _)

-- the last run ends with the text
pub text_ends : (bs done : List ℕ) (start at : ℕ) → IsUtf8 bs → at ≡ length bs
    → flat_map escaped_byte (take at bs) ≡ done ++ take (at - start) (drop start bs)
    → done ++ drop start bs ≡ flat_map escaped (chars bs)
text_ends bs done start at utf8 end is =
    let run : take (at - start) (drop start bs) ≡ drop start bs = take_all _ _ (omega (arith, length-drop start bs)) in
    let text : take at bs ≡ bs = take_all at bs (omega arith) in
    sym (rw (run, text) at is) ∙ (ap (flat_map escaped_byte) (sym (encodes-chars bs utf8)) ∙ bytes_of_chars (chars bs))

-- bytes without an escape are shown as they are
plain_bytes : (bs : List ℕ) → ((i : ℕ) → i < length bs → IsPlain (get_or bs i 0)) → flat_map escaped_byte bs ≡ bs
plain_bytes [] plain = refl
plain_bytes (b ∷ bs) plain = rw (plain_byte b (plain 0 (omega arith)), plain_bytes bs (λ i within. plain (suc i) (omega arith))) refl

pub plain_front : (bs : List ℕ) (n : ℕ) → n ≤ length bs → ((k : ℕ) → k < n → IsPlain (get_or bs k 0)) → flat_map escaped_byte (take n bs) ≡ take n bs
plain_front bs n high plain =
    plain_bytes (take n bs) (λ i within.
    let here : i < n = omega (arith, length-take n bs) in
    subst IsPlain (sym (get_or-take n bs i 0 here)) (plain i here))

-- one more byte has no escape
pub plain_more : (bs : List ℕ) (n : ℕ) → ((k : ℕ) → k < n → IsPlain (get_or bs k 0)) → IsPlain (get_or bs n 0) → (k : ℕ) → k < n + 1 → IsPlain (get_or bs k 0)
plain_more bs n plain here k within = elim (cases_lt k n) [
  | inl below ↦ plain k below
  | inr above ↦ let same : n ≡ k = omega arith in subst (λ i. IsPlain (get_or bs i 0)) same here
]
