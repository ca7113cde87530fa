-- The bytes that a URI keeps.
use Rattle.std.proofs.Common.{◌≡◌, ◌≢◌, ℕ, ◌<◌, ◌≤◌, List, [], ◌∷◌, ◌++◌, Bool, true, false, not, ◌&&◌, ◌||◌, eqb, leb, cond, refl, sym, ap, ◌∙◌, inl, inr}
use Rattle.std.proofs.Common.{if◌then◌else◌, arith}
use Rattle.std.proofs.Math.Bool.{or-false}
use Rattle.std.specs.Char.{is_ascii_alphanumeric}
use Rattle.std.proofs.lemmas.Bool.{lt-ltb, le-ltb, lt-leb, ne_eqb, agree_below_at, cases_lt, and_right}
use Rattle.std.proofs.lemmas.Bool.Decides.{eqb_tells}
use Rattle.percent_encoding.specs.AsciiSet.{contains, should_percent_encode}
use Rattle.just_text.specs.Prelude.{EscapesReserved, percent_encode_byte}
use Rattle.percent_encoding.specs.Percent.{percent_encode, encode_byte}
use Rattle.percent_encoding.specs.declared.ascii_set.AsciiSet.{AsciiSet}
use Rattle.percent_encoding.specs.declared.ascii_set.TheConstants.{NON_ALPHANUMERIC}
use Rattle.just_text.specs.Uri.{is_unreserved, encoded as encoded_text}

-- the initial set lacks letters and digits
pub at_first : (b : ℕ) → b < 128 → contains NON_ALPHANUMERIC b ≡ not (is_ascii_alphanumeric b || false)
at_first b below =
    agree_below_at (contains NON_ALPHANUMERIC) (λ c. not (is_ascii_alphanumeric c)) 128 b refl below ∙ ap not (sym (or-false (is_ascii_alphanumeric b)))

marked : (a m : Bool) → false ≡ not (a || (m || true))
marked true m = refl
marked false true = refl
marked false false = refl

-- one byte removed from the set that lacks letters, digits and some marks
pub removed : (old new : AsciiSet) (mark : ℕ → Bool) (byte : ℕ) → contains new byte ≡ false → ((b : ℕ) → b < 128 → b ≢ byte → contains new b ≡ contains old b)
    → ((b : ℕ) → b < 128 → contains old b ≡ not (is_ascii_alphanumeric b || mark b)) → (b : ℕ) → b < 128
    → contains new b ≡ not (is_ascii_alphanumeric b || (mark b || eqb b byte))
removed old new mark byte gone others before b below =
    elim (eqb_tells b byte) [
      | inl w ↦ rw w.0 ((rw w.1 gone) ∙ marked (is_ascii_alphanumeric b) (mark b))
      | inr w ↦ rw w.0 (others b below w.1 ∙ (before b below ∙ ap (λ kept. not (is_ascii_alphanumeric b || kept)) (sym (or-false (mark b)))))
    ]

no_range : (low high b : ℕ) → high < b → (leb low b && leb b high) ≡ false
no_range low high b above = rw (lt-leb b high above) (and_right (leb low b) false refl)

-- each byte beyond ASCII is escaped
past : (b : ℕ) → 128 ≤ b → is_unreserved b ≡ false
past b above = rw (
  no_range 48 57 b (omega arith),
  no_range 65 90 b (omega arith),
  no_range 97 122 b (omega arith),
  ne_eqb b 45 (λ e. omega arith),
  ne_eqb b 95 (λ e. omega arith),
  ne_eqb b 46 (λ e. omega arith),
  ne_eqb b 33 (λ e. omega arith),
  ne_eqb b 126 (λ e. omega arith),
  ne_eqb b 42 (λ e. omega arith),
  ne_eqb b 39 (λ e. omega arith),
  ne_eqb b 40 (λ e. omega arith),
  ne_eqb b 41 (λ e. omega arith),
)

turned : (kept : Bool) (x y : List ℕ) → cond (not kept) x y ≡ cond kept y x
turned true x y = refl
turned false x y = refl

-- what the set escapes
encoded_byte : (set : AsciiSet) → EscapesReserved set → (b : ℕ) → encode_byte set b ≡ (if is_unreserved b then b ∷ [] else percent_encode_byte b)
unfolding should_percent_encode
encoded_byte set escapes b =
    elim (cases_lt b 128) [
      | inl below ↦ rw (lt-ltb b 128 below, escapes b below) (turned (is_unreserved b) (percent_encode_byte b) (b ∷ []))
      | inr above ↦ rw (le-ltb b 128 above, past b above)
    ]

pub encoded : (set : AsciiSet) → EscapesReserved set → (text : List ℕ) → percent_encode set text ≡ encoded_text text
unfolding percent_encode
encoded set escapes [] = refl
encoded set escapes (b ∷ bs) =
    rw (encoded_byte set escapes b) (ap (λ t. (if is_unreserved b then b ∷ [] else percent_encode_byte b) ++ t) (encoded set escapes bs))
