-- A text split at the last occurrence of a byte.
use Rattle.std.proofs.Common.{◌≡◌, ◌≢◌, ℕ, zero, suc, ◌+◌, ◌-◌, ◌<◌, List, [], ◌∷◌, ◌++◌, length, take, drop, get_or, Option, Some, None, MatchOption}
use Rattle.std.proofs.Common.{option_map, Bool, not, eqb, sym, refl, ap, ◌∙◌, inl, inr, arith, take-append-drop, eqb-true}
use Rattle.std.specs.List.{before_last, after_last, suffix_len}
use Rattle.std.specs.Path.{rfind_below, rsplit_once}
use Rattle.std.proofs.lemmas.Bool.{eqb-false, ne_eqb, eq-eqb, cases_eq, cond_both, not_from_false, not_from_true}
use Rattle.std.proofs.lemmas.List.{drop_more, get_or-drop, length-drop, length-append, append_assoc, take_at, drop_at, get_or_at, get_or-append-add}
use Rattle.std.proofs.lemmas.List.Sums.{suffix_len_is}
use Rattle.just_syntax.proofs.Lists.{LacksByte}

-- r is the index of the last c below n, if there is one
abbrev IsLastIndex : ℕ → List ℕ → ℕ → Option ℕ → Type 0
IsLastIndex c text n r =
    MatchOption r ((i : ℕ) → i < n → get_or text i 0 ≢ c) (λ k. (k < n) × (get_or text k 0 ≡ c) × ((i : ℕ) → k < i → i < n → get_or text i 0 ≢ c))

wider : (c : ℕ) (text : List ℕ) (n : ℕ) (r : Option ℕ) → get_or text n 0 ≢ c → IsLastIndex c text n r → IsLastIndex c text (suc n) r
wider c text n None other none =
    λ i fits e. elim (cases_eq i n) [ inl here ↦ other (ap (λ j. get_or text j 0) (sym here) ∙ e) | inr below ↦ none i (omega arith) e ]
wider c text n (Some k) other (fits, at, after) = (
  omega arith,
  at,
  λ i above less e. elim (cases_eq i n) [
    | inl here ↦ other (ap (λ j. get_or text j 0) (sym here) ∙ e)
    | inr below ↦ after i above (omega arith) e
  ],
)

last_below : (c : ℕ) (text : List ℕ) (n : ℕ) → IsLastIndex c text n (rfind_below c text n)
last_below c text zero = λ i fits. absurd (omega arith)
last_below c text (suc n) =
    cond_both (eqb (get_or text n 0) c) (Some n) (rfind_below c text n) (IsLastIndex c text (suc n))
    (λ e. (omega arith, eqb-true (get_or text n 0) c e, λ i above fits. absurd (omega arith)))
    (λ e. wider c text n (rfind_below c text n) (eqb-false (get_or text n 0) c e) (last_below c text n))

parts_at : (c : ℕ) (text : List ℕ) (r : Option ℕ) → IsLastIndex c text (length text) r
    → MatchOption {T = List ℕ × List ℕ} (option_map (λ i. (take i text, drop (i + 1) text)) r) (LacksByte c text)
    (λ parts. (text ≡ parts.0 ++ c ∷ parts.1) × LacksByte c parts.1)
parts_at c text None none = none
parts_at c text (Some k) (fits, at, after) = (
  sym (take-append-drop k text) ∙ ap (λ t. take k text ++ t) (drop_more text k 0 fits ∙ ap (λ b. b ∷ drop (k + 1) text) at),
  λ i less e. after ((k + 1) + i) (omega arith) (omega (arith, length-drop (k + 1) text)) (sym (get_or-drop (k + 1) text i 0) ∙ e),
)

-- the specification of std's `rsplit_once`
pub rsplit_once_parts : (c : ℕ) (text : List ℕ)
    → MatchOption (rsplit_once c text) (LacksByte c text) (λ parts. (text ≡ parts.0 ++ c ∷ parts.1) × LacksByte c parts.1)
unfolding rsplit_once
rsplit_once_parts c text = parts_at c text (rfind_below c text (length text)) (last_below c text (length text))

-- the same split by `before_last` and `after_last`
abbrev not_at : ℕ → ℕ → Bool
not_at c b = not (eqb b c)

pub before_last_none : (c : ℕ) (text : List ℕ) → LacksByte c text → before_last (λ b. eqb b c) text ≡ []
before_last_none c text lacks =
    let n : suffix_len (not_at c) text ≡ length text - 0 =
    suffix_len_is (not_at c) text 0 0 (omega arith) (λ k above fits. not_from_false (eqb (get_or text k 0) c) (ne_eqb (get_or text k 0) c (lacks k fits)))
    (λ some. absurd (omega arith)) in
    let none : length text - suffix_len (not_at c) text - 1 ≡ 0 = omega (arith, n) in
    ap (λ k. take k text) none

suffix_at : (c : ℕ) (front back : List ℕ) → LacksByte c back → suffix_len (not_at c) (front ++ c ∷ back) ≡ length (front ++ c ∷ back) - (length front + 1)
suffix_at c front back lacks =
    let text = front ++ c ∷ back in
    let n : length text ≡ length front + suc (length back) = length-append front (c ∷ back) in
    suffix_len_is (not_at c) text (length front + 1) 0 (omega (arith, n))
    (λ k above fits.
    let i = k - (length front + 1) in
    let place : length front + suc i ≡ k = omega arith in
    let same : get_or text k 0 ≡ get_or back i 0 = ap (λ j. get_or text j 0) (sym place) ∙ get_or-append-add front (c ∷ back) (suc i) 0 in
    not_from_false (eqb (get_or text k 0) c) (ne_eqb (get_or text k 0) c (λ e. lacks i (omega (arith, n)) (sym same ∙ e))))
    (λ some.
    let place : (length front + 1) - 1 ≡ length front = omega arith in
    not_from_true (eqb (get_or text ((length front + 1) - 1) 0) c)
    (eq-eqb (get_or text ((length front + 1) - 1) 0) c (ap (λ j. get_or text j 0) place ∙ get_or_at front c back 0 (length front) refl)))

pub before_last_at : (c : ℕ) (front back : List ℕ) → LacksByte c back → before_last (λ b. eqb b c) (front ++ c ∷ back) ≡ front
before_last_at c front back lacks =
    let text = front ++ c ∷ back in
    let n : length text - suffix_len (not_at c) text - 1 ≡ length front = omega (arith, suffix_at c front back lacks, length-append front (c ∷ back)) in
    ap (λ k. take k text) n ∙ take_at front (c ∷ back) (length front) refl

pub after_last_at : (c : ℕ) (front back : List ℕ) → LacksByte c back → after_last (λ b. eqb b c) (front ++ c ∷ back) ≡ back
after_last_at c front back lacks =
    let text = front ++ c ∷ back in
    let n : length text - suffix_len (not_at c) text ≡ length front + 1 = omega (arith, suffix_at c front back lacks, length-append front (c ∷ back)) in
    ap (λ k. drop k text) n ∙ suffix front
  where
    suffix : (xs : List ℕ) → drop (length xs + 1) (xs ++ c ∷ back) ≡ back
    suffix xs = rw (← append_assoc xs (c ∷ []) back) (drop_at (xs ++ c ∷ []) back (length xs + 1) (length-append xs (c ∷ [])))
