-- Where a text may be cut.
use Rattle.std.proofs.Common.{◌≡◌, ℕ, zero, suc, ◌+◌, ◌-◌, ◌<◌, ◌≤◌, Bool, true, false, cond, eqb, [], ◌∷◌, ◌++◌, length, drop, refl, ap, sym, ◌∙◌, subst}
use Rattle.std.proofs.Common.{arith, get_or, ◌⊎◌, inl, inr}
use Rattle.std.proofs.lemmas.Bool.Decides.{Decides-eqb, nat_tests}
use Rattle.std.proofs.lemmas.List.{get_or-drop, get_or_append_left, length-append, length-drop}
use Rattle.std.proofs.lemmas.Slice.Eq.{starts_is}
use Rattle.std.proofs.lemmas.Str.{IsCharBoundary-after_ascii}
use Rattle.std.specs.Str.{IsCharBoundary, IsUtf8}
use Rattle.just_syntax.specs.Plain.{Text}
use Rattle.just_syntax.specs.NameBytes.{is_name_part}
use Rattle.just_syntax.specs.Unindented.{is_gap}
use Rattle.just_lexer.specs.Front.{begins_with}
use Rattle.just_lexer.specs.Span.{one_if, passed, span}
use Rattle.just_lexer.proofs.Spans.{suc_is_no_zero}
use Rattle.just_lexer.specs.declared.span.Rule.{Rule}
use Rattle.just_lexer.specs.declared.span.Rule.TheVariants.{Blanks, Name}

-- ---- the bytes of a front

-- a text that begins with a front
pub begun : (t front : Text) → begins_with t front ≡ true → t ≡ front ++ drop (length front) t
unfolding begins_with
begun t front e = (starts_is Decides-eqb t front (begins_with t front) refl).0 e

pub front_within : (t front : Text) → begins_with t front ≡ true → length front ≤ length t
front_within t front e = omega (arith, ap length (begun t front e), length-append front (drop (length front) t))

pub front_byte : (t front : Text) (i : ℕ) → begins_with t front ≡ true → i < length front → get_or t i 0 ≡ get_or front i 0
front_byte t front i e low =
    ap (λ xs. get_or xs i 0) (begun t front e) ∙ get_or_append_left front (drop (length front) t) 0 i low

-- ---- cuts

-- after an ASCII byte
pub cut_after : (t : Text) (n : ℕ) → IsUtf8 t → 0 < n → n ≤ length t → get_or t (n - 1) 0 < 128 → IsCharBoundary t n
cut_after t zero utf8 some within low = absurd (omega arith)
cut_after t (suc n) utf8 some within low =
    let same : suc n - 1 ≡ n = omega arith in
    let more : n + 1 ≡ suc n = omega arith in
    subst (λ k. IsCharBoundary t k) more (IsCharBoundary-after_ascii t n utf8 (omega arith) (rw same at low))

-- after a front that ends with an ASCII byte, which comes after the first n bytes
pub cut_front : (t front : Text) (n : ℕ) → IsUtf8 t → n ≤ length t → begins_with (drop n t) front ≡ true → 0 < length front
    → get_or front (length front - 1) 0 < 128 → IsCharBoundary t (n + length front)
cut_front t front n utf8 inside e some low =
    let within : n + length front ≤ length t = omega (arith, front_within (drop n t) front e, length-drop n t) in
    let last : n + length front - 1 ≡ n + (length front - 1) = omega arith in
    let byte : get_or t (n + (length front - 1)) 0 ≡ get_or front (length front - 1) 0 =
    sym (get_or-drop n t (length front - 1) 0) ∙ front_byte (drop n t) front (length front - 1) e (omega arith) in
    cut_after t (n + length front) utf8 (omega arith) within (rw (last, byte) low)

-- after the front of a text
pub cut_begin : (t front : Text) → IsUtf8 t → begins_with t front ≡ true → 0 < length front → get_or front (length front - 1) 0 < 128
    → IsCharBoundary t (length front)
cut_begin t front utf8 e some low =
    cut_after t (length front) utf8 some (front_within t front e) (rw (front_byte t front (length front - 1) e (omega arith)) low)

-- before an ASCII byte, or at the end
pub cut_before : (t : Text) (n : ℕ) → n ≤ length t → get_or (drop n t) 0 0 < 128 → IsCharBoundary t n
cut_before t n within low =
    let add : n + 0 ≡ n = omega arith in
    let byte : get_or t n 0 < 128 = rw (get_or-drop n t 0 0, add) at low in
    (within, λ inside high. absurd (omega arith))

-- ---- spans

pub span_within : (rule : Rule) (k : ℕ) (t : Text) → span rule k t ≤ length t
span_within rule k [] = omega arith
span_within rule (suc k) (b ∷ t) = omega (arith, span_within rule k t)
span_within rule zero (b ∷ t) =
    let P : Bool → Type 0 = λ p. cond p 0 (suc (span rule (passed rule (b ∷ t) - 1) t)) ≤ suc (length t) in
    let both : (p : Bool) → P p = λ p. elim p as P [ true ↦ omega arith | false ↦ omega (arith, span_within rule (passed rule (b ∷ t) - 1) t) ] in
    both (eqb (passed rule (b ∷ t)) 0)

stops_at : (rule : Rule) (b : ℕ) (t : Text) (p : ℕ) → passed rule (b ∷ t) ≡ p
    → ((k : ℕ) → span rule k t < length t → passed rule (drop (span rule k t) t) ≡ 0)
    → cond (eqb p 0) 0 (suc (span rule (p - 1) t)) < suc (length t)
    → passed rule (drop (cond (eqb p 0) 0 (suc (span rule (p - 1) t))) (b ∷ t)) ≡ 0
stops_at rule b t zero e later low = e
stops_at rule b t (suc k) e later low =
    let less : suc k - 1 ≡ k = omega arith in
    let before = rw (less, suc_is_no_zero k) at low in
    rw (less, suc_is_no_zero k) (later k (omega (arith, before)))

-- where a span ends, the rule passes nothing
pub span_stops : (rule : Rule) (k : ℕ) (t : Text) → span rule k t < length t → passed rule (drop (span rule k t) t) ≡ 0
span_stops rule k [] low = absurd (omega arith)
span_stops rule (suc k) (b ∷ t) low = span_stops rule k t (omega arith)
span_stops rule zero (b ∷ t) low = stops_at rule b t (passed rule (b ∷ t)) refl (λ k. span_stops rule k t) low

-- a rule passes ASCII bytes one at a time
abbrev pub PassesAscii : Rule → Type 0
PassesAscii rule = (t : Text) → (passed rule t ≡ 0) ⊎ ((passed rule t ≡ 1) × (get_or t 0 0 < 128))

ascii_at : (rule : Rule) (b : ℕ) (t : Text) (p : ℕ) → (p ≡ 0) ⊎ ((p ≡ 1) × (b < 128)) → ((i : ℕ) → i < span rule 0 t → get_or t i 0 < 128)
    → (i : ℕ) → i < cond {A = ℕ} (eqb p 0) 0 (suc (span rule (p - 1) t)) → get_or (b ∷ t) i 0 < 128
ascii_at rule b t p (inl e) later i low = absurd (let none : i < 0 = rw e at low in omega (arith, none))
ascii_at rule b t p (inr (e, ascii)) later zero low = ascii
ascii_at rule b t p (inr (e, ascii)) later (suc i) low = later i (let more = rw e at low in omega (arith, more))

-- each byte of such a span is ASCII
pub ascii_span : (rule : Rule) → PassesAscii rule → (t : Text) (i : ℕ) → i < span rule 0 t → get_or t i 0 < 128
ascii_span rule ascii [] i low = absurd (omega arith)
ascii_span rule ascii (b ∷ t) i low = ascii_at rule b t (passed rule (b ∷ t)) (ascii (b ∷ t)) (ascii_span rule ascii t) i low

-- ---- single bytes

blank_is_ascii : (b : ℕ) → is_gap b ≡ true → b < 128
blank_is_ascii b e = grind (arith, nat_tests)

part_is_ascii : (b : ℕ) → is_name_part b ≡ true → b < 128
part_is_ascii b e = grind (arith, nat_tests)

one_if_or : (b : Bool) (P : Type 0) → (b ≡ true → P) → (one_if b ≡ 0) ⊎ ((one_if b ≡ 1) × P)
one_if_or true P holds = inr (refl, holds refl)
one_if_or false P holds = inl refl

pub blanks_ascii : (t : Text) → (passed Blanks t ≡ 0) ⊎ ((passed Blanks t ≡ 1) × (get_or t 0 0 < 128))
unfolding passed
blanks_ascii [] = inl refl
blanks_ascii (b ∷ t) = one_if_or (is_gap b) (b < 128) (blank_is_ascii b)

pub names_ascii : (t : Text) → (passed Name t ≡ 0) ⊎ ((passed Name t ≡ 1) × (get_or t 0 0 < 128))
unfolding passed
names_ascii [] = inl refl
names_ascii (b ∷ t) = one_if_or (is_name_part b) (b < 128) (part_is_ascii b)
