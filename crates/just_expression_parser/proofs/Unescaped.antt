-- What escapes mean.
use Rattle.std.proofs.Common.{◌≡◌, ◌≢◌, ℕ, zero, suc, add-one, ◌+◌, ◌*◌, ◌^◌, ◌<◌, ◌≤◌, false, cond, eqb, [], ◌∷◌, ◌++◌, length, get_or}
use Rattle.std.proofs.Common.{drop, take}
use Rattle.std.proofs.Common.{Option, Some, None, MatchOption, refl, sym, ap, ◌∙◌, inl, inr, arith, option_and_then, pow-suc}
use Rattle.std.proofs.lemmas.Bool.{cases_lt, ne_eqb, lt-ltb, le-ltb, le-leb, lt-leb}
use Rattle.std.proofs.lemmas.List.{append_assoc, append-nil, at_drop_more, length-append}
use Rattle.std.proofs.lemmas.Str.{IsCharBoundary-after_ascii}
use Rattle.std.specs.Char.{IsScalar, InScalarRange, OutOfScalarRange, encode_utf8}
use Rattle.std.specs.Option.{SomeIff}
use Rattle.std.specs.Str.{IsCharBoundary, IsUtf8}
use Rattle.just_syntax.specs.Plain.{Text}
use Rattle.just_syntax.proofs.Lists.{LacksByte}
use Rattle.just_expression_parser.specs.Literal.{after_front, character, hex_digit, escape_meaning, meant, hexadecimal_after, scalar, unescaped, NoEscape}
use Rattle.just_expression_parser.specs.Literal.{Backslash, Unicode, Digits}

lacks_first : (c b : ℕ) (text : Text) → LacksByte c (b ∷ text) → eqb b c ≡ false
lacks_first c b text lacks = ne_eqb b c (lacks 0 (omega arith))

lacks_rest : (c b : ℕ) (text : Text) → LacksByte c (b ∷ text) → LacksByte c text
lacks_rest c b text lacks = λ i small. lacks (suc i) (omega arith)

-- ---- texts before a text

pub after_nothing : (o : Option Text) → after_front [] o ≡ o
after_nothing None = refl
after_nothing (Some t) = refl

after_after : (f g : Text) (o : Option Text) → after_front f (after_front g o) ≡ after_front (f ++ g) o
after_after f g None = refl
after_after f g (Some t) = ap Some (sym (append_assoc f g t))

-- ---- the loop over escapes

kept : (b : ℕ) (rest : Text) → eqb b 92 ≡ false → unescaped NoEscape (b ∷ rest) ≡ after_front (b ∷ []) (unescaped NoEscape rest)
kept b rest e = ap (λ t. cond t (unescaped Backslash rest) (after_front (b ∷ []) (unescaped NoEscape rest))) e

front_kept : (front rest : Text) → LacksByte 92 front → unescaped NoEscape (front ++ rest) ≡ after_front front (unescaped NoEscape rest)
front_kept [] rest lacks = sym (after_nothing (unescaped NoEscape rest))
front_kept (b ∷ front) rest lacks =
    kept b (front ++ rest) (lacks_first 92 b front lacks)
    ∙ (ap (after_front (b ∷ [])) (front_kept front rest (lacks_rest 92 b front lacks)) ∙ after_after (b ∷ []) front (unescaped NoEscape rest))

all_kept : (text : Text) → LacksByte 92 text → unescaped NoEscape text ≡ Some text
all_kept [] lacks = refl
all_kept (b ∷ text) lacks = kept b text (lacks_first 92 b text lacks) ∙ ap (after_front (b ∷ [])) (all_kept text (lacks_rest 92 b text lacks))

at_escape : (front tail rest : Text) → rest ≡ front ++ (92 ∷ tail) → LacksByte 92 front → unescaped NoEscape rest ≡ after_front front (unescaped Backslash tail)
at_escape front tail rest cut lacks = ap (unescaped NoEscape) cut ∙ front_kept front (92 ∷ tail) lacks

-- a step of the loop: a text up to a backslash, and what the escape means
pub goes_on : (all front tail rest m next : Text) (whole : Option Text) → (rest ≡ front ++ (92 ∷ tail)) × LacksByte 92 front
    → unescaped Backslash tail ≡ after_front m (unescaped NoEscape next) → after_front all (unescaped NoEscape rest) ≡ whole
    → after_front ((all ++ front) ++ m) (unescaped NoEscape next) ≡ whole
goes_on all front tail rest m next whole (cut, lacks) is so_far =
    sym (after_after (all ++ front) m (unescaped NoEscape next))
    ∙ (ap (after_front (all ++ front)) (sym is)
    ∙ (sym (after_after all front (unescaped Backslash tail)) ∙ (ap (after_front all) (sym (at_escape front tail rest cut lacks)) ∙ so_far)))

-- an escape that means nothing
pub refuses : (all front tail rest : Text) (whole : Option Text) → (rest ≡ front ++ (92 ∷ tail)) × LacksByte 92 front
    → unescaped Backslash tail ≡ None → after_front all (unescaped NoEscape rest) ≡ whole → None ≡ whole
refuses all front tail rest whole (cut, lacks) is so_far =
    ap (λ o. after_front all (after_front front o)) (sym is) ∙ (ap (after_front all) (sym (at_escape front tail rest cut lacks)) ∙ so_far)

-- the end
pub is_done : (all rest : Text) (whole : Option Text) → LacksByte 92 rest → after_front all (unescaped NoEscape rest) ≡ whole → Some (all ++ rest) ≡ whole
is_done all rest whole lacks so_far = ap (after_front all) (sym (all_kept rest lacks)) ∙ so_far

-- ---- the byte after a backslash

-- a byte that cannot be cut off
pub first_is_wide : (text : Text) (b : ℕ) (rest : Text) → IsUtf8 text → (IsCharBoundary text 1 → ⊥) → text ≡ b ∷ rest → 128 ≤ b
first_is_wide text b rest utf8 none e =
    elim (cases_lt b 128) [
      | inl small ↦ absurd (none (IsCharBoundary-after_ascii text 0 utf8 (rw e (omega arith)) (rw e small)))
      | inr wide ↦ wide
    ]

-- a byte that is cut off
pub first_is : (text first rest : Text) (b : ℕ) → first ≡ take 1 text → rest ≡ drop 1 text → length first ≡ 1 → b ≡ get_or first 0 0 → text ≡ b ∷ rest
first_is [] first rest b front back long is = absurd (omega (arith, long, ap length front))
first_is (x ∷ xs) first rest b front back long is =
    let same : b ≡ x = is ∙ ap (λ t. get_or t 0 0) front in
    ap (λ y. y ∷ xs) (sym same) ∙ ap (λ t. b ∷ t) (sym back)

no_meaning : (b : ℕ) → 128 ≤ b → escape_meaning b ≡ None
no_meaning b wide =
    rw (
      ne_eqb b 10 (λ e. omega (arith, e)),
      ne_eqb b 110 (λ e. omega (arith, e)),
      ne_eqb b 114 (λ e. omega (arith, e)),
      ne_eqb b 116 (λ e. omega (arith, e)),
      ne_eqb b 92 (λ e. omega (arith, e)),
      ne_eqb b 34 (λ e. omega (arith, e)),
    )

at_byte : (b : ℕ) (rest : Text) (o : Option (Option ℕ)) → eqb b 117 ≡ false → o ≡ escape_meaning b
    → unescaped Backslash (b ∷ rest) ≡ option_and_then (λ c. after_front (meant c) (unescaped NoEscape rest)) o
at_byte b rest o other is =
    ap (λ t. cond t (unescaped Unicode rest) (option_and_then (λ c. after_front (meant c) (unescaped NoEscape rest)) (escape_meaning b))) other
    ∙ ap (λ o. option_and_then (λ c. after_front (meant c) (unescaped NoEscape rest)) o) (sym is)

-- no escape begins with a byte that cannot be cut off
pub no_escape : (text : Text) → ((b : ℕ) (rest : Text) → text ≡ b ∷ rest → 128 ≤ b) → unescaped Backslash text ≡ None
no_escape [] wide = refl
no_escape (b ∷ rest) wide =
    let large : 128 ≤ b = wide b rest refl in
    at_byte b rest None (ne_eqb b 117 (λ e. omega (arith, e, large))) (sym (no_meaning b large))

-- an escape of one byte
pub one_byte : (text : Text) (b : ℕ) (rest : Text) (o : Option (Option ℕ)) → text ≡ b ∷ rest → b ≢ 117 → o ≡ escape_meaning b
    → unescaped Backslash text ≡ option_and_then (λ c. after_front (meant c) (unescaped NoEscape rest)) o
one_byte text b rest o e other is = ap (unescaped Backslash) e ∙ at_byte b rest o (ne_eqb b 117 other) is

-- an escape of a number
pub unicode_is : (text : Text) (b : ℕ) (rest : Text) (o : Option Text) → text ≡ b ∷ rest → b ≡ 117 → unescaped Unicode rest ≡ o → unescaped Backslash text ≡ o
unicode_is text b rest o e u is = ap (unescaped Backslash) (e ∙ ap (λ b. b ∷ rest) u) ∙ is

-- ---- `\u{..}`

-- the text from the character of digits on
abbrev pub from_character : Text → Option ℕ → Option Text
from_character rest o = option_and_then (λ c. after_front (encode_utf8 c) (unescaped NoEscape rest)) o

one_more : (digits : Text) (b : ℕ) (rest : Text) → eqb b 125 ≡ false → unescaped (Digits digits) (b ∷ rest) ≡ unescaped (Digits (digits ++ b ∷ [])) rest
one_more digits b rest e = ap (λ t. cond t (from_character rest (character digits)) (unescaped (Digits (digits ++ b ∷ [])) rest)) e

closed : (digits rest front : Text) → LacksByte 125 digits
    → unescaped (Digits front) (digits ++ (125 ∷ rest)) ≡ from_character rest (character (front ++ digits))
closed [] rest front lacks = ap (λ d. from_character rest (character d)) (sym (append-nil front))
closed (b ∷ digits) rest front lacks =
    one_more front b (digits ++ (125 ∷ rest)) (lacks_first 125 b digits lacks)
    ∙ (closed digits rest (front ++ b ∷ []) (lacks_rest 125 b digits lacks) ∙ ap (λ d. from_character rest (character d)) (append_assoc front (b ∷ []) digits))

unclosed : (text front : Text) → LacksByte 125 text → unescaped (Digits front) text ≡ None
unclosed [] front lacks = refl
unclosed (b ∷ text) front lacks = one_more front b text (lacks_first 125 b text lacks) ∙ unclosed text (front ++ b ∷ []) (lacks_rest 125 b text lacks)

-- no brace after `\u`
pub no_brace : (text : Text) → ((rest : Text) → text ≢ 123 ∷ rest) → unescaped Unicode text ≡ None
no_brace [] lacks = refl
no_brace (b ∷ rest) lacks = ap (λ t. cond t (unescaped (Digits []) rest) None) (ne_eqb b 123 (λ e. lacks rest (ap (λ x. x ∷ rest) e)))

-- only the first brace
pub one_brace : (text inner : Text) → text ≡ 123 ∷ inner → LacksByte 125 inner → unescaped Unicode text ≡ None
one_brace text inner e lacks = ap (unescaped Unicode) e ∙ unclosed inner [] lacks

-- both, with these digits in between, and with the character that they have
pub braced : (text inner digits rest : Text) (o : Option ℕ) → text ≡ 123 ∷ inner → (inner ≡ digits ++ (125 ∷ rest)) × LacksByte 125 digits
    → o ≡ character digits
    → unescaped Unicode text ≡ from_character rest o
braced text inner digits rest o e (cut, lacks) is =
    ap (unescaped Unicode) e ∙ (ap (unescaped (Digits [])) cut ∙ (closed digits rest [] lacks ∙ ap (from_character rest) (sym is)))

pub braced_shorter : (text inner digits rest : Text) → text ≡ 123 ∷ inner → inner ≡ digits ++ (125 ∷ rest) → length rest < length text
braced_shorter text inner digits rest e cut = omega (arith, ap length e, ap length cut, length-append digits (125 ∷ rest))

-- ---- numbers

-- the next digit
pub next_digit : (digits : Text) (i value : ℕ) → i < length digits
    → hexadecimal_after value (drop i digits) ≡ option_and_then (λ d. hexadecimal_after (value * 16 + d) (drop (i + 1) digits)) (hex_digit (get_or digits i 0))
next_digit digits i value small = at_drop_more (hexadecimal_after value) digits i 0 small

-- a digit is taken, and a bad one
pub digit_taken : (digits : Text) (i value d : ℕ) (whole : Option ℕ) → i < length digits → Some d ≡ hex_digit (get_or digits i 0)
    → hexadecimal_after value (drop i digits) ≡ whole → hexadecimal_after (value * 16 + d) (drop (i + 1) digits) ≡ whole
digit_taken digits i value d whole small is so_far =
    sym (next_digit digits i value small ∙ ap (λ o. option_and_then (λ d. hexadecimal_after (value * 16 + d) (drop (i + 1) digits)) o) (sym is)) ∙ so_far

pub digit_refused : (digits : Text) (i value : ℕ) (whole : Option ℕ) → i < length digits → None ≡ hex_digit (get_or digits i 0)
    → hexadecimal_after value (drop i digits) ≡ whole → None ≡ whole
digit_refused digits i value whole small is so_far =
    sym (next_digit digits i value small ∙ ap (λ o. option_and_then (λ d. hexadecimal_after (value * 16 + d) (drop (i + 1) digits)) o) (sym is)) ∙ so_far

-- the bounds of numbers of i digits
pub one_digit_more : (i v d : ℕ) → v < 16 ^ i → d < 16 → v * 16 + d < 16 ^ (i + 1)
one_digit_more i v d small digit = let power : 16 ^ (i + 1) ≡ 16 ^ i * 16 = rw add-one (pow-suc 16 i) in omega (arith, power)

pub five_digits : (i v : ℕ) → i < 6 → v < 16 ^ i → v < 1048576
five_digits zero v few small = omega arith
five_digits (suc zero) v few small = omega arith
five_digits (suc (suc zero)) v few small = omega arith
five_digits (suc (suc (suc zero))) v few small = omega arith
five_digits (suc (suc (suc (suc zero)))) v few small = omega arith
five_digits (suc (suc (suc (suc (suc zero))))) v few small = omega arith
five_digits (suc (suc (suc (suc (suc (suc i)))))) v few small = absurd (omega arith)

-- ---- characters

out_of_range : (n : ℕ) → OutOfScalarRange n → scalar n ≡ None
out_of_range n (inl (low, high)) = rw (le-ltb n 55296 low, lt-leb 57344 n (omega arith))
out_of_range n (inr high) = rw (le-ltb n 55296 (omega arith), le-leb 57344 n (omega arith), le-ltb n 1114112 high)

in_range : (n : ℕ) → InScalarRange n → scalar n ≡ Some n
in_range n (inl low) = rw (lt-ltb n 55296 low)
in_range n (inr (low, high)) = rw (le-ltb n 55296 (omega arith), le-leb 57344 n low, lt-ltb n 1114112 (omega arith))

pub scalar_is : (n : ℕ) (r : Option ℕ) → SomeIff r (IsScalar n) n → MatchOption r (OutOfScalarRange n) (λ _. InScalarRange n) → r ≡ scalar n
scalar_is n None value out = sym (out_of_range n out)
scalar_is n (Some c) value within = ap Some value.1 ∙ sym (in_range n within)
