-- Braces of format strings.
use Rattle.std.proofs.Common.{◌≡◌, ℕ, suc, ◌<◌, cond, [], ◌∷◌, ◌++◌, length, take, refl, ap, ◌∙◌, sym, subst, arith}
use Rattle.std.proofs.Common.{Option, Some, None, MatchOption, codes}
use Rattle.std.proofs.lemmas.List.{append_assoc, take-append-drop}
use Rattle.std.specs.Borrow.{Bor}
use Rattle.std.specs.Str.Pattern.{FindsText, LacksTextAt, SplitsAroundMatch}
use Rattle.just_syntax.specs.Plain.{Text}
use Rattle.just_expression_parser.specs.Literal.{braces}
use Rattle.just_expression_parser.proofs.Stripped.{starts_not}

-- no `{{{{` begins before this place
abbrev Lacks : Text → ℕ → Type 0
Lacks s n = (i : ℕ) → i < n → LacksTextAt (codes "{{{{") s i

lacks_rest : (b : ℕ) (s : Text) (n : ℕ) → Lacks (b ∷ s) (suc n) → Lacks s n
lacks_rest b s n lacks = λ i small. lacks (suc i) (omega arith)

-- a byte where none begins is kept
kept : (b : ℕ) (s : Text) (n : ℕ) → Lacks (b ∷ s) (suc n) → braces 0 (b ∷ s) ≡ b ∷ braces 0 s
kept b s n lacks = ap (λ t. cond t (codes "{{" ++ braces 3 s) (b ∷ braces 0 s)) (starts_not (codes "{{{{") (b ∷ s) (lacks 0 (omega arith)))

-- the text up to the first one and after it
cut_at : (front rest : Text) → Lacks (front ++ (codes "{{{{" ++ rest)) (length front)
    → braces 0 (front ++ (codes "{{{{" ++ rest)) ≡ front ++ (codes "{{" ++ braces 0 rest)
cut_at [] rest lacks = refl
cut_at (b ∷ front) rest lacks =
    kept b (front ++ (codes "{{{{" ++ rest)) (length front) lacks
    ∙ ap (λ t. b ∷ t) (cut_at front rest (lacks_rest b (front ++ (codes "{{{{" ++ rest)) (length front) lacks))

-- a text without any
same : (s : Text) → Lacks s (length s) → braces 0 s ≡ s
same [] lacks = refl
same (b ∷ s) lacks = kept b s (length s) lacks ∙ ap (λ t. b ∷ t) (same s (lacks_rest b s (length s) lacks))

-- what `split_once` gives
pub cut_once : (s : Text) (r : Option (Bor Text × Bor Text))
    → MatchOption r (FindsText (codes "{{{{") s None) (λ x. SplitsAroundMatch (FindsText (codes "{{{{")) s x.0.now x.1.now)
    → MatchOption r (braces 0 s ≡ s) (λ x. braces 0 s ≡ x.0.now ++ (codes "{{" ++ braces 0 x.1.now))
cut_once s None lacks = same s (λ i small. lacks i (omega arith))
cut_once s (Some x) (i, j, found, front, back, order, size, rest) =
    let whole : s ≡ x.0.now ++ (codes "{{{{" ++ x.1.now) = rw (front, back) (sym (take-append-drop i s) ∙ ap (λ t. take i s ++ t) found.1.split) in
    let none : Lacks s (length x.0.now) = λ k small. found.0 k (omega (arith, size)) in
    ap (braces 0) whole ∙ cut_at x.0.now x.1.now (subst (λ t. Lacks t (length x.0.now)) whole none)

-- a step of the loop
pub goes_on : (all rest front next whole : Text) → braces 0 rest ≡ front ++ (codes "{{" ++ braces 0 next) → all ++ braces 0 rest ≡ whole
    → ((all ++ front) ++ codes "{{") ++ braces 0 next ≡ whole
goes_on all rest front next whole cut so_far =
    append_assoc (all ++ front) (codes "{{") (braces 0 next) ∙ (append_assoc all front (codes "{{" ++ braces 0 next) ∙ (ap (λ t. all ++ t) (sym cut) ∙ so_far))

-- its end
pub is_done : (all rest whole : Text) → braces 0 rest ≡ rest → all ++ braces 0 rest ≡ whole → all ++ rest ≡ whole
is_done all rest whole same so_far = ap (λ t. all ++ t) (sym same) ∙ so_far

-- what holds of `None`, if there is no value
pub match_none : {X : Type 0} {A : Type 0} (B : X → Type 0) (r : Option X) → ((x : X) → r ≡ Some x → ⊥) → MatchOption r A B → A
match_none B None nothing held = held
match_none B (Some x) nothing held = absurd (nothing x refl)
