-- A text around a byte that it contains, or lacks.
use Rattle.std.proofs.Common.{◌≡◌, ◌≢◌, ℕ, suc, ◌<◌, List, [], ◌∷◌, ◌++◌, length, take, drop, map, Option, Some, None, false, cond, eqb, refl, ap, sym}
use Rattle.std.proofs.Common.{◌∙◌, arith}
use Rattle.std.specs.Str.{NoCharPasses}
use Rattle.std.specs.Str.Pattern.{HasCharAt}
use Rattle.std.proofs.lemmas.List.{take-append-drop, map_push}
use Rattle.std.proofs.lemmas.Bool.{ne_eqb, eq-eqb}
use Rattle.std.proofs.lemmas.Str.Pattern.{NoCharPasses-char, drop_at_char}
use Rattle.just_syntax.proofs.Lists.{LacksByte}
use Rattle.just_value.specs.Prelude.{Positional, after_last, cut_after_last, cut_at_first, directory_and_tail, is_dots, override_of, tail_before}
use Rattle.just_value.specs.Prelude.{with_directory, with_override_or_word, with_word}
use Rattle.just_value.specs.Positional.{after_overrides, with_next}

pub first_none : (c : ℕ) (bs : List ℕ) → LacksByte c bs → cut_at_first c bs ≡ None
first_none c [] lacks = refl
first_none c (b ∷ bs) lacks = rw (ne_eqb b c (lacks 0 (omega arith)), first_none c bs (λ i h. lacks (suc i) (omega arith))) refl

pub first_found : (c : ℕ) (xs ys : List ℕ) → LacksByte c xs → cut_at_first c (xs ++ c ∷ ys) ≡ Some (xs, ys)
first_found c [] ys lacks = rw (eq-eqb c c refl) refl
first_found c (b ∷ bs) ys lacks = rw (ne_eqb b c (lacks 0 (omega arith)), first_found c bs ys (λ i h. lacks (suc i) (omega arith))) refl

pub last_none : (c : ℕ) (bs : List ℕ) → LacksByte c bs → cut_after_last c bs ≡ None
last_none c [] lacks = refl
last_none c (b ∷ bs) lacks = rw (last_none c bs (λ i h. lacks (suc i) (omega arith)), ne_eqb b c (lacks 0 (omega arith))) refl

pub last_found : (c : ℕ) (xs ys : List ℕ) → LacksByte c ys → cut_after_last c (xs ++ c ∷ ys) ≡ Some (xs ++ c ∷ [], ys)
last_found c [] ys lacks = rw (last_none c ys lacks, eq-eqb c c refl) refl
last_found c (b ∷ bs) ys lacks = ap (after_last c b (bs ++ c ∷ ys)) (last_found c bs ys lacks)

-- the text around the byte that a search found
round : (c : ℕ) (s : List ℕ) (i j : ℕ) → c < 128 → HasCharAt c s i j → s ≡ take i s ++ c ∷ drop j s
round c s i j ascii found = sym (take-append-drop i s) ∙ ap (λ t. take i s ++ t) (drop_at_char c s i j found ascii)

lacks : (c : ℕ) (s : List ℕ) → c < 128 → NoCharPasses (λ d. eqb d c) s → LacksByte c s
lacks c s ascii none = λ k h. NoCharPasses-char c s k none ascii h

pub first_missed : (c : ℕ) (s : List ℕ) → c < 128 → NoCharPasses (λ d. eqb d c) s → cut_at_first c s ≡ None
first_missed c s ascii none = first_none c s (lacks c s ascii none)

pub first_split : (c : ℕ) (s : List ℕ) (i j : ℕ) → c < 128 → NoCharPasses (λ d. eqb d c) (take i s) × HasCharAt c s i j
    → cut_at_first c s ≡ Some (take i s, drop j s)
first_split c s i j ascii (none, found) = ap (cut_at_first c) (round c s i j ascii found) ∙ first_found c (take i s) (drop j s) (lacks c (take i s) ascii none)

pub last_missed : (c : ℕ) (s : List ℕ) → c < 128 → NoCharPasses (λ d. eqb d c) s → cut_after_last c s ≡ None
last_missed c s ascii none = last_none c s (lacks c s ascii none)

pub last_split : (c : ℕ) (s : List ℕ) (i j : ℕ) → c < 128 → NoCharPasses (λ d. eqb d c) (drop j s) × HasCharAt c s i j
    → cut_after_last c s ≡ Some (take i s ++ c ∷ [], drop j s)
last_split c s i j ascii (none, found) = ap (cut_after_last c) (round c s i j ascii found) ∙ last_found c (take i s) (drop j s) (lacks c (drop j s) ascii none)

-- the meaning of the first word after the overrides
no_dots_here : (word : List ℕ) (o : Option (List ℕ × List ℕ)) → is_dots word ≡ false → directory_and_tail word ≡ o
    → after_overrides word [] ≡ with_directory word [] o
no_dots_here word o dots e =
    ap (λ b. cond b (record { arguments = []; overrides = []; search_directory = Some word }) (with_directory word [] (directory_and_tail word))) dots
    ∙ ap (with_directory word []) e

pub with_slash : (word front tail d : List ℕ) (arguments : List (List ℕ)) (overrides : List (List ℕ × List ℕ)) → is_dots word ≡ false
    → directory_and_tail word ≡ Some (front ++ 47 ∷ [], tail) → d ≡ front ++ 47 ∷ [] → arguments ≡ tail_before tail []
    → with_override_or_word (record { arguments = []; overrides = overrides; search_directory = None }) word None
    ≡ record { arguments = arguments; overrides = overrides; search_directory = Some d }
with_slash word front tail d arguments overrides dots cut e more =
    ap (λ (m : Positional). let p : Positional = record { arguments = m.arguments; overrides = overrides; search_directory = m.search_directory } in p)
    (no_dots_here word (Some (front ++ 47 ∷ [], tail)) dots cut)
    ∙ (ap (λ (l : List (List ℕ)). let p : Positional = record { arguments = l; overrides = overrides; search_directory = Some (front ++ 47 ∷ []) } in p)
    (sym more)
    ∙ ap (λ (x : List ℕ). let p : Positional = record { arguments = arguments; overrides = overrides; search_directory = Some x } in p) (sym e))

pub without_slash : (word : List ℕ) (arguments : List (List ℕ)) (overrides : List (List ℕ × List ℕ)) (directory : Option (List ℕ)) → is_dots word ≡ false
    → directory_and_tail word ≡ None → directory ≡ None → arguments ≡ word ∷ []
    → with_override_or_word (record { arguments = []; overrides = overrides; search_directory = None }) word None
    ≡ record { arguments = arguments; overrides = overrides; search_directory = directory }
without_slash word arguments overrides directory dots cut e more =
    ap (λ (m : Positional). let p : Positional = record { arguments = m.arguments; overrides = overrides; search_directory = m.search_directory } in p)
    (no_dots_here word None dots cut)
    ∙ (ap (λ (l : List (List ℕ)). let p : Positional = record { arguments = l; overrides = overrides; search_directory = None } in p) (sym more)
    ∙ ap (λ (x : Option (List ℕ)). let p : Positional = record { arguments = arguments; overrides = overrides; search_directory = x } in p) (sym e))

pub some_tail : (tail : List ℕ) → length tail ≢ 0 → tail ∷ [] ≡ tail_before tail []
some_tail [] some = absurd (some refl)
some_tail (b ∷ bs) some = refl

pub no_tail : (tail : List ℕ) → length tail ≡ 0 → [] ≡ tail_before tail []
no_tail [] none = refl
no_tail (b ∷ bs) none = absurd (omega arith)

-- a word that comes before any directory or argument
pub first_next : (p : Positional) (word : List ℕ) (o : Option (List ℕ × List ℕ)) → p.search_directory ≡ None → p.arguments ≡ [] → override_of word ≡ o
    → with_word p word ≡ with_override_or_word p word o
first_next p word o none empty e = ap (λ d. with_next p word d p.arguments) none ∙ (ap (with_next p word None) empty ∙ ap (with_override_or_word p word) e)

-- an override added at the end
pub override_push : {X : Type 0} (f : X → List ℕ) (xs more : List (X × X)) (name value : X) (x y : List ℕ) → more ≡ xs ++ (name, value) ∷ []
    → f name ≡ x → f value ≡ y
    → map (λ o. let p : List ℕ × List ℕ = (f o.0, f o.1) in p) xs ++ (x, y) ∷ [] ≡ map (λ o. let p : List ℕ × List ℕ = (f o.0, f o.1) in p) more
override_push f xs more name value x y e p q =
    ap (λ z. map (λ o. let p : List ℕ × List ℕ = (f o.0, f o.1) in p) xs ++ (z, y) ∷ []) (sym p)
    ∙ (ap (λ z. map (λ o. let p : List ℕ × List ℕ = (f o.0, f o.1) in p) xs ++ (f name, z) ∷ []) (sym q)
    ∙ (sym (map_push (λ o. let p : List ℕ × List ℕ = (f o.0, f o.1) in p) xs (name, value))
    ∙ ap (map (λ o. let p : List ℕ × List ℕ = (f o.0, f o.1) in p)) (sym e)))
