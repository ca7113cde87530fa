-- The lines of a text, and how many bytes each of them can lose.
use Rattle.std.proofs.Common.{inl, inr, ◌≡◌, ◌≢◌, ℕ, zero, suc, ◌+◌, ◌<◌, ◌≤◌, min, List, [], ◌∷◌, ◌++◌, length, take, drop, get_or, eqb, Bool, true, false}
use Rattle.std.proofs.Common.{Option, Some, None, refl, ap, sym, ◌∙◌, arith, IsUtf8, IsCharBoundary}
use Rattle.std.specs.List.{onto_first, prefix_len, common_prefix_len}
use Rattle.std.proofs.lemmas.Bool.{cond_both, eq-eqb, ne_eqb, eqb-true, or_cases}
use Rattle.std.proofs.lemmas.List.{append_assoc, length-drop, length-take}
use Rattle.std.proofs.lemmas.List.Sums.{common_prefix_len-le, prefix_len_passes}
use Rattle.std.proofs.lemmas.Str.{IsCharBoundary-after_ascii, IsCharBoundary-start}
use Rattle.just_syntax.specs.Prelude.{Text, common_indentation, is_gap, lines, unindented_lines}
use Rattle.just_syntax.specs.Unindented.{is_blank, indentation, common_start, with_line, width, unindented_line}

-- the first line ends after the first newline
pub lines_cut : (text : Text) (k : ℕ) → k < length text → get_or text k 0 ≡ 10 → ((i : ℕ) → i < k → get_or text i 0 ≢ 10)
    → lines text ≡ take (suc k) text ∷ lines (drop (suc k) text)
lines_cut [] k h e none = absurd (omega arith)
lines_cut (b ∷ bs) zero h e none = rw (eq-eqb b 10 e) refl
lines_cut (b ∷ bs) (suc k) h e none =
    rw (ne_eqb b 10 (none 0 (omega arith))) (ap (onto_first b) (lines_cut bs k (omega arith) e (λ i l. none (suc i) (omega arith))))

-- without a newline the text is one line
pub lines_whole : (text : Text) → 0 < length text → ((i : ℕ) → i < length text → get_or text i 0 ≢ 10) → lines text ≡ text ∷ []
lines_whole [] some none = absurd (omega arith)
lines_whole (b ∷ []) some none = rw (ne_eqb b 10 (none 0 (omega arith))) refl
lines_whole (b ∷ c ∷ cs) some none =
    rw (ne_eqb b 10 (none 0 (omega arith))) (ap (onto_first b) (lines_whole (c ∷ cs) (omega arith) (λ i l. none (suc i) (omega arith))))

-- only the empty text has no lines
some_line : (ls : List Text) → 0 < length ls → eqb (length ls) 0 ≡ false
some_line ls some = ne_eqb (length ls) 0 (λ e. omega arith)

onto_some : (b : ℕ) (ls : List Text) → eqb (length (onto_first b ls)) 0 ≡ false
onto_some b [] = refl
onto_some b (l ∷ ls) = some_line (l ∷ ls) (omega arith)

none_left : (text : Text) → eqb (length (lines text)) 0 ≡ eqb (length text) 0
none_left [] = refl
none_left (b ∷ bs) =
    cond_both (eqb b 10) ((b ∷ []) ∷ lines bs) (onto_first b (lines bs)) (λ ls. eqb (length ls) 0 ≡ false) (λ e. some_line ((b ∷ []) ∷ lines bs) (omega arith))
    (λ e. onto_some b (lines bs))
    ∙ sym (ne_eqb (length (b ∷ bs)) 0 (λ e. omega arith))

-- each line that is not blank begins with at least this many spaces and tabs
abbrev pub EachLoses : ℕ → List Text → Type 0
EachLoses n [] = Unit {0}
EachLoses n (line ∷ rest) = (is_blank line ≡ false → n ≤ length (indentation line)) × EachLoses n rest

start_left : (xs ys : Text) → length (common_start xs ys) ≤ length xs
start_left xs ys = omega (arith, length-take (common_prefix_len (λ x y. eqb x y) xs ys) xs)

start_right : (xs ys : Text) → length (common_start xs ys) ≤ length ys
start_right xs ys = omega (arith, length-take (common_prefix_len (λ x y. eqb x y) xs ys) xs, (common_prefix_len-le (λ x y. eqb x y) xs ys).1)

-- the common indentation never grows
shrinks : (so_far : Text) (ls : List Text) → width (common_indentation (Some so_far) ls) ≤ length so_far
shrinks so_far [] = omega arith
shrinks so_far (line ∷ rest) =
    cond_both (is_blank line) (Some so_far) (Some (common_start so_far (indentation line))) (λ o. width (common_indentation o rest) ≤ length so_far)
    (λ e. shrinks so_far rest)
    (λ e. let h = shrinks (common_start so_far (indentation line)) rest in omega (arith, h, start_left so_far (indentation line)))

fits_line : (so_far : Option Text) (line : Text) (rest : List Text) → is_blank line ≡ false
    → width (common_indentation (with_line so_far line) rest) ≤ length (indentation line)
fits_line None line rest e = rw e (shrinks (indentation line) rest)
fits_line (Some t) line rest e = rw e (let h = shrinks (common_start t (indentation line)) rest in omega (arith, h, start_right t (indentation line)))

pub each_loses : (so_far : Option Text) (ls : List Text) → EachLoses (width (common_indentation so_far ls)) ls
each_loses so_far [] = tt
each_loses so_far (line ∷ rest) = (fits_line so_far line rest, each_loses (with_line so_far line) rest)

-- a line can be cut within its indentation
gap_ascii : (b : ℕ) → is_gap b ≡ true → b < 128
gap_ascii b e = elim (or_cases (eqb b 32) (eqb b 9) e) [ inl s ↦ omega (arith, eqb-true b 32 s) | inr t ↦ omega (arith, eqb-true b 9 t) ]

pub cut_boundary : (line : Text) (n : ℕ) → IsUtf8 line → n ≤ length (indentation line) → IsCharBoundary line n
cut_boundary line zero utf8 h = IsCharBoundary-start line utf8
cut_boundary line (suc n) utf8 h =
    let len = length-take (prefix_len is_gap line) line in
    let there : IsCharBoundary line (n + 1) =
    IsCharBoundary-after_ascii line n utf8 (omega arith) (gap_ascii (get_or line n 0) (prefix_len_passes is_gap line n 0 (omega arith))) in
    let same : n + 1 ≡ suc n = omega arith in
    rw same at there

-- the common start is at most as long as the shorter text
pub nothing_common : (xs ys : Text) (i : ℕ) → min (length xs) (length ys) ≤ i → common_prefix_len (λ x y. eqb x y) (drop i xs) (drop i ys) ≡ 0
nothing_common xs ys i h =
    let both = common_prefix_len-le (λ x y. eqb x y) (drop i xs) (drop i ys) in
    omega (arith, both.0, both.1, length-drop i xs, length-drop i ys)

-- one more line is written
pub line_on : (all line after : Text) (n : ℕ) (is_first : Bool) (is_last : Bool) (text : Text) (whole : Text) → lines text ≡ line ∷ lines after
    → is_last ≡ eqb (length after) 0
    → all ++ unindented_lines n is_first (lines text) ≡ whole → (all ++ unindented_line n is_first is_last line) ++ unindented_lines n false (lines after)
    ≡ whole
line_on all line after n is_first is_last text whole cut last so_far =
    append_assoc all (unindented_line n is_first is_last line) (unindented_lines n false (lines after))
    ∙ ap (λ b. all ++ (unindented_line n is_first b line ++ unindented_lines n false (lines after))) (last ∙ sym (none_left after))
    ∙ ap (λ ls. all ++ unindented_lines n is_first ls) (sym cut) ∙ so_far
