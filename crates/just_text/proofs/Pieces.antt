-- The pieces of a text that `split` gives, and joined texts.
use Rattle.std.proofs.Common.{◌≡◌, ℕ, zero, suc, ◌+◌, ◌-◌, ◌<◌, ◌≤◌, List, [], ◌∷◌, ◌++◌, length, take, drop, Some, None, Bor, Bool, true, false, cond, eqb}
use Rattle.std.proofs.Common.{sym, refl, ap, subst, ◌∙◌, inl, inr, arith, encode_utf8, IsUtf8, All}
use Rattle.std.specs.declared.str.Split.{Split}
use Rattle.std.specs.List.{starts_with, onto_first}
use Rattle.std.specs.Str.Iter.{split_steps, split_text, split_has_more, split_pattern, HasSubslice}
use Rattle.std.specs.Str.Pattern.{FindsText, LacksTextAt, IsSplitAtFirstMatch}
use Rattle.std.specs.Str.Replace.{ReplacesMatches}
use Rattle.std.proofs.lemmas.Bool.{ne_eqb, cond_both, cases_Bool, both_ways}
use Rattle.std.proofs.lemmas.Iterator.{YieldsList}
use Rattle.std.proofs.lemmas.Iterator.Splits.{YieldsList-from_shown_while}
use Rattle.std.proofs.lemmas.List.{append_assoc, append-nil, length-append, length-drop, nil_from_length, take-append-drop}
use Rattle.std.proofs.lemmas.List.Elements.{All-nil, All-cons, All-head, All-tail}
use Rattle.std.proofs.lemmas.Slice.Eq.{bytes_eq-Decides}
use Rattle.std.proofs.lemmas.Str.{chars-nil, chars_past_char, IsUtf8-past_char}
use Rattle.just_text.specs.Prelude.{NoPieceHoldsSeparator, PiecesGiveTextBack, pieces, replaced}
use Rattle.just_text.specs.Replace.{interleaved}
use Rattle.just_text.specs.Split.{pieces_after}
use Rattle.just_text.proofs.Ends.{starts, starts_not}
use Rattle.just_text.proofs.Joined.{joined_by, joined_more, joined_onto}

-- the remaining bytes of an occurrence are skipped
passed : (p : List ℕ) (k : ℕ) (s : List ℕ) → pieces_after p k s ≡ pieces_after p 0 (drop k s)
passed p zero s = refl
passed p (suc k) [] = refl
passed p (suc k) (b ∷ bs) = passed p k bs

nothing_in_nil : (p rest : List ℕ) → 0 < length p → [] ≡ p ++ rest → ⊥
nothing_in_nil p rest some e = omega (arith, ap length e, length-append p rest)

first_here : (p s : List ℕ) (j : ℕ) → 0 < length p → s ≡ p ++ drop j s → j ≡ length p → pieces_after p 0 s ≡ [] ∷ pieces_after p 0 (drop j s)
first_here p [] j some split ends = absurd (nothing_in_nil p (drop j []) some split)
first_here p (b ∷ bs) zero some split ends = absurd (omega arith)
first_here p (b ∷ bs) (suc j) some split ends =
    let left : length p - 1 ≡ j = omega arith in
    rw (starts p (b ∷ bs) (drop j bs) split, left) (ap (λ ps. [] ∷ ps) (passed p j bs))

-- the pieces of a text, by the first occurrence of a separator
at_first : (p s : List ℕ) (i j : ℕ) → 0 < length p → ((k : ℕ) → k < i → LacksTextAt p s k) × (drop i s ≡ p ++ drop j s) × (j ≡ i + length p)
    → pieces_after p 0 s ≡ take i s ∷ pieces_after p 0 (drop j s)
at_first p s zero j some (before, split, ends) = first_here p s j some split (omega arith)
at_first p [] (suc i) zero some (before, split, ends) = absurd (omega arith)
at_first p [] (suc i) (suc j) some (before, split, ends) = absurd (nothing_in_nil p [] some split)
at_first p (b ∷ bs) (suc i) zero some (before, split, ends) = absurd (omega arith)
at_first p (b ∷ bs) (suc i) (suc j) some (before, split, ends) =
    rw (starts_not p (b ∷ bs) (before 0 (omega arith))) (ap (onto_first b) (at_first p bs i j some (λ k h. before (suc k) (omega arith), split, omega arith)))

at_none : (p s : List ℕ) → 0 < length p → FindsText p s None → pieces_after p 0 s ≡ s ∷ []
at_none p [] some none = refl
at_none p (b ∷ bs) some none = rw (starts_not p (b ∷ bs) (none 0 (omega arith))) (ap (onto_first b) (at_none p bs some (λ i h. none (suc i) (omega arith))))

pieces_cut : (p s : List ℕ) (i j : ℕ) → 0 < length p → FindsText p s (Some (i, j)) → pieces p s ≡ take i s ∷ pieces p (drop j s)
unfolding pieces
pieces_cut p s i j some found = at_first p s i j some (found.0, found.1.split, found.1.ends)

pieces_whole : (p s : List ℕ) → 0 < length p → FindsText p s None → pieces p s ≡ s ∷ []
unfolding pieces
pieces_whole p s some none = at_none p s some none

-- there is always at least one piece
onto_some : (b : ℕ) (ps : List (List ℕ)) → 0 < length (onto_first b ps)
onto_some b [] = omega arith
onto_some b (p ∷ ps) = omega arith

pieces_after_some : (p : List ℕ) (k : ℕ) (s : List ℕ) → 0 < length (pieces_after p k s)
pieces_after_some p k [] = omega arith
pieces_after_some p (suc k) (b ∷ bs) = pieces_after_some p k bs
pieces_after_some p zero (b ∷ bs) = cond_both (starts_with eqb (b ∷ bs) p) ([] ∷ pieces_after p (length p - 1) bs) (onto_first b (pieces_after p 0 bs))
    (λ ps. 0 < length ps) (λ e. omega arith) (λ e. onto_some b (pieces_after p 0 bs))

pieces_some : (p s : List ℕ) → 0 < length (pieces p s)
unfolding pieces
pieces_some p s = pieces_after_some p 0 s

-- the remaining pieces of an iterator
abbrev pieces_left : Split (Bor (List ℕ)) → List ℕ → List (List ℕ)
pieces_left s separator = cond (split_has_more s) (pieces separator (split_text s)) []

cut_off : (separator w x rest : List ℕ) (live : Bool) → 0 < length separator → IsSplitAtFirstMatch (FindsText separator) w x live rest
    → pieces separator w ≡ x ∷ cond live (pieces separator rest) []
cut_off separator w x rest live some (bound, (None, lacks, (whole, last))) = rw (last, whole) (pieces_whole separator w some lacks)
cut_off separator w x rest live some (bound, (Some (i, j), found, parts)) =
    let cut = parts (omega (arith, found.1.ends)) in
    rw (cut.1, cut.0, cut.2) (pieces_cut separator w i j some found)

pub YieldsList-from_pieces : {s : Split (Bor (List ℕ))} (separator text : List ℕ) → 0 < length separator → split_text s ≡ text → split_has_more s ≡ true
    → (split_pattern s).now ≡ separator
    → YieldsList (split_steps (λ (n : Bor (List ℕ)). FindsText n.now) (λ n m. m.now ≡ n.now)) (λ x. x.now) s (pieces separator text)
YieldsList-from_pieces {s} separator text some e more same =
    let all = YieldsList-from_shown_while (split_steps (λ (n : Bor (List ℕ)). FindsText n.now) (λ n m. m.now ≡ n.now)) (λ x. x.now)
    (λ t. pieces_left t separator)
    (λ t. (split_pattern t).now ≡ separator)
    (λ t u good h. rw (← h.0) refl)
    (λ t x u good h.
    let first = subst (λ p. IsSplitAtFirstMatch (FindsText p) (split_text t) x.now (split_has_more u) (split_text u)) good h.1.1 in
    (h.1.0 ∙ good, rw (← h.0) (cut_off separator (split_text t) x.now (split_text u) (split_has_more u) some first)))
    s same in
    let shown : pieces_left s separator ≡ pieces separator text = rw (more, e) refl in
    rw (← shown) all

-- the result of `replace` for a pattern that is not empty
replaced_filled : (p to : List ℕ) (n : ℕ) (q : Bor (List ℕ)) (s out : List ℕ) → 0 < length p → q.now ≡ p
    → ReplacesMatches (λ (n : Bor (List ℕ)). FindsText n.now) (λ n m. m.now ≡ n.now) to n q s out → out ≡ joined_by to (pieces p s)
replaced_filled p to zero q s out some same (none, e) =
    rw (pieces_whole p s some (subst (λ t. FindsText t s None) same none)) (e ∙ sym (append-nil s))
replaced_filled p to (suc n) q s out some same (i, j, next, rest, found, kept, inl (shorter, others), e) =
    let here = subst (λ t. FindsText t s (Some (i, j))) same found in
    let after = replaced_filled p to n next (drop j s) rest some (kept ∙ same) others in
    rw (pieces_cut p s i j some here, joined_more to (take i s) (pieces p (drop j s)) (pieces_some p (drop j s)), ← after) e
replaced_filled p to (suc n) q s out some same (i, j, next, rest, found, kept, inr (empty, others), e) =
    let here = subst (λ t. FindsText t s (Some (i, j))) same found in
    absurd (omega (arith, empty, here.1.ends))

-- the result for the empty pattern, which occurs everywhere
at_front : (s : List ℕ) (i j : ℕ) → FindsText [] s (Some (i, j)) → (i ≡ 0) × (j ≡ 0)
at_front s zero j (before, here) = (refl, here.ends)
at_front s (suc i) j (before, here) = absurd (before 0 (omega arith) s refl)

replaced_empty : (to : List ℕ) (n : ℕ) (q : Bor (List ℕ)) (s out : List ℕ) → IsUtf8 s → q.now ≡ []
    → ReplacesMatches (λ (n : Bor (List ℕ)). FindsText n.now) (λ n m. m.now ≡ n.now) to n q s out → out ≡ interleaved s to
replaced_empty to zero q s out utf8 same (none, e) = absurd (subst (λ t. FindsText t s None) same none 0 (omega arith) s refl)
replaced_empty to (suc n) q s out utf8 same (i, j, next, rest, found, kept, inl (longer, others), e) =
    let front = at_front s i j (subst (λ t. FindsText t s (Some (i, j))) same found) in
    absurd (omega (arith, front.0, front.1))
replaced_empty to (suc n) q s out utf8 same (i, j, next, rest, found, kept, inr (empty, inl (none, last)), e) =
    let front = at_front s i j (subst (λ t. FindsText t s (Some (i, j))) same found) in
    let nothing : s ≡ [] = nil_from_length s (ap (λ k. length (drop k s)) (sym front.1) ∙ none) in
    rw (nothing, chars-nil) (rw (front.0, last, append-nil) at e)
replaced_empty to (suc n) q s out utf8 same (i, j, next, rest, found, kept, inr (empty, inr (c, t, more, cut, others, goes)), e) =
    let front = at_front s i j (subst (λ t. FindsText t s (Some (i, j))) same found) in
    let whole : s ≡ encode_utf8 c ++ t = ap (λ k. drop k s) (sym front.1) ∙ cut in
    let after = replaced_empty to n next t more (IsUtf8-past_char s t c utf8 whole) (kept ∙ same) others in
    rw (chars_past_char s t c utf8 whole, e, front.0, goes, after) (simp append_assoc)

pub replaced_is : (from to : List ℕ) (n : ℕ) (q : Bor (List ℕ)) (s out : List ℕ) → IsUtf8 s → q.now ≡ from
    → ReplacesMatches (λ (n : Bor (List ℕ)). FindsText n.now) (λ n m. m.now ≡ n.now) to n q s out → out ≡ replaced s from to
replaced_is [] to n q s out utf8 same runs = replaced_empty to n q s out utf8 same runs
replaced_is (b ∷ bs) to n q s out utf8 same runs =
    rw (ne_eqb (length (b ∷ bs)) 0 (λ e. absurd (omega arith))) (replaced_filled (b ∷ bs) to n q s out (omega arith) same runs)

-- the text after a separator that it begins with
after_separator : (p s : List ℕ) → starts_with eqb s p ≡ true → s ≡ p ++ drop (length p) s
after_separator p s e = sym (take-append-drop (length p) s) ∙ ap (λ t. t ++ drop (length p) s) (sym ((bytes_eq-Decides p (take (length p) s)).0 e))

shorter_after : (p : List ℕ) (b : ℕ) (bs : List ℕ) → 0 < length p → drop (length p) (b ∷ bs) ≡ drop (length p - 1) bs
shorter_after [] b bs some = absurd (omega arith)
shorter_after (c ∷ cs) b bs some =
    let n : length cs ≡ length (c ∷ cs) - 1 = omega arith in
    ap (λ k. drop k bs) n

-- the pieces joined again
given_back : (p : List ℕ) → 0 < length p → (n : ℕ) (s : List ℕ) → length s ≤ n → joined_by p (pieces_after p 0 s) ≡ s
given_back p some n [] fits = refl
given_back p some zero (b ∷ bs) fits = absurd (omega arith)
given_back p some (suc n) (b ∷ bs) fits =
    let rest = drop (length p - 1) bs in
    elim (cases_Bool (starts_with eqb (b ∷ bs) p)) [
      | inl e ↦ rw e (joined_more p [] (pieces_after p (length p - 1) bs) (pieces_after_some p (length p - 1) bs)
          ∙ (ap (λ ps. p ++ joined_by p ps) (passed p (length p - 1) bs)
          ∙ (ap (λ t. p ++ t) (given_back p some n rest (omega (arith, length-drop (length p - 1) bs)))
          ∙ (ap (λ t. p ++ t) (sym (shorter_after p b bs some)) ∙ sym (after_separator p (b ∷ bs) e)))))
      | inr e ↦ rw e (joined_onto p b (pieces_after p 0 bs) (pieces_after_some p 0 bs) ∙ ap (λ t. b ∷ t) (given_back p some n bs (omega arith)))
    ]

pub pieces_joined : PiecesGiveTextBack
unfolding pieces
pieces_joined separator text some = given_back separator some (length text) text (omega arith)

-- the first piece is the start of the text, and no piece contains the separator
FreeOf : List ℕ → List ℕ → Type 0
FreeOf p piece = ¬ (HasSubslice piece p)

IsFree : List ℕ → List ℕ → List (List ℕ) → Type 0
IsFree p s [] = ⊥
IsFree p s (x ∷ xs) = ((rest : List ℕ) × (s ≡ x ++ rest)) × All (FreeOf p) (x ∷ xs)

nothing_free : (p : List ℕ) → 0 < length p → FreeOf p []
unfolding FreeOf
nothing_free p some (front, back, e) = omega (arith, ap length e, length-append front (p ++ back), length-append p back)

free_rest : (p s : List ℕ) (ps : List (List ℕ)) → IsFree p s ps → All (FreeOf p) ps
unfolding IsFree
free_rest p s [] are_free = absurd are_free
free_rest p s (x ∷ xs) are_free = are_free.1

begins : (p s rest : List ℕ) → s ≡ p ++ rest → starts_with eqb s p ≡ false → ⊥
begins p s rest e not = both_ways (starts_with eqb s p) not (starts p s rest e)

longer_free : (p : List ℕ) (b : ℕ) (x bs rest : List ℕ) → bs ≡ x ++ rest → starts_with eqb (b ∷ bs) p ≡ false → FreeOf p x → FreeOf p (b ∷ x)
unfolding FreeOf
longer_free p b x bs rest split not free ([], back, e) =
    begins p (b ∷ bs) (back ++ rest) (ap (λ t. b ∷ t) split ∙ (ap (λ t. t ++ rest) e ∙ append_assoc p back rest)) not
longer_free p b x bs rest split not free (c ∷ front, back, e) = free (front, back, cc)

free_onto : (p : List ℕ) (b : ℕ) (bs : List ℕ) (ps : List (List ℕ)) → starts_with eqb (b ∷ bs) p ≡ false → IsFree p bs ps → IsFree p (b ∷ bs) (onto_first b ps)
unfolding IsFree
free_onto p b bs [] not are_free = absurd are_free
free_onto p b bs (x ∷ xs) not ((rest, split), free) = (
  (rest, ap (λ t. b ∷ t) split),
  All-cons (FreeOf p) (b ∷ x) xs (longer_free p b x bs rest split not (All-head (FreeOf p) x xs free))
      (All-tail (FreeOf p) x xs free),
)

are_free : (p : List ℕ) → 0 < length p → (n : ℕ) (s : List ℕ) → length s ≤ n → IsFree p s (pieces_after p 0 s)
unfolding IsFree
are_free p some n [] fits = (([], refl), All-cons (FreeOf p) [] [] (nothing_free p some) (All-nil (FreeOf p)))
are_free p some zero (b ∷ bs) fits = absurd (omega arith)
are_free p some (suc n) (b ∷ bs) fits =
    let rest = drop (length p - 1) bs in
    elim (cases_Bool (starts_with eqb (b ∷ bs) p)) [
      | inl e ↦ rw e (
        (b ∷ bs, refl),
        All-cons (FreeOf p) [] (pieces_after p (length p - 1) bs) (nothing_free p some)
            (rw (passed p (length p - 1) bs)
            (free_rest p rest (pieces_after p 0 rest) (are_free p some n rest (omega (arith, length-drop (length p - 1) bs))))),
      )
      | inr e ↦ rw e (free_onto p b bs (pieces_after p 0 bs) e (are_free p some n bs (omega arith)))
    ]

pub pieces_free : NoPieceHoldsSeparator
unfolding pieces FreeOf
pieces_free separator text some = free_rest separator text (pieces_after separator 0 text) (are_free separator some (length text) text (omega arith))
