-- Texts read byte by byte, with a run of bytes between two places.
use Rattle.std.proofs.Common.{◌≡◌, ℕ, zero, suc, ◌+◌, ◌-◌, ◌<◌, ◌≤◌, List, [], ◌∷◌, ◌++◌, length, take, drop, get_or, refl, ap, ap₂, sym, subst, ◌∙◌, inl, inr}
use Rattle.std.proofs.Common.{add-one, arith, Bool, true, false, eqb, length-drop, get_or-drop, All, encode_utf8_all, IsAscii, map, filter}
use Rattle.std.specs.Prelude.{⊤}
use Rattle.std.specs.Char.{is_whitespace}
use Rattle.std.specs.List.{flat_map, slice_split, onto_first}
use Rattle.std.proofs.Math.Seq.{drop-cons}
use Rattle.std.proofs.lemmas.Bool.{both_ways, cases_Bool, cases_lt, cond_both, eq-eqb, false_from_ne_true, ne_eqb}
use Rattle.std.proofs.lemmas.Bool.Decides.{eqb_tells}
use Rattle.std.proofs.lemmas.List.{append_assoc, drop-drop, drop_all, get_or-take, length-take, take_all, take-append-drop}
use Rattle.std.proofs.lemmas.List.Concat.{flat_map-append}
use Rattle.std.proofs.lemmas.List.Elements.{All-from_get_or}
use Rattle.std.proofs.lemmas.List.Splits.{slice_split_none, slice_split_at, length-slice_split}
use Rattle.std.proofs.lemmas.Str.{encode_ascii, chars-IsAscii}
use Rattle.memchr.specs.Find.{Nowhere, Passes, is_byte}
use Rattle.just_text.specs.Prelude.{pieces, replaced, substituted, words}
use Rattle.just_text.specs.Split.{is_filled}
use Rattle.just_text.proofs.Words.{filled_is}
use Rattle.just_text.proofs.Joined.{joined_by, joined_more, joined_onto}

-- a text is what is before a byte, the byte, and the rest
around : (bs : List ℕ) (start at : ℕ) → start ≤ at → at < length bs
    → drop start bs ≡ take (at - start) (drop start bs) ++ get_or bs at 0 ∷ drop (at + 1) bs
around bs start at low within =
    let n = at - start in
    let rest = drop start bs in
    let inside : n < length rest = omega (arith, length-drop start bs) in
    let place : start + n ≡ at = omega arith in
    let next : start + suc n ≡ at + 1 = omega arith in
    let byte : get_or rest n 0 ≡ get_or bs at 0 = get_or-drop start bs n 0 ∙ ap (λ k. get_or bs k 0) place in
    let after : drop (suc n) rest ≡ drop (at + 1) bs = drop-drop (suc n) start bs ∙ ap (λ k. drop k bs) next in
    sym (take-append-drop n rest) ∙ ap (λ t. take n rest ++ t) (drop-cons rest n 0 inside ∙ ap₂ (λ b t. b ∷ t) byte after)

-- what holds of each byte of the run
in_run : (P : ℕ → Type 0) (bs : List ℕ) (start at : ℕ) → start ≤ at → at ≤ length bs → ((k : ℕ) → start ≤ k → k < at → P (get_or bs k 0))
    → (i : ℕ) → i < length (take (at - start) (drop start bs)) → P (get_or (take (at - start) (drop start bs)) i 0)
in_run P bs start at low high all i within =
    let here : i < at - start = omega (arith, length-take (at - start) (drop start bs)) in
    subst P (sym (get_or-take (at - start) (drop start bs) i 0 here ∙ get_or-drop start bs i 0)) (all (start + i) (omega arith) (omega arith))

pub whole_run : (bs : List ℕ) (start at : ℕ) → start ≤ at → at ≡ length bs → take (at - start) (drop start bs) ≡ drop start bs
whole_run bs start at low end = take_all _ _ (omega (arith, length-drop start bs))

-- the first byte that passes cuts the run off
pub cut_here : (p : ℕ → Bool) (bs : List ℕ) (start at : ℕ) → start ≤ at → at < length bs
    → ((k : ℕ) → start ≤ k → k < at → p (get_or bs k 0) ≡ false) → p (get_or bs at 0) ≡ true
    → slice_split p (drop start bs) ≡ take (at - start) (drop start bs) ∷ slice_split p (drop (at + 1) bs)
cut_here p bs start at low within lacks passes =
    let run = take (at - start) (drop start bs) in
    let none = All-from_get_or (λ b. p b ≡ false) run 0 (in_run (λ b. p b ≡ false) bs start at low (omega arith) lacks) in
    ap (slice_split p) (around bs start at low within) ∙ slice_split_at p run (get_or bs at 0) (drop (at + 1) bs) none passes

pub cut_none : (p : ℕ → Bool) (bs : List ℕ) (start at : ℕ) → start ≤ at → at ≡ length bs
    → ((k : ℕ) → start ≤ k → k < at → p (get_or bs k 0) ≡ false) → slice_split p (drop start bs) ≡ drop start bs ∷ []
cut_none p bs start at low end lacks =
    let run = take (at - start) (drop start bs) in
    let none = All-from_get_or (λ b. p b ≡ false) run 0 (in_run (λ b. p b ≡ false) bs start at low (omega arith) lacks) in
    slice_split_none p (drop start bs) (subst (All (λ b. p b ≡ false)) (whole_run bs start at low end) none)

-- a run without the byte stays
kept_run : (from : ℕ) (to bs : List ℕ) → ((i : ℕ) → i < length bs → eqb (get_or bs i 0) from ≡ false) → flat_map (substituted from to) bs ≡ bs
kept_run from to [] lacks = refl
kept_run from to (b ∷ bs) lacks = rw (lacks 0 (omega arith)) (ap (λ t. b ∷ t) (kept_run from to bs (λ i within. lacks (suc i) (omega arith))))

-- the byte after the run is substituted
pub substituted_here : (from : ℕ) (to bs : List ℕ) (start at : ℕ) → start ≤ at → at < length bs
    → ((k : ℕ) → start ≤ k → k < at → eqb (get_or bs k 0) from ≡ false) → eqb (get_or bs at 0) from ≡ true
    → flat_map (substituted from to) (drop start bs)
    ≡ take (at - start) (drop start bs) ++ (to ++ flat_map (substituted from to) (drop (at + 1) bs))
substituted_here from to bs start at low within lacks found =
    let f = substituted from to in
    let run = take (at - start) (drop start bs) in
    let kept = kept_run from to run (in_run (λ b. eqb b from ≡ false) bs start at low (omega arith) lacks) in
    let byte : f (get_or bs at 0) ≡ to = rw found refl in
    ap (flat_map f) (around bs start at low within)
    ∙ (flat_map-append f run (get_or bs at 0 ∷ drop (at + 1) bs) ∙ ap₂ (λ s t. s ++ (t ++ flat_map f (drop (at + 1) bs))) kept byte)

pub substituted_none : (from : ℕ) (to bs : List ℕ) (start at : ℕ) → start ≤ at → at ≡ length bs
    → ((k : ℕ) → start ≤ k → k < at → eqb (get_or bs k 0) from ≡ false) → flat_map (substituted from to) (drop start bs) ≡ drop start bs
substituted_none from to bs start at low end lacks =
    let whole = whole_run bs start at low end in
    let kept = kept_run from to (take (at - start) (drop start bs)) (in_run (λ b. eqb b from ≡ false) bs start at low (omega arith) lacks) in
    rw whole at kept

-- one more byte that does not pass
pub lacks_more : (P : ℕ → Type 0) (start at : ℕ) → ((k : ℕ) → start ≤ k → k < at → P k) → P at → (k : ℕ) → start ≤ k → k < at + 1 → P k
lacks_more P start at lacks here k low high = elim (cases_lt k at) [
  | inl below ↦ lacks k low below
  | inr above ↦ let same : at ≡ k = omega arith in subst P same here
]

-- the pieces around a byte
pub pieces_of_byte : (b : ℕ) (bs : List ℕ) → pieces (b ∷ []) bs ≡ slice_split (λ x. eqb x b) bs
unfolding pieces
pieces_of_byte b [] = refl
pieces_of_byte b (x ∷ xs) = elim (eqb_tells x b) [
  | inl w ↦ let same : eqb b x ≡ true = eq-eqb b x (sym w.1) in rw (w.0, same) (ap (λ ps. [] ∷ ps) (pieces_of_byte b xs))
  | inr w ↦ let other : eqb b x ≡ false = ne_eqb b x (λ e. w.1 (sym e)) in rw (w.0, other) (ap (onto_first x) (pieces_of_byte b xs))
]

pieces_some : (p : ℕ → Bool) (bs : List ℕ) → 0 < length (slice_split p bs)
pieces_some p bs = omega (arith, length-slice_split p bs)

joined_byte : (b : ℕ) (to bs : List ℕ) → joined_by to (slice_split (λ x. eqb x b) bs) ≡ flat_map (substituted b to) bs
joined_byte b to [] = refl
joined_byte b to (x ∷ xs) = elim (cases_Bool (eqb x b)) [
  | inl e ↦ rw e (joined_more to [] _ (pieces_some _ xs) ∙ ap (λ t. to ++ t) (joined_byte b to xs))
  | inr e ↦ rw e (joined_onto to x _ (pieces_some _ xs) ∙ ap (λ t. x ∷ t) (joined_byte b to xs))
]

-- a text with a byte substituted
pub replaced_byte : (b : ℕ) (to bs : List ℕ) → replaced bs (b ∷ []) to ≡ flat_map (substituted b to) bs
replaced_byte b to bs = rw (pieces_of_byte b bs) (joined_byte b to bs)

-- each text is its own characters
abbrev AreSpelled : List (List ℕ) → Type 0
AreSpelled [] = ⊤
AreSpelled (p ∷ ps) = (encode_utf8_all p ≡ p) × AreSpelled ps

spelled_onto : (b : ℕ) (ps : List (List ℕ)) → b < 128 → AreSpelled ps → AreSpelled (onto_first b ps)
spelled_onto b [] ascii all = (ap (λ t. t ++ []) (encode_ascii b ascii), tt)
spelled_onto b (p ∷ ps) ascii all = (ap₂ (λ x y. x ++ y) (encode_ascii b ascii) all.0, all.1)

spelled_split : (p : ℕ → Bool) (bs : List ℕ) → IsAscii bs → AreSpelled (slice_split p bs)
spelled_split p [] ascii = (refl, tt)
spelled_split p (b ∷ bs) ascii =
    let rest = spelled_split p bs (λ i. ascii (suc i)) in
    cond_both (p b) ([] ∷ slice_split p bs) (onto_first b (slice_split p bs)) AreSpelled (λ e. (refl, rest))
    (λ e. spelled_onto b (slice_split p bs) (ascii 0) rest)

spelled_filled : (ps : List (List ℕ)) → AreSpelled ps → map encode_utf8_all (filter is_filled ps) ≡ filter is_filled ps
spelled_filled [] all = refl
spelled_filled (p ∷ ps) all = elim (cases_Bool (is_filled p)) [
  | inl e ↦ rw e (ap₂ (λ x xs. x ∷ xs) all.0 (spelled_filled ps all.1))
  | inr e ↦ rw e (spelled_filled ps all.1)
]

-- the words of an ASCII text
pub words_of_ascii : (bs : List ℕ) → IsAscii bs → words bs ≡ filter is_filled (slice_split is_whitespace bs)
unfolding words
words_of_ascii bs ascii = rw (chars-IsAscii bs ascii) (spelled_filled (slice_split is_whitespace bs) (spelled_split is_whitespace bs ascii))

-- the words of a rest: none before a byte that is no white space
unfoldable pub filled : List ℕ → List (List ℕ)
filled bs = filter is_filled (slice_split is_whitespace bs)

skipped_one : (bs : List ℕ) (at : ℕ) → at < length bs → is_whitespace (get_or bs at 0) ≡ true → filled (drop at bs) ≡ filled (drop (at + 1) bs)
unfolding filled
skipped_one bs at within white = rw (add-one, drop-cons bs at 0 within, white) refl

skipped_by : (n : ℕ) (bs : List ℕ) (start : ℕ) → start + n ≤ length bs → ((k : ℕ) → start ≤ k → k < start + n → is_whitespace (get_or bs k 0) ≡ true)
    → filled (drop start bs) ≡ filled (drop (start + n) bs)
skipped_by zero bs start high white = ap (λ k. filled (drop k bs)) {x = start} {y = start + 0} (omega arith)
skipped_by (suc n) bs start high white =
    skipped_one bs start (omega arith) (white start (omega arith) (omega arith))
    ∙ (skipped_by n bs (start + 1) (omega arith) (λ k low high. white k (omega arith) (omega arith))
    ∙ ap (λ k. filled (drop k bs)) {x = start + 1 + n} {y = start + suc n} (omega arith))

pub skipped : (bs : List ℕ) (start at : ℕ) → start ≤ at → at ≤ length bs → ((k : ℕ) → start ≤ k → k < at → is_whitespace (get_or bs k 0) ≡ true)
    → filled (drop start bs) ≡ filled (drop at bs)
skipped bs start at low high white =
    let end : start + (at - start) ≡ at = omega arith in
    skipped_by (at - start) bs start (omega arith) (λ k l h. white k l (omega arith)) ∙ ap (λ k. filled (drop k bs)) end

pub past_first : (bs : List ℕ) (start at : ℕ) → start < length bs → is_whitespace (get_or bs start 0) ≡ false → start ≤ at
    → (at < length bs → is_whitespace (get_or bs at 0) ≡ true) → start < at
past_first bs start at some first low found = elim (cases_lt start at) [
  | inl below ↦ below
  | inr above ↦
      let same : at ≡ start = omega arith in
      let white = found (omega arith) in
      absurd (both_ways (is_whitespace (get_or bs start 0)) first (rw same at white))
]

-- a word, from a byte that is no white space to white space or to the end
pub taken : (bs : List ℕ) (start at : ℕ) → start < length bs → is_whitespace (get_or bs start 0) ≡ false → start ≤ at → at ≤ length bs
    → ((k : ℕ) → start ≤ k → k < at → is_whitespace (get_or bs k 0) ≡ false) → (at < length bs → is_whitespace (get_or bs at 0) ≡ true)
    → filled (drop start bs) ≡ take (at - start) (drop start bs) ∷ filled (drop at bs)
unfolding filled
taken bs start at some first low high lacks found =
    let run = take (at - start) (drop start bs) in
    elim (cases_lt at (length bs)) [
      | inl within ↦
          let white = found within in
          let past = past_first bs start at some first low found in
          let size : 0 < length run = omega (arith, length-take (at - start) (drop start bs), length-drop start bs) in
          ap (filter is_filled) (cut_here is_whitespace bs start at low within lacks white)
          ∙ rw (filled_is run size) (ap (λ ws. run ∷ ws) (sym (skipped_one bs at within white)))
      | inr past ↦
          let end : at ≡ length bs = omega arith in
          let size : 0 < length (drop start bs) = omega (arith, length-drop start bs) in
          ap (filter is_filled) (cut_none is_whitespace bs start at low end lacks)
          ∙ rw (filled_is (drop start bs) size, whole_run bs start at low end, drop_all at bs past) refl
    ]

pub words_are_filled : (bs : List ℕ) → IsAscii bs → filled bs ≡ words bs
unfolding filled
words_are_filled bs ascii = sym (words_of_ascii bs ascii)

pub filled_end : (bs : List ℕ) (at : ℕ) → length bs ≤ at → filled (drop at bs) ≡ []
unfolding filled
filled_end bs at past = rw (drop_all at bs past) refl

-- one more text pushed, before the rest
pub one_pushed : (xs ys : List (List ℕ)) (x text : List ℕ) (rest whole : List (List ℕ)) → ys ≡ xs ++ x ∷ [] → x ≡ text → xs ++ text ∷ rest ≡ whole
    → ys ++ rest ≡ whole
one_pushed xs ys x text rest whole is same so_far =
    ap (λ zs. zs ++ rest) is ∙ (append_assoc xs (x ∷ []) rest ∙ (ap (λ t. xs ++ t ∷ rest) same ∙ so_far))

-- a byte that is not in the front of the rest is not in that part of the text
pub rest_lacks : (b : ℕ) (bs : List ℕ) (from n : ℕ) → Nowhere (Passes (is_byte b) (drop from bs)) 0 n → (k : ℕ) → from ≤ k → k < from + n
    → eqb (get_or bs k 0) b ≡ false
rest_lacks b bs from n lacks k low high =
    let here : k - from < n = omega arith in
    let place : from + (k - from) ≡ k = omega arith in
    let same = get_or-drop from bs (k - from) 0 ∙ ap (λ i. get_or bs i 0) place in
    false_from_ne_true (eqb (get_or bs k 0) b) (λ e. lacks (k - from) (omega arith) here (ap (λ x. eqb x b) same ∙ e))
