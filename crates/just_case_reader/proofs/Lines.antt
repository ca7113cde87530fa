-- Lines and the pieces between newlines.
use Rattle.std.proofs.Common.{◌≡◌, ℕ, ◌+◌, ◌<◌, ◌≤◌, eqb, List, [], ◌∷◌, ◌++◌, length, map, refl, sym, ◌∙◌, ap, ⊎_elim, append_assoc, arith}
use Rattle.std.specs.List.{slice_split, before_first, after_first, position_or_len}
use Rattle.std.specs.Str.{IsUtf8, is_utf8}
use Rattle.std.proofs.lemmas.Bool.{cases_lt, false_from_ne_true}
use Rattle.std.proofs.lemmas.List.{take_all, drop_all, map-append}
use Rattle.std.proofs.lemmas.List.Splits.{slice_split_first, length-slice_split}
use Rattle.std.proofs.lemmas.Str.{IsUtf8-from_is_utf8, is_utf8-from_IsUtf8}
use Rattle.just_case_reader.proofs.Split.{split_whole}
use Rattle.just_case_reader.specs.Prelude.{Bad, case_line_of, line_of_text, lines_of}
use Rattle.just_case_reader.specs.Line.{CaseLine, without_empty_end}

-- bytes that are text give the line of that text
pub line_of-text : (bytes text : List ℕ) → text ≡ bytes → IsUtf8 bytes → line_of_text text ≡ case_line_of bytes
line_of-text bytes text same is_text = rw (same, is_utf8-from_IsUtf8 bytes is_text) refl

-- bytes that are not text give a bad line
pub line_of-no_text : (bytes : List ℕ) → (IsUtf8 bytes → ⊥) → Bad ≡ case_line_of bytes
line_of-no_text bytes no_text = rw (false_from_ne_true (is_utf8 bytes) (λ e. no_text (IsUtf8-from_is_utf8 bytes e))) (refl {a = Bad})

-- an empty last piece can only come after the first
without_empty_end-cons : (piece : List ℕ) (pieces : List (List ℕ)) → 0 < length pieces → without_empty_end (piece ∷ pieces) ≡ piece ∷ without_empty_end pieces
without_empty_end-cons piece [] some = absurd (omega (arith, some))
without_empty_end-cons [] (next ∷ pieces) some = refl
without_empty_end-cons (b ∷ bytes) (next ∷ pieces) some = refl

-- a single piece is kept if it is not empty
without_empty_end-one : (bytes : List ℕ) → 0 < length bytes → without_empty_end (bytes ∷ []) ≡ bytes ∷ []
without_empty_end-one [] some = absurd (omega (arith, some))
without_empty_end-one (b ∷ bytes) some = refl

-- the first line and the lines after its newline, if there is a newline
first_ended : (bytes : List ℕ) → position_or_len (λ b. eqb b 10) bytes < length bytes
    → lines_of bytes ≡ before_first (λ b. eqb b 10) bytes ∷ lines_of (after_first (λ b. eqb b 10) bytes)
first_ended bytes within =
    let after : List ℕ = after_first (λ b. eqb b 10) bytes in
    let pieces : List (List ℕ) = slice_split (λ b. eqb b 10) after in
    ap without_empty_end (slice_split_first (λ b. eqb b 10) bytes 0 within)
    ∙ without_empty_end-cons _ pieces (omega (arith, length-slice_split (λ b. eqb b 10) after))

-- a line without a newline is the only one
first_open : (bytes : List ℕ) → 0 < length bytes → length bytes ≤ position_or_len (λ b. eqb b 10) bytes
    → lines_of bytes ≡ before_first (λ b. eqb b 10) bytes ∷ lines_of (after_first (λ b. eqb b 10) bytes)
first_open bytes some past =
    let n : ℕ = position_or_len (λ b. eqb b 10) bytes in
    rw (take_all n bytes past, drop_all (n + 1) bytes (omega (arith, past))) (ap without_empty_end (split_whole 10 bytes past)
    ∙ without_empty_end-one bytes some)

-- the first line, and the lines after it
pub lines_of-first : (bytes : List ℕ) → 0 < length bytes → lines_of bytes ≡ before_first (λ b. eqb b 10) bytes ∷ lines_of (after_first (λ b. eqb b 10) bytes)
lines_of-first bytes some =
    ⊎_elim (first_ended bytes) (first_open bytes some) (cases_lt (position_or_len (λ b. eqb b 10) bytes) (length bytes))

-- the lines so far and the rest, after one more line
pub lines_more : {A : Type 0} (view : A → CaseLine) (case rest : List ℕ) (lines : List A) (line : A) → 0 < length rest
    → view line ≡ case_line_of (before_first (λ b. eqb b 10) rest) → map view lines ++ map case_line_of (lines_of rest) ≡ map case_line_of (lines_of case)
    → map view (lines ++ line ∷ []) ++ map case_line_of (lines_of (after_first (λ b. eqb b 10) rest)) ≡ map case_line_of (lines_of case)
lines_more view case rest lines line some said so_far =
    let after : List CaseLine = map case_line_of (lines_of (after_first (λ b. eqb b 10) rest)) in
    ap (λ xs. xs ++ after) (map-append view lines (line ∷ [])) ∙ append_assoc (map view lines) (view line ∷ []) after
    ∙ ap (λ x. map view lines ++ x ∷ after) said ∙ ap (λ xs. map view lines ++ map case_line_of xs) (sym (lines_of-first rest some)) ∙ so_far
