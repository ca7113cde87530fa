-- The result of a text's lines, by its first line.
use Rattle.std.proofs.Common.{◌≡◌, ℕ, suc, ◌+◌, add-one, ◌<◌, ◌==◌, List, length, length-drop, map, Some, None, ap, sym, ◌∙◌, arith}
use Rattle.std.specs.List.{before_first, after_first, position_or_len}
use Rattle.just_case_reader.specs.Line.{CaseLine}
use Rattle.just_case_reader.specs.Prelude.{BadLine, case_line_of, described_from, lines_of, step}
use Rattle.just_case_reader.specs.Reading.{Reading, or_bad}
use Rattle.just_case_reader.proofs.Lines.{lines_of-first}

-- the lines after the first have fewer bytes
pub fewer_after : (bytes : List ℕ) → 0 < length bytes → length (after_first (λ b. b == 10) bytes) < length bytes
fewer_after bytes some = omega (arith, length-drop (position_or_len (λ b. b == 10) bytes + 1) bytes)

module _ (n : ℕ) (r : Reading) (bytes : List ℕ) (some : 0 < length bytes) (line : CaseLine)
    (is_first : line ≡ case_line_of (before_first (λ b. b == 10) bytes)) where
  -- the first line comes before the others
  first_line : described_from n r (map case_line_of (lines_of bytes))
      ≡ or_bad n (step line r) (λ next. described_from (suc n) next (map case_line_of (lines_of (after_first (λ b. b == 10) bytes))))
  first_line =
      ap (λ lines. described_from n r (map case_line_of lines)) (lines_of-first bytes some)
      ∙ ap (λ l. or_bad n (step l r) (λ next. described_from (suc n) next (map case_line_of (lines_of (after_first (λ b. b == 10) bytes))))) (sym is_first)

  -- the first line is done
  pub line_done : (next : Reading) → step line r ≡ Some next
      → described_from n r (map case_line_of (lines_of bytes)) ≡ described_from (n + 1) next (map case_line_of (lines_of (after_first (λ b. b == 10) bytes)))
  line_done next done =
      rw add-one (first_line ∙ ap (λ o. or_bad n o (λ next. described_from (suc n) next (map case_line_of (lines_of (after_first (λ b. b == 10) bytes))))) done)

  -- the first line is bad
  pub line_bad : step line r ≡ None → described_from n r (map case_line_of (lines_of bytes)) ≡ BadLine n
  line_bad bad =
      first_line ∙ ap (λ o. or_bad n o (λ next. described_from (suc n) next (map case_line_of (lines_of (after_first (λ b. b == 10) bytes))))) bad
