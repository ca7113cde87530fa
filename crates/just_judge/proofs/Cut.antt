-- The case of a file ends at the first separator.
use Rattle.std.proofs.Common.{◌≡◌, ℕ, ◌+◌, List, ◌∷◌, ◌++◌, drop, length, refl, ⊎_elim, arith}
use Rattle.std.specs.Prelude.{codes}
use Rattle.std.proofs.lemmas.Bool.{cases_order}
use Rattle.std.proofs.lemmas.List.{length-append}
use Rattle.std.proofs.Math.Seq.{drop-append_seam}
use Rattle.just_judge.specs.Stored.{SeparatedAt, UnseparatedTo, stored_file}

-- the bytes after the case
abbrev after : ℕ → List ℕ → List ℕ
after status answer = codes "\n=> " ++ ((48 + status) ∷ (10 ∷ answer))

-- a separator follows the case
separated_whole : (case : List ℕ) (status : ℕ) (answer : List ℕ) → SeparatedAt (stored_file case status answer) (length case)
separated_whole case status answer = rw (drop-append_seam case (after status answer)) refl

-- it is the first separator, so the case ends there
ends_first : (file case : List ℕ) (status : ℕ) (answer : List ℕ) (at : ℕ) → SeparatedAt file at → UnseparatedTo file at → UnseparatedTo file (length case)
    → file ≡ stored_file case status answer → at ≡ length case
ends_first file case status answer at here before_here before_end same =
    let there : SeparatedAt file (length case) = rw same (separated_whole case status answer) in
    ⊎_elim (λ e. e) (⊎_elim (λ before. absurd (before_end at before here)) (λ after. absurd (before_here (length case) after there)))
    (cases_order at (length case))

-- the bytes after the first separator
pub after_first : (file case : List ℕ) (status : ℕ) (answer : List ℕ) (at : ℕ) → SeparatedAt file at → UnseparatedTo file at → UnseparatedTo file (length case)
    → file ≡ stored_file case status answer → drop 4 (drop at file) ≡ (48 + status) ∷ (10 ∷ answer)
after_first file case status answer at here before_here before_end same =
    rw (ends_first file case status answer at here before_here before_end same, same, drop-append_seam case (after status answer)) refl

-- a stored file has a separator
pub separated_within : (file case : List ℕ) (status : ℕ) (answer : List ℕ) → UnseparatedTo file (length file) → file ≡ stored_file case status answer → ⊥
separated_within file case status answer none same =
    let there : SeparatedAt file (length case) = rw same (separated_whole case status answer) in
    none (length case) (rw same (omega (arith, length-append case (after status answer)))) there
