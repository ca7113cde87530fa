-- Bindings in ascending order of number, and names in ascending order of bytes.
use Rattle.std.specs.Prelude.{ℕ, List, map}
use Rattle.std.specs.Borrow.{Bor}
use Rattle.std.specs.Cmp.Lexicographic.{slice_cmp}
use Rattle.std.specs.List.Sorted.{IsStrictlySortedBy}
use Rattle.std.specs.Ordering.{nat_cmp}
use Rattle.just_syntax.specs.Plain.{Text}
use Rattle.just_value.specs.declared.binding.Binding.{Binding}

-- each number is greater than the one before
abbrev pub AreRising : List Binding → Type 0
AreRising bindings = IsStrictlySortedBy nat_cmp (map (λ b. b.number) bindings)

-- each name is greater than the one before
abbrev pub AreRisingNames : List (Bor Text × ℕ) → Type 0
AreRisingNames names = IsStrictlySortedBy (λ a b. slice_cmp nat_cmp a.0.now b.0.now) names
