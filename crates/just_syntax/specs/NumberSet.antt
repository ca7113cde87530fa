-- The members of a set of numbers that is held in two parts.
use Rattle.std.specs.Prelude.{ℕ, Bool, Option, Some, None}
use Rattle.std.specs.List.{slice_get}
use Rattle.std.specs.BTreeSet.{contains_by}
use Rattle.std.specs.Ordering.{nat_cmp}
use Rattle.just_syntax.specs.declared.number_set.NumberSet.{NumberSet}

-- a flag, if there is one, or else this answer
abbrev pub flag_or : Option Bool → Bool → Bool
flag_or None other = other
flag_or (Some flag) other = flag

-- the flag of a number or, if it has none, whether the number is in the other part
unfoldable pub is_member : NumberSet → ℕ → Bool
is_member set n = flag_or (slice_get set.low.items n) (contains_by (nat_cmp n) set.high)
