-- The members of a set of names.
use Rattle.std.specs.Prelude.{Bool}
use Rattle.std.specs.Borrow.{Bor}
use Rattle.std.specs.BTreeSet.{BTreeSet, contains_by}
use Rattle.std.specs.Cmp.Lexicographic.{slice_cmp}
use Rattle.std.specs.Ordering.{nat_cmp}
use Rattle.just_syntax.specs.Plain.{Text}

-- whether a name is in a set
abbrev pub is_name_in : BTreeSet (Bor Text) → Text → Bool
is_name_in set name = contains_by (λ key. slice_cmp nat_cmp name key.now) set
