-- An environment with one more variable.
use Rattle.std.proofs.Common.{◌≡◌, List, [], ◌∷◌, length, ap, false}
use Rattle.std.specs.BTreeMap.{insert_entry}
use Rattle.std.specs.Bool.{◌==◌}
use Rattle.std.specs.Cmp.Lexicographic.{slice_cmp}
use Rattle.std.specs.Ordering.{nat_cmp}
use Rattle.just_eval.specs.Prelude.{Text, Value, with_variable}
use Rattle.just_value.specs.Value.{joined}

-- a value with an element sets a variable
pub set_by : (environment : List (Text × Text)) (key text : Text) (v : Value) → (length v == 0) ≡ false → text ≡ joined v
    → insert_entry (slice_cmp nat_cmp) environment key text ≡ with_variable environment key v
set_by environment key text [] some is = absurd (cc)
set_by environment key text (x ∷ xs) some is = ap (insert_entry (slice_cmp nat_cmp) environment key) is
