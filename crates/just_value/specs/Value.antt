-- Values: lists of texts.
use Rattle.std.specs.Prelude.{◌≡◌, ◌↔◌, IsTrue, ℕ, Bool, true, false, nat_eq, List, [], ◌∷◌, Option, codes}
use Rattle.std.specs.declared.cmp.Ordering.{Ordering}
use Rattle.std.specs.Ordering.{nat_cmp}
use Rattle.std.specs.Cmp.Lexicographic.{pointwise, slice_cmp}
use Rattle.std.specs.List.{join_by}
use Rattle.just_syntax.specs.Plain.{Text}

abbrev pub Value : Type 0
Value = List Text

-- the values of numbers
abbrev pub Names : Type 0
Names = ℕ → Option Value

-- a value is truthy if it has an element
abbrev pub is_truthy : Value → Bool
is_truthy [] = false
is_truthy (x ∷ xs) = true

-- the value of a condition: one text for true, no element for false
abbrev pub from_condition : Bool → Value
from_condition true = codes "true" ∷ []
from_condition false = []

-- the elements, separated by spaces
abbrev pub joined : Value → Text
joined v = join_by (λ text. text) (codes " ") v

-- whether two values are the same texts, byte by byte
abbrev pub is_same : Value → Value → Bool
is_same = pointwise (pointwise nat_eq)

-- the order of values: lexicographic by their texts, and these lexicographic by their bytes
abbrev pub value_cmp : Value → Value → Ordering
value_cmp = slice_cmp (slice_cmp nat_cmp)

-- the comparison yields `Equal` exactly if two values are equal
abbrev pub SameExactlyIfEqual : Type 0
SameExactlyIfEqual = (v w : Value) → IsTrue (is_same v w) ↔ (v ≡ w)

-- the join of no element is the empty text, and the join of one element is that element
abbrev pub JoinsNoneAndOne : Type 0
JoinsNoneAndOne = (joined [] ≡ []) × ((text : Text) → joined (text ∷ []) ≡ text)

-- a value is truthy even if its one element is empty
abbrev pub EmptyTextIsTruthy : Type 0
EmptyTextIsTruthy = is_truthy ([] ∷ []) ≡ true
