-- How an operator combines two lists of texts.
use Rattle.std.specs.Prelude.{[], ◌∷◌, ◌++◌, length, map, Option, Some, None, if◌then◌else◌, ◌==◌}
use Rattle.just_syntax.specs.Plain.{Text, Token}
use Rattle.just_syntax.specs.declared.list_operator.ListOperator.{ListOperator}
use Rattle.just_syntax.specs.ListOperator.{separator}
use Rattle.just_value.specs.Value.{Value}
use Rattle.just_value.specs.Refusal.{ListOperation}
use Rattle.just_value.specs.Outcome.{Outcome, Gave, Refused}

-- pairs of elements, until one list ends
abbrev pub paired : Text → Value → Value → Value
paired s [] ys = []
paired s (x ∷ xs) [] = []
paired s (x ∷ xs) (y ∷ ys) = ((x ++ s) ++ y) ∷ paired s xs ys

-- One element is combined with each of the other list, and lists of equal length are paired. No other lengths can be
-- combined.
abbrev pub applied : Text → Value → Value → Option Value
applied s (x ∷ []) (y ∷ ys) = Some (map (λ y. (x ++ s) ++ y) (y ∷ ys))
applied s (x ∷ z ∷ xs) (y ∷ []) = Some (map (λ x. (x ++ s) ++ y) (x ∷ z ∷ xs))
applied s xs ys = if length xs == length ys then Some (paired s xs ys) else None

-- the value, or the refusal with both lists
abbrev pub value_or_lists : Option Value → Value → ListOperator → Value → Token → Outcome Value
value_or_lists (Some v) xs o ys t = Gave v
value_or_lists None xs o ys t = Refused (ListOperation xs o ys t)

abbrev pub combined : Value → ListOperator → Value → Token → Outcome Value
combined xs o ys t = value_or_lists (applied (separator o) xs ys) xs o ys t
