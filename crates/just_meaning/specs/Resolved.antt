-- When a module is resolved.
use Rattle.std.specs.Prelude.{◌≡◌, ◌⊎◌, ℕ, true, List, [], ◌∷◌, ◌++◌, map, Option, Some, None, if◌then◌else◌}
use Rattle.std.specs.List.{AllByRecursion, flat_map}
use Rattle.just_syntax.specs.Plain.{Token, Assignment, Function, Expr}
use Rattle.just_syntax.specs.Lists.{IsIn}
use Rattle.just_value.specs.Value.{Value, Names}
use Rattle.just_value.specs.Frames.{Frames, value_in}
use Rattle.just_meaning.specs.Assignments.{Assignments, assignment_at}
use Rattle.just_meaning.specs.Callee.{Accepts, callee}
use Rattle.just_syntax.specs.Occurrences.{CallOf, CommandOf, Mention, VariableOf}
use Rattle.just_meaning.specs.Reaches.{Occurs, Reads}

-- the variable has a number, or the called name takes this many arguments
abbrev pub IsKnown : List Function → Mention → Type 0
IsKnown functions (CommandOf text) = Unit {0}
IsKnown functions (VariableOf None) = ⊥
IsKnown functions (VariableOf (Some n)) = Unit {0}
IsKnown functions (CallOf name n) = Accepts (callee functions name) n

-- everything that occurs in the expression is known
abbrev pub MentionsKnown : List Function → Expr → Type 0
MentionsKnown functions e = (x : Mention) → Occurs e x → IsKnown functions x

abbrev pub AllKnown : List Function → List Expr → Type 0
AllKnown functions es = AllByRecursion (MentionsKnown functions) es

-- no number occurs twice
abbrev pub AreDistinct : List ℕ → Type 0
AreDistinct [] = Unit {0}
AreDistinct (n ∷ ns) = (IsIn ns n → ⊥) × AreDistinct ns

-- the numbers of all parameters
abbrev pub parameter_numbers : List Function → List ℕ
parameter_numbers functions = flat_map (λ f. map (λ p. p.1) f.parameters) functions

-- a name has a value
abbrev pub HasValue : Names → ℕ → Type 0
HasValue names n = (v : Value) × (names n ≡ Some v)

-- each of these names is that of an assignment
abbrev pub AreAssignments : Assignments → List Token → Type 0
AreAssignments assignments names =
    AllByRecursion (λ t. (a : Assignment) × (assignment_at assignments t.lexeme ≡ Some a)) names

abbrev pub with_taken : Assignments → Option Assignment → List ℕ → List ℕ
with_taken assignments None taken = taken
with_taken assignments (Some a) taken = if assignments.referenced a.number then a.number ∷ taken else taken

-- What each taken assignment reads, by itself or through functions, is taken earlier or bound outside. This holds of
-- overridden assignments too.
abbrev pub AreInOrder : List Function → Assignments → Frames → List ℕ → List Token → Type 0
AreInOrder functions assignments outer taken [] = Unit {0}
AreInOrder functions assignments outer taken (t ∷ left) =
    ((a : Assignment) → assignment_at assignments t.lexeme ≡ Some a → assignments.referenced a.number ≡ true → (n : ℕ)
    → Reads functions a.value n → IsIn taken n ⊎ HasValue (value_in outer) n)
    × AreInOrder functions assignments outer (with_taken assignments (assignment_at assignments t.lexeme) taken) left

-- Numbers are distinct, no parameter is bound outside, every variable has a number, every call has as many arguments as
-- its name takes, the order names only assignments, and everything is taken before it is read.
pub record IsResolved (functions : List Function) (assignments : Assignments) (outer : Frames) : Type 0 where
  pub distinct : AreDistinct (map (λ a. a.number) assignments.all ++ parameter_numbers functions)
  pub unbound : (n : ℕ) → IsIn (parameter_numbers functions) n → HasValue (value_in outer) n → ⊥
  pub values : AllKnown functions (map (λ a. a.value) assignments.all)
  pub bodies : AllKnown functions (map (λ f. f.body) functions)
  pub named : AreAssignments assignments assignments.order
  pub in_order : AreInOrder functions assignments outer [] assignments.order

-- ---- const stages

-- each variable in an expression has a number; there is no condition on the names that are called
abbrev pub IsNumbered : Expr → Type 0
IsNumbered e = Occurs e (VariableOf None) → ⊥

abbrev pub AllNumbered : List Expr → Type 0
AllNumbered es = AllByRecursion IsNumbered es

-- The same before any run, where no function is entered: the numbers of assignments are distinct, every variable has a
-- number, the order names only assignments, and every variable that occurs in an assignment is taken before it.
pub record IsResolvedConst (assignments : Assignments) (outer : Frames) : Type 0 where
  pub distinct : AreDistinct (map (λ a. a.number) assignments.all)
  pub values : AllNumbered (map (λ a. a.value) assignments.all)
  pub named : AreAssignments assignments assignments.order
  pub in_order : AreInOrder [] assignments outer [] assignments.order
