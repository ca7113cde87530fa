-- Why a module is not resolved: the places that are checked, in order, and the faults there.
use Rattle.std.specs.Prelude.{◌≡◌, ◌⊎◌, ℕ, Bool, true, false, List, [], ◌∷◌, ◌++◌, map, codes, Option, Some, None}
use Rattle.std.specs.Prelude.{if◌then◌else◌}
use Rattle.just_syntax.specs.Plain.{Text, Token, Assignment, Expr, Function}
use Rattle.just_syntax.specs.Lists.{IsIn}
use Rattle.just_value.specs.Frames.{Frames, value_in}
use Rattle.just_meaning.specs.Assignments.{Assignments, assignment_at}
use Rattle.just_meaning.specs.Callee.{Callee, Unknown, accepts, callee}
use Rattle.just_meaning.specs.Messages.{miscounted_text, unevaluated_text, unknown_assignment_text}
use Rattle.just_meaning.specs.Messages.{unknown_function_text, unresolved_text}
use Rattle.just_syntax.specs.Occurrences.{CallAt, CommandAt, Occurrence, VariableAt, all_occurrences, mention_of}
use Rattle.just_meaning.specs.Reaches.{Reads}
use Rattle.just_meaning.specs.Resolved.{HasValue, IsKnown, with_taken}
use Rattle.just_resolution.specs.First.{IsFirstFaulty}
use Rattle.just_resolution.specs.Unreadable.{IsUnreadable}

-- a fault, and the token where it occurs
pub data ModuleFault : Type 0 where
  -- a call, and the number of its arguments
  ArgumentCountMismatch : Token → ℕ → ModuleFault
  BoundParameter : Token → ModuleFault
  DuplicateNumber : Token → ModuleFault
  UndefinedFunction : Token → ModuleFault
  UndefinedVariable : Token → ModuleFault
  UnknownAssignment : Token → ModuleFault
  -- an assignment, and the variable that it reads
  UntakenVariable : Token → Token → ModuleFault

abbrev pub fault_token : ModuleFault → Token
fault_token (ArgumentCountMismatch function n) = function
fault_token (BoundParameter parameter) = parameter
fault_token (DuplicateNumber variable) = variable
fault_token (UndefinedFunction function) = function
fault_token (UndefinedVariable variable) = variable
fault_token (UnknownAssignment assignment) = assignment
fault_token (UntakenVariable assignment variable) = variable

-- its message; if evaluation is refused for it, the message is the same
abbrev pub module_fault_text : ModuleFault → Text
module_fault_text (ArgumentCountMismatch function n) = miscounted_text function.lexeme
module_fault_text (BoundParameter parameter) =
    (codes "parameter `" ++ parameter.lexeme) ++ codes "` has a number that is bound outside"
module_fault_text (DuplicateNumber variable) =
    (codes "variable `" ++ variable.lexeme) ++ codes "` has the number of another variable"
module_fault_text (UndefinedFunction function) = unknown_function_text function.lexeme
module_fault_text (UndefinedVariable variable) = unresolved_text variable.lexeme
module_fault_text (UnknownAssignment assignment) = unknown_assignment_text assignment.lexeme
module_fault_text (UntakenVariable assignment variable) = unevaluated_text variable.lexeme

-- ---- faults

-- whether a name stands for nothing
abbrev pub is_unknown : Callee → Bool
is_unknown Unknown = true
is_unknown c = false

-- the fault of a call that its name does not take: the name stands for nothing, or takes another number of arguments
abbrev pub miscalled : Callee → Token → ℕ → ModuleFault
miscalled c t n = if is_unknown c then UndefinedFunction t else ArgumentCountMismatch t n

abbrev pub call_fault : Callee → Token → ℕ → Option ModuleFault
call_fault c t n = if accepts c n then None else Some (miscalled c t n)

-- a variable with no number, or a faulty call
abbrev pub occurrence_fault : List Function → Occurrence → Option ModuleFault
occurrence_fault functions (CommandAt t text) = None
occurrence_fault functions (CallAt t n) = call_fault (callee functions t.lexeme) t n
occurrence_fault functions (VariableAt t None) = Some (UndefinedVariable t)
occurrence_fault functions (VariableAt t (Some n)) = None

-- what occurs here is known
abbrev pub IsKnownAt : List Function → Occurrence → Type 0
IsKnownAt functions o = IsKnown functions (mention_of o)

-- what occurs here has this fault
abbrev pub HasFault : List Function → Occurrence → ModuleFault → Type 0
HasFault functions o f = occurrence_fault functions o ≡ Some f

-- the name is that of an assignment which, if referenced, reads only what is readable
abbrev pub MayComeNext : List Function → Assignments → (ℕ → Type 0) → Token → Type 0
MayComeNext functions assignments readable t =
    ((a : Assignment) × (assignment_at assignments t.lexeme ≡ Some a))
    × ((a : Assignment) → assignment_at assignments t.lexeme ≡ Some a → assignments.referenced a.number ≡ true → (n : ℕ)
    → Reads functions a.value n → readable n)

-- an assignment reads a variable that is not readable
abbrev pub ReadsUntaken : List Function → (ℕ → Type 0) → Assignment → ModuleFault → Type 0
ReadsUntaken functions readable a f = (variable : Token) × (UntakenVariable a.name variable ≡ f)
    × IsUnreadable functions readable readable a.value variable

-- the name is no assignment's, or that of a referenced assignment that reads such a variable
abbrev pub IsMisplaced : List Function → Assignments → (ℕ → Type 0) → Token → ModuleFault → Type 0
IsMisplaced functions assignments readable t f =
    ((UnknownAssignment t ≡ f) × (assignment_at assignments t.lexeme ≡ None))
    ⊎ ((a : Assignment) × (assignment_at assignments t.lexeme ≡ Some a) × (assignments.referenced a.number ≡ true)
    × ReadsUntaken functions readable a f)

-- ---- places

-- a place that is checked
pub data CheckedPlace : Type 0 where
  -- an assignment or a parameter, its number, and the numbers before it
  NumberOf : Token → ℕ → List ℕ → CheckedPlace
  -- a parameter of a function, and its number
  ParameterOf : Token → ℕ → CheckedPlace
  -- a variable or a call
  OccurrenceOf : Occurrence → CheckedPlace
  -- a name of the evaluation order, and the numbers that are taken before it
  NameOf : Token → List ℕ → CheckedPlace

-- it is taken, or bound outside
abbrev pub IsTakenOrBound : Frames → List ℕ → ℕ → Type 0
IsTakenOrBound outer taken n = IsIn taken n ⊎ HasValue (value_in outer) n

module _ (functions : List Function) (assignments : Assignments) (outer : Frames) where
  -- there is no fault at this place
  abbrev pub IsSound : CheckedPlace → Type 0
  IsSound (NumberOf t n earlier) = IsIn earlier n → ⊥
  IsSound (ParameterOf t n) = HasValue (value_in outer) n → ⊥
  IsSound (OccurrenceOf o) = IsKnownAt functions o
  IsSound (NameOf t taken) = MayComeNext functions assignments (IsTakenOrBound outer taken) t

  -- this is a fault at this place
  abbrev pub IsFaulty : CheckedPlace → ModuleFault → Type 0
  IsFaulty (NumberOf t n earlier) f = (DuplicateNumber t ≡ f) × IsIn earlier n
  IsFaulty (ParameterOf t n) f = (BoundParameter t ≡ f) × HasValue (value_in outer) n
  IsFaulty (OccurrenceOf o) f = HasFault functions o f
  IsFaulty (NameOf t taken) f = IsMisplaced functions assignments (IsTakenOrBound outer taken) t f

-- assignments, each with its number
abbrev pub numbered_assignments : List Assignment → List (Token × ℕ)
numbered_assignments all = map (λ a. (a.name, a.number)) all

-- the parameters of functions, each with its number
abbrev pub numbered_parameters : List Function → List (Token × ℕ)
numbered_parameters [] = []
numbered_parameters (f ∷ fs) = f.parameters ++ numbered_parameters fs

abbrev pub number_places : List ℕ → List (Token × ℕ) → List CheckedPlace
number_places earlier [] = []
number_places earlier (p ∷ ps) = NumberOf p.0 p.1 earlier ∷ number_places (p.1 ∷ earlier) ps

abbrev pub parameter_places : List (Token × ℕ) → List CheckedPlace
parameter_places ps = map (λ p. ParameterOf p.0 p.1) ps

abbrev pub occurrence_places : List Expr → List CheckedPlace
occurrence_places es = map OccurrenceOf (all_occurrences es)

abbrev pub name_places : Assignments → List ℕ → List Token → List CheckedPlace
name_places assignments taken [] = []
name_places assignments taken (t ∷ left) =
    NameOf t taken ∷ name_places assignments (with_taken assignments (assignment_at assignments t.lexeme) taken) left

-- The places of a module that are checked, in order: the numbers of assignments and parameters, whether a parameter is
-- bound outside, what occurs in assignments and in bodies, and the evaluation order.
abbrev pub places : List Function → Assignments → List CheckedPlace
places functions assignments =
    number_places [] (numbered_assignments assignments.all ++ numbered_parameters functions)
    ++ parameter_places (numbered_parameters functions)
    ++ (occurrence_places (map (λ a. a.value) assignments.all)
    ++ (occurrence_places (map (λ f. f.body) functions)
    ++ name_places assignments [] assignments.order))

-- it is a fault at one of the places, and the places before it have none
abbrev pub IsFirstFault : List Function → Assignments → Frames → ModuleFault → Type 0
IsFirstFault functions assignments outer f = IsFirstFaulty (IsSound functions assignments outer)
    (λ place. IsFaulty functions assignments outer place f) (places functions assignments)
