-- What the value of a variable depends on, and what two versions of a module have in common.
use Rattle.std.specs.Prelude.{◌≡◌, ◌↔◌, ◌⊎◌, ℕ, Bool, IsTrue, List, [], ◌∷◌, Option, Some, None}
use Rattle.just_syntax.specs.Plain.{Text, Assignment, Expr, Function}
use Rattle.just_syntax.specs.Lists.{IsIn}
use Rattle.just_value.specs.Frames.{Frames, value_in}
use Rattle.just_syntax.specs.Occurrences.{CallAt, CallOf, CommandAt, Occurrence, VariableAt, VariableOf}
use Rattle.just_meaning.specs.Reaches.{IsAmong, Occurs}
use Rattle.just_needs.specs.Graph.{IsReadFrom, PlainNode, OfFunction, OfVariable}

-- a module and its overrides: the assignment and the override of each number, and the function of each name
pub record Version : Type 0 where
  pub assignment : ℕ → Option Assignment
  pub function : Text → Option Function
  pub override : ℕ → Option Text

-- a node is the same in two versions
abbrev pub IsUnchanged : Version → Version → PlainNode → Type 0
IsUnchanged v u (OfFunction name) = v.function name ≡ u.function name
IsUnchanged v u (OfVariable n) = (v.assignment n ≡ u.assignment n) × (v.override n ≡ u.override n)

-- a number is neither overridden nor bound outside
abbrev pub IsFree : Version → Frames → ℕ → Type 0
IsFree v outer n = (v.override n ≡ None) × (value_in outer n ≡ None)

-- an expression reads a variable that is not its own, or calls a function
abbrev pub Mentions : (ℕ → Type 0) → Expr → PlainNode → Type 0
Mentions own e (OfFunction name) = (k : ℕ) × Occurs e (CallOf name k)
Mentions own e (OfVariable n) = Occurs e (VariableOf (Some n)) × (own n → ⊥)

-- an assignment that is the first with its number, and evaluated, reads a node
pub record AssignmentReads (v : Version) (outer : Frames) (a : Assignment) (x : PlainNode) : Type 0 where
  pub first : v.assignment a.number ≡ Some a
  pub free : IsFree v outer a.number
  pub mentions : Mentions (λ k. ⊥) a.value x

-- a function reads a node
abbrev pub FunctionReads : Function → PlainNode → Type 0
FunctionReads f x = Mentions (IsAmong f.parameters) f.body x

-- the function with a name reads a node
pub record NameReads (v : Version) (name : Text) (x : PlainNode) : Type 0 where
  pub function : Function
  pub found : v.function name ≡ Some function
  pub reads : FunctionReads function x

-- the assignment with a number reads a node
pub record NumberReads (v : Version) (outer : Frames) (n : ℕ) (x : PlainNode) : Type 0 where
  pub assignment : Assignment
  pub number : assignment.number ≡ n
  pub reads : AssignmentReads v outer assignment x

-- a node reads another by itself
abbrev pub ReadsItself : Version → Frames → PlainNode → PlainNode → Type 0
ReadsItself v outer (OfFunction name) x = NameReads v name x
ReadsItself v outer (OfVariable n) x = NumberReads v outer n x

-- the node is this variable, and not an own one
abbrev pub IsOneVariable : (ℕ → Type 0) → Option ℕ → PlainNode → Type 0
IsOneVariable own number (OfFunction name) = ⊥
IsOneVariable own number (OfVariable n) = (number ≡ Some n) × (own n → ⊥)

-- the node is this variable, or the called function
abbrev pub IsNodeAt : (ℕ → Type 0) → Occurrence → PlainNode → Type 0
IsNodeAt own (CommandAt t text) x = ⊥
IsNodeAt own (CallAt t n) x = OfFunction t.lexeme ≡ x
IsNodeAt own (VariableAt t number) x = IsOneVariable own number x

-- the node occurs at one of these occurrences
abbrev pub AmongOccurrences : (ℕ → Type 0) → List Occurrence → PlainNode → Type 0
AmongOccurrences own [] x = ⊥
AmongOccurrences own (o ∷ os) x = IsNodeAt own o x ⊎ AmongOccurrences own os x

-- What is touched between two versions: the nodes that differ, and the readers, in the first version, of touched nodes.
pub record IsTouchedBetween (v u : Version) (outer : Frames) (touched : PlainNode → Bool) : Type 0 where
  pub readers : PlainNode → List PlainNode
  pub read : (x y : PlainNode) → IsIn (readers x) y ↔ ReadsItself v outer y x
  pub starts : List PlainNode
  pub differ : (x : PlainNode) → IsIn starts x → IsUnchanged v u x → ⊥
  pub all : (x : PlainNode) → IsIn starts x ⊎ IsUnchanged v u x
  pub reached : (x : PlainNode) → IsTrue (touched x) ↔ IsReadFrom readers starts x
