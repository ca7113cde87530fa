-- Why a module cannot be resolved.
use Rattle.std.specs.Prelude.{◌≡◌, List, [], ◌∷◌, ◌++◌, Option, Some, None, codes, map, option_map, slice_get}
use Rattle.std.specs.List.{flat_map}
use Rattle.just_syntax.specs.OutOfMemory.{no_memory_text}
use Rattle.just_syntax.specs.Plain.{Assignment, Function, Text, Token}
use Rattle.just_syntax.specs.View.{name_view}
use Rattle.just_value.specs.Frames.{Frames}
use Rattle.just_meaning.specs.Resolved.{AllKnown}
use Rattle.just_resolution.specs.Fault.{ArgumentCountMismatch, IsFirstFault, ModuleFault, UndefinedFunction}
use Rattle.just_resolution.specs.Fault.{UndefinedVariable, UntakenVariable, fault_token, module_fault_text}
use Rattle.just_resolution.specs.Seen.{module_fault_view}
use Rattle.just_faults.specs.All.{AreFaults}
use Rattle.just_resolve.specs.Cycle.{IsCycle}
use Rattle.just_resolve.specs.Dependence.{DependsOnItself}
use Rattle.just_resolve.specs.Order.{IsOrder, ordered}
use Rattle.just_resolve.specs.Renumbered.{IsRenumbered}
use Rattle.just_resolve.specs.declared.resolve_error.ResolveError.{ResolveError}
use Rattle.just_resolve.specs.declared.resolve_error.ResolveError.TheVariants as errors

-- With the new numbers, the names are those of assignments that form a cycle. No fault of a variable or of a call comes
-- before it: each variable has a number, and each call has as many arguments as its name takes.
pub record IsCircular (outer : Frames) (functions : List Function) (assignments : List Assignment)
    (names : List Token) : Type 0 where
  pub functions' : List Function
  pub assignments' : List Assignment
  pub renumbered : IsRenumbered outer functions assignments functions' assignments'
  pub cycle : IsCycle functions' assignments' names
  pub values : AllKnown functions' (map (λ a. a.value) assignments')
  pub bodies : AllKnown functions' (map (λ f. f.body) functions')

-- with the new numbers and in some order, it is the first fault
pub record IsFaultAnyway (outer : Frames) (functions : List Function) (assignments : List Assignment)
    (fault : ModuleFault) : Type 0 where
  pub functions' : List Function
  pub assignments' : List Assignment
  pub order : List Token
  pub renumbered : IsRenumbered outer functions assignments functions' assignments'
  pub is_order : IsOrder assignments' order
  pub first : IsFirstFault functions' (ordered assignments' order) outer fault

-- the fault is one of a variable or of a call, so it does not depend on the order
abbrev pub IsOfMention : ModuleFault → Type 0
IsOfMention (ArgumentCountMismatch function n) = Unit {0}
IsOfMention (UndefinedFunction function) = Unit {0}
IsOfMention (UndefinedVariable variable) = Unit {0}
IsOfMention fault = ⊥

-- the fault is that an assignment reads a variable that is not evaluated before it
abbrev pub IsUntaken : ModuleFault → Type 0
IsUntaken (UntakenVariable assignment variable) = Unit {0}
IsUntaken fault = ⊥

-- an assignment that depends on itself reads a variable that is not evaluated before it
abbrev pub IsOfCycle : List Function → List Assignment → Frames → ModuleFault → Type 0
IsOfCycle functions assignments outer fault = (assignment : Token) × (variable : Token)
    × (UntakenVariable assignment variable ≡ fault) × DependsOnItself functions assignments outer assignment.lexeme

-- with the new numbers it is the first fault, whatever the order is
pub record IsFaultInEachOrder (outer : Frames) (functions : List Function) (assignments : List Assignment)
    (fault : ModuleFault) : Type 0 where
  pub functions' : List Function
  pub assignments' : List Assignment
  pub renumbered : IsRenumbered outer functions assignments functions' assignments'
  pub first : (order : List Token) → IsFirstFault functions' (ordered assignments' order) outer fault

-- in some order of the assignments, these are all faults
pub record AreFaultsInSomeOrder (functions : List Function) (assignments : List Assignment) (outer : Frames)
    (faults : List ModuleFault) : Type 0 where
  pub order : List Token
  pub is_order : IsOrder assignments order
  pub are : AreFaults functions (ordered assignments order) outer faults

-- with the new numbers and in some order, these are all faults
pub record AreNameFaults (outer : Frames) (functions : List Function) (assignments : List Assignment)
    (faults : List ModuleFault) : Type 0 where
  pub functions' : List Function
  pub assignments' : List Assignment
  pub renumbered : IsRenumbered outer functions assignments functions' assignments'
  pub in_some_order : AreFaultsInSomeOrder functions' assignments' outer faults

-- the names of the cycle, if that is the error
abbrev pub cycle_in : ResolveError → Option (List Token)
cycle_in (errors.Circular names) = Some (map name_view names.items)
cycle_in (errors.Fault fault) = None
cycle_in errors.OutOfMemory = None

-- the fault, if that is the error
abbrev pub fault_in : ResolveError → Option ModuleFault
fault_in (errors.Circular names) = None
fault_in (errors.Fault fault) = Some (module_fault_view fault)
fault_in errors.OutOfMemory = None

-- the token of the first name of a cycle, or of a fault
abbrev pub resolve_error_token : ResolveError → Option Token
resolve_error_token (errors.Circular names) = option_map name_view (slice_get names.items 0)
resolve_error_token (errors.Fault fault) = Some (fault_token (module_fault_view fault))
resolve_error_token errors.OutOfMemory = None

-- ---- messages

abbrev pub quoted_name : Token → Text
quoted_name name = (codes "`" ++ name.lexeme) ++ codes "`"

-- a name of a cycle, before the name that it depends on
abbrev pub arrow_text : Token → Text
arrow_text name = (codes "`" ++ name.lexeme) ++ codes "` -> "

abbrev pub dependent_text : Token → Text
dependent_text name = (codes "variable `" ++ name.lexeme) ++ codes "` depends on itself"

-- the message for a cycle of these names, which has the first name also at the end
abbrev pub ring_text : Token → List Token → Text
ring_text first names = dependent_text first ++ (codes ": " ++ (flat_map arrow_text names ++ quoted_name first))

-- the same, but a cycle of one name is not written out
abbrev pub cycle_text : List Token → Text
cycle_text [] = []
cycle_text (first ∷ []) = dependent_text first
cycle_text (first ∷ second ∷ rest) = ring_text first (first ∷ second ∷ rest)

abbrev pub resolve_error_text : ResolveError → Text
resolve_error_text (errors.Circular names) = cycle_text (map name_view names.items)
resolve_error_text (errors.Fault fault) = module_fault_text (module_fault_view fault)
resolve_error_text errors.OutOfMemory = no_memory_text

abbrev pub no_memory : ResolveError
no_memory = errors.OutOfMemory
