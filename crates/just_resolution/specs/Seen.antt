-- Faults, sets and names as plain data.
use Rattle.std.specs.Prelude.{◌≡◌, ℕ, Bool, ◌||◌, List, [], Option, Some, None, map, is_some}
use Rattle.std.specs.Borrow.{Bor}
use Rattle.std.specs.BTreeSet.{BTreeSet, contains_by}
use Rattle.std.specs.Ordering.{nat_cmp}
use Rattle.just_syntax.specs.NumberSet.{is_member}
use Rattle.just_syntax.specs.Plain.{Text, Token, Attribute, Expr}
use Rattle.just_syntax.specs.View.{name_view, recipe_view, view}
use Rattle.just_syntax.specs.declared.expression.Expression.{Expression}
use Rattle.just_syntax.specs.declared.recipe.Recipe.{Recipe}
use Rattle.just_value.specs.Frames.{value_in}
use Rattle.just_value.specs.View.{frames_view}
use Rattle.just_resolution.specs.declared.fault.Fault as declared_fault
use Rattle.just_resolution.specs.declared.fault.Fault.TheVariants as faults
use Rattle.just_resolution.specs.declared.here.Reader.{Reader}
use Rattle.just_resolution.specs.declared.readable.Readable.{Readable}
use Rattle.just_resolution.specs.Fault.{ModuleFault, ArgumentCountMismatch, BoundParameter, DuplicateNumber}
use Rattle.just_resolution.specs.Fault.{UndefinedFunction, UndefinedVariable, UnknownAssignment, UntakenVariable}

abbrev pub module_fault_view : declared_fault.Fault → ModuleFault
module_fault_view (faults.ArgumentCountMismatch function n) = ArgumentCountMismatch (name_view function) n
module_fault_view (faults.BoundParameter parameter) = BoundParameter (name_view parameter)
module_fault_view (faults.DuplicateNumber variable) = DuplicateNumber (name_view variable)
module_fault_view (faults.UndefinedFunction function) = UndefinedFunction (name_view function)
module_fault_view (faults.UndefinedVariable variable) = UndefinedVariable (name_view variable)
module_fault_view (faults.UnknownAssignment assignment) = UnknownAssignment (name_view assignment)
module_fault_view (faults.UntakenVariable assignment variable) =
    UntakenVariable (name_view assignment) (name_view variable)

abbrev pub texts : List (Bor Text) → List Text
texts names = map (λ name. name.now) names

-- whether a number is in a set
abbrev pub is_number_in : BTreeSet ℕ → ℕ → Bool
is_number_in set n = contains_by (nat_cmp n) set

-- whether a number was taken
abbrev pub is_number_taken : Readable → ℕ → Bool
is_number_taken r n = is_member r.taken n

-- whether a number was taken, or is bound outside
abbrev pub is_readable : Readable → ℕ → Bool
is_readable r n = is_number_taken r n || is_some (value_in (frames_view r.outer.now) n)

-- borrowed expressions
abbrev pub expressions_view : List (Bor Expression) → List Expr
expressions_view es = map (λ e. view e.now) es

-- the attributes of a recipe, if there is one
abbrev pub attributes_of : Option (Bor Recipe) → List (Attribute × Token)
attributes_of None = []
attributes_of (Some recipe) = (recipe_view recipe.now).attributes

-- the same except for the functions that were scanned
pub record IsSameReader (old new : Reader) : Type 0 where
  pub functions : new.functions ≡ old.functions
  pub here : new.here ≡ old.here
  pub bodies : new.bodies ≡ old.bodies
