-- Names, numbers and the steps of a walk as plain data.
use Rattle.std.specs.Prelude.{ℕ, Bool, List, Option, map, nat_eq, if◌then◌else◌}
use Rattle.std.specs.Borrow.{Bor}
use Rattle.std.specs.BTreeMap.{BTreeMap, get_by}
use Rattle.std.specs.Cmp.Lexicographic.{slice_cmp}
use Rattle.std.specs.HashMap.{HashMap}
use Rattle.std.specs.Map.{lookup}
use Rattle.std.specs.Option.{option_map, option_or}
use Rattle.std.specs.Ordering.{nat_cmp}
use Rattle.just_syntax.specs.Plain.{Assignment, Text, Token}
use Rattle.just_syntax.specs.View.{assignment_view, name_view}
use Rattle.just_syntax.specs.declared.name.Name.{Name}
use Rattle.just_resolve.specs.declared.free.Free.{Free}
use Rattle.just_resolve.specs.declared.names.Names.{Names}
use Rattle.just_resolve.specs.declared.renumbered.Declared.{Declared}
use Rattle.just_resolve.specs.declared.walk.Step.{Step}
use Rattle.just_resolve.specs.declared.walk.Walk as declared_walk
use Rattle.just_needs.specs.Graph.{PlainNode}
use Rattle.just_needs.specs.View.{is_reached, node_view}
use Rattle.just_resolve.specs.Walk.{Enter, Leave, PlainStep}

-- the number from which the next free one is looked for
abbrev pub next_free : Free → ℕ
next_free free = free.next

-- the number of a name
abbrev pub number_in : BTreeMap (Bor Text) ℕ → Text → Option ℕ
number_in all name = get_by (λ k. slice_cmp nat_cmp name k.now) all

-- the number of a variable
abbrev pub variable_named : Names → Text → Option ℕ
variable_named names name = number_in names.variables name

-- the number of a parameter
abbrev pub parameter_named : Names → Text → Option ℕ
parameter_named names name = number_in names.parameters name

-- the number of a parameter or, if no parameter has the name, of a variable
abbrev pub name_number : Names → Text → Option ℕ
name_number names name = option_or (parameter_named names name) (variable_named names name)

-- the name of a number
abbrev pub name_numbered : {S : Type 0} → HashMap ℕ Name S → ℕ → Option Token
name_numbered all n = option_map name_view (lookup (nat_eq n) all.entries)

-- whether a node was entered
abbrev pub entered_in : declared_walk.Walk → PlainNode → Bool
entered_in walk x = is_reached walk.entered x

abbrev pub step_view : Step → PlainStep
step_view step = if step.is_entered then Leave (node_view step.node) else Enter (node_view step.node)

-- the steps that are left to do, the next one last
abbrev pub steps_in : declared_walk.Walk → List PlainStep
steps_in walk = map step_view walk.steps.items

-- an assignment and its new number
abbrev pub declared_view : Declared → Assignment × ℕ
declared_view d = (assignment_view d.assignment.now, d.number)
