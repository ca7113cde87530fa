use Rattle.std.proofs.Common.{◌≡◌, ◌∙◌, ◌++◌, ◌-◌, ℕ, List, [], length, map, take, drop, ap, option_map, rules, subst, sym}
use Rattle.std.proofs.lemmas.List.{length-map}
use Rattle.just_resolution.specs.Prelude.{Assignments, Finds, FindsBound, Function, IsFaulty, IsSound, ParameterOf, Token, assignment_view, frames_view}
use Rattle.just_resolution.specs.Prelude.{functions_view, module_fault_view, number_places, numbered_assignments, numbered_parameters, parameter_places}
use Rattle.just_resolution.specs.Prelude.{parameter_view}
use Rattle.just_syntax.specs.declared.name.Name.{Name}
use Rattle.just_resolution.proofs.Finding.{finds_left, finds_map, finds_right, some_seen, sound_if}
use Rattle.just_resolution.proofs.Sets.{after}
use Rattle.just_resolution.proofs.numbers.numbering_fault.Goals.{After-is_some}
use Rattle.just_resolution.proofs.numbers.numbering_fault.Goals as goal

abbrev parameters : After-is_some → List (Token × ℕ)
parameters c = numbered_parameters (functions_view c.args.«module».now)

abbrev all : After-is_some → List (Token × ℕ)
all c = numbered_assignments (map assignment_view c.args.«module».now.assignments) ++ parameters c

-- everything was collected
gathered : (c : After-is_some) → map parameter_view c.deref.result.now ≡ all c
gathered c = ap (map parameter_view) c.deref.ensures.value ∙ c.in_ok-add_parameter_numbers.ensures
    ∙ ap (λ (ps : List (Token × ℕ)). ps ++ parameters c) c.in_ok-numbers.ensures

-- the result of the search among all
found : (c : After-is_some) (functions : List Function) (assignments : Assignments) →
    let outer = frames_view c.args.parent.now in
    Finds (IsSound functions assignments outer) (IsFaulty functions assignments outer) (number_places [] (all c))
    (option_map module_fault_view c.in_ok-duplicate.duplicate)
found c functions assignments =
    let outer = frames_view c.args.parent.now in
    subst (λ ps. Finds (IsSound functions assignments outer) (IsFaulty functions assignments outer) (number_places [] ps)
    (option_map module_fault_view c.in_ok-duplicate.duplicate)) (gathered c) (c.in_ok-duplicate.ensures functions assignments outer)

pub returns-then-is_some : goal.returns-then-is_some
returns-then-is_some c = λ functions assignments.
    let at = (goal.at.returns-then-is_some c).After-is_some in
    let outer = frames_view c.args.parent.now in
    finds_left (IsSound functions assignments outer) (IsFaulty functions assignments outer) (number_places [] (all at)) (parameter_places (parameters at))
    (option_map module_fault_view c.in_ok-duplicate.duplicate)
    (some_seen module_fault_view c.in_ok-duplicate.duplicate ∙ sym c.if-is_some.ensures) (found at functions assignments)

pub returns : goal.returns
returns c = λ functions assignments.
    let at = (goal.at.returns c).After-is_some in
    let outer = frames_view c.args.parent.now in
    let first = map parameter_view c.in_ok-numbers.numbers.items in
    let size : c.len-first_parameter.result ≡ length c.in_ok-numbers.numbers.items = search rules in
    let slice : List (Name × ℕ) = take (length c.deref-2.result.now - c.len-first_parameter.result) (drop c.len-first_parameter.result c.deref-2.result.now) in
    let of_parameters : map parameter_view slice ≡ parameters at =
    after parameter_view c.deref-2.result.now first (parameters at) c.len-first_parameter.result (ap (map parameter_view) c.deref-2.ensures.value
    ∙ c.in_ok-add_parameter_numbers.ensures) (size ∙ sym (length-map c.in_ok-numbers.numbers.items parameter_view)) in
    let bound = subst (λ ps. FindsBound outer ps (option_map module_fault_view c.parameter_fault.result)) of_parameters c.parameter_fault.ensures in
    finds_right (IsSound functions assignments outer) (IsFaulty functions assignments outer) (number_places [] (all at)) (parameter_places (parameters at))
    (option_map module_fault_view c.parameter_fault.result)
    (sound_if (IsSound functions assignments outer) (IsFaulty functions assignments outer) (number_places [] (all at))
    (option_map module_fault_view c.in_ok-duplicate.duplicate) (some_seen module_fault_view c.in_ok-duplicate.duplicate ∙ sym c.if-is_some.ensures)
    (found at functions assignments))
    (finds_map (IsSound functions assignments outer) (IsFaulty functions assignments outer) (λ (p : Token × ℕ). ParameterOf p.0 p.1) (parameters at)
    (option_map module_fault_view c.parameter_fault.result) bound)
