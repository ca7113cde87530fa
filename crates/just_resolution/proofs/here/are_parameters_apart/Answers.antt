use Rattle.std.proofs.Common.{◌≡◌, ◌∙◌, ◌↔◌, ⊎_elim, inl, inr, ◌++◌, ◌-◌, ℕ, List, [], length, map, take, drop, ap, append_assoc, false, is_some, option_map}
use Rattle.std.proofs.Common.{rules, subst, sym, Option}
use Rattle.std.proofs.lemmas.List.{length-map}
use Rattle.just_resolution.specs.Prelude.{AreDistinct, Assignments, FindsBound, Frames, Function, HasValue, IsIn, Parameter, Token, assignment_view}
use Rattle.just_resolution.specs.Prelude.{frames_view, functions_view, module_fault_view, numbered_parameters, parameter_numbers, parameter_view}
use Rattle.just_resolution.specs.Prelude.{recipe_parameter_view, value_in}
use Rattle.just_syntax.specs.declared.name.Name.{Name}
use Rattle.just_resolution.specs.declared.fault.Fault as declared
use Rattle.just_resolution.proofs.Deciding.{bound_decided, distinct_decided, none_answers, refused}
use Rattle.just_resolution.proofs.Faults.{numbers_with, parameters_with, recipe_pairs}
use Rattle.just_resolution.proofs.Sets.{after}
use Rattle.just_resolution.proofs.here.are_parameters_apart.Goals.{After-deref}
use Rattle.just_resolution.proofs.here.are_parameters_apart.Goals as goal

-- the functions, and the recipe's parameters
abbrev functions : After-deref → List Function
functions c = functions_view c.args.«module».now

abbrev own : After-deref → List Parameter
own c = map recipe_parameter_view c.args.parameters.now

-- the numbers of their parameters
abbrev numbers : After-deref → List ℕ
numbers c = parameter_numbers (functions c) ++ map (λ p. p.number) (own c)

abbrev slice : After-deref → List (Name × ℕ)
slice c = take (length c.deref.result.now - c.len-first_parameter.result) (drop c.len-first_parameter.result c.deref.result.now)

-- what was appended to the numbers of assignments
of_parameters : (c : After-deref) → map parameter_view (slice c) ≡ numbered_parameters (functions c) ++ recipe_pairs (own c)
of_parameters c =
    let size : c.len-first_parameter.result ≡ length c.in_ok-numbers.numbers.items = search rules in
    let first = map parameter_view c.in_ok-numbers.numbers.items in
    after parameter_view c.deref.result.now first (numbered_parameters (functions c) ++ recipe_pairs (own c)) c.len-first_parameter.result
    (ap (map parameter_view) c.deref.ensures.value ∙ c.in_ok-add_recipe_numbers.ensures ∙ ap (λ (ps : List (Token × ℕ)). ps ++ recipe_pairs (own c))
    c.in_ok-add_parameter_numbers.ensures
    ∙ append_assoc first (numbered_parameters (functions c)) (recipe_pairs (own c)))
    (size ∙ sym (length-map c.in_ok-numbers.numbers.items parameter_view))

-- a search among them decides whether one is bound
unbound : (c : After-deref) (outer : Frames) (o : Option declared.Fault) → FindsBound outer (map parameter_view (slice c)) (option_map module_fault_view o)
    → (is_some o ≡ false) ↔ ((n : ℕ) → IsIn (numbers c) n → HasValue (value_in outer) n → ⊥)
unbound c outer o found =
    subst (λ ns. (is_some o ≡ false) ↔ ((n : ℕ) → IsIn ns n → HasValue (value_in outer) n → ⊥)) (ap (map (λ (p : Token × ℕ). p.1)) (of_parameters c)
    ∙ parameters_with (functions c) (own c))
    (bound_decided module_fault_view o outer (map parameter_view (slice c)) found)

pub returns-then-is_some : goal.returns-then-is_some
returns-then-is_some c =
    let at = (goal.at.returns-then-is_some c).After-deref in
    refused (is_some c.parameter_fault.result) c.if-is_some.ensures
    (unbound at (frames_view c.args.scope.now) c.parameter_fault.result c.parameter_fault.ensures) (λ p n one b. p.1 n one (inl b))

pub returns-then-is_some-2 : goal.returns-then-is_some-2
returns-then-is_some-2 c =
    let at = (goal.at.returns-then-is_some-2 c).After-deref in
    refused (is_some c.parameter_fault-2.result) c.if-is_some-2.ensures
    (unbound at (frames_view c.args.base.now) c.parameter_fault-2.result c.parameter_fault-2.ensures) (λ p n one b. p.1 n one (inr b))

pub returns : goal.returns
returns c =
    let at = (goal.at.returns c).After-deref in
    let assignments = map assignment_view c.args.«module».now.assignments in
    let first = (unbound at (frames_view c.args.scope.now) c.parameter_fault.result c.parameter_fault.ensures).0 (sym c.if-is_some.ensures) in
    let second = (unbound at (frames_view c.args.base.now) c.parameter_fault-2.result c.parameter_fault-2.ensures).0 (sym c.if-is_some-2.ensures) in
    let whole : map (λ (p : Token × ℕ). p.1) (map parameter_view c.deref-2.result.now)
    ≡ map (λ a. a.number) assignments ++ parameter_numbers (functions at) ++ map (λ p. p.number) (own at) =
    ap (λ (ns : List (Name × ℕ)). map (λ (p : Token × ℕ). p.1) (map parameter_view ns)) c.deref-2.ensures.value
    ∙ ap (map (λ (p : Token × ℕ). p.1))
    (c.in_ok-add_recipe_numbers.ensures ∙ ap (λ (ps : List (Token × ℕ)). ps ++ recipe_pairs (own at)) (c.in_ok-add_parameter_numbers.ensures
    ∙ ap (λ (ps : List (Token × ℕ)). ps ++ numbered_parameters (functions at)) c.in_ok-numbers.ensures))
    ∙ numbers_with assignments (functions at) (own at) in
    let all : Assignments = record { all = assignments; order = []; referenced = λ n. false } in
    let decided = distinct_decided module_fault_view c.in_ok-number_fault.field-0 (functions at) all (frames_view c.args.base.now)
    (map parameter_view c.deref-2.result.now) (c.in_ok-number_fault.ensures (functions at) all (frames_view c.args.base.now)) in
    let distinct = none_answers (is_some c.in_ok-number_fault.field-0) c.is_none.result c.is_none.ensures
    (subst (λ ns. (is_some c.in_ok-number_fault.field-0 ≡ false) ↔ AreDistinct ns) whole decided) in (
      (λ h. (distinct.0 h, λ n one b. ⊎_elim (λ x. first n one x) (λ x. second n one x) b)),
      (λ p. distinct.1 p.0),
    )
