use Rattle.std.proofs.Common.{◌≡◌, ◌∙◌, ◌++◌, ℕ, List, Result, Ok, Err, OnOk, ap, map, subst, sym}
use Rattle.just_syntax.specs.declared.name.Name.{Name}
use Rattle.just_resolve.specs.Prelude.{AreTaken, Assignment, IsRenumbered, Text, Token, assignment_view, bound_names, declared_view, first_named, frames_view}
use Rattle.just_resolve.specs.Prelude.{function_view, functions_view, name_number, parameter_view, with_number}
use Rattle.just_resolve.specs.declared.renumbered.Declared.{Declared}
use Rattle.just_resolve.proofs.Renumbering.{renumbered_all}
use Rattle.just_resolve.proofs.renumbered.add_all.Goals as goal

-- what follows from two facts of a success
on_ok_two : {T E P Q R : Type 0} (r : Result T E) → (P → Q → R) → OnOk r P → OnOk r Q → OnOk r R
on_ok_two (Ok x) both p q = both p q
on_ok_two (Err e) both p q = tt

pub returns : goal.returns
returns c =
    let outer = frames_view c.args.outer.now in
    let ds = map declared_view c.in_ok-declared.declared.items in
    let nm = name_number c.in_ok-names.names in
    let vs = map parameter_view c.in_ok-variables.variables.items in
    let bound = bound_names outer in
    let pair : Assignment × ℕ → Token × ℕ = λ d. (d.0.name, d.1) in
    let seconds = map (λ (d : Assignment × ℕ). d.1) ds in
    let mid = c.declare_all.new.free.next in
    let taken : AreTaken outer 0 seconds mid = subst (λ (n : ℕ). AreTaken outer n seconds mid) c.new-free.ensures c.in_ok-declared.ensures.taken in
    let are : vs ≡ map pair ds =
    c.in_ok-variables.ensures ∙ ap (λ (xs : List Declared). map pair (map declared_view xs)) c.deref.ensures.value in
    let names : (t : Text) → nm t ≡ first_named (vs ++ bound) t =
    λ t. c.in_ok-names.ensures.named t ∙ ap (λ (xs : List (Name × ℕ)). first_named (map parameter_view xs ++ bound) t) c.deref-2.ensures.value in
    let copies : map assignment_view c.add_assignments.new.made ≡ map (with_number nm) ds =
    c.in_ok-add_assignments.ensures ∙ ap (λ (xs : List Declared). map (with_number nm) (map declared_view xs)) c.deref-3.ensures.value in
    let functions = functions_view c.args.«module».now in
    let functions' = map function_view c.add_functions.new.made in
    let assignments = map assignment_view c.args.«module».now.assignments in
    on_ok_two c.add_functions.result
    (λ bodies then. subst (λ (xs : List Assignment). IsRenumbered outer functions assignments functions' xs) (sym copies)
    (renumbered_all outer functions functions' assignments ds nm vs mid c.add_functions.new.free.next c.in_ok-declared.ensures.assignments taken are names
    (λ others p. bodies others (λ t. c.in_ok-names.ensures.variables t ∙ p t)) then))
    c.add_functions.ensures.functions c.add_functions.ensures.taken
