use Rattle.std.proofs.Common.{◌≡◌, ◌∙◌, ◌++◌, ℕ, List, ap, map, subst, sym}
use mathlib.Core.Path.{fun_ext}
use Rattle.std.specs.Option.{option_or}
use Rattle.just_syntax.specs.declared.name.Name.{Name}
use Rattle.just_resolve.specs.Prelude.{Expr, Function, IsRenumberedFunction, Text, Token, first_named, function_view, name_number, name_view}
use Rattle.just_resolve.specs.Prelude.{numbered_expression, parameter_view}
use Rattle.just_resolve.specs.Prelude.{variable_named, view}
use Rattle.just_resolve.proofs.Lookups.{first_named-append}
use Rattle.just_resolve.proofs.renumbered.function_with_numbers.Goals as goal

pub returns-clause-function : goal.returns-clause-function
returns-clause-function c = λ others same.
    let f = function_view c.args.function.now in
    let ps = map parameter_view c.in_ok-parameters.parameters.items in
    let name = name_view c.args.function.now.name in
    let old = λ (t : Text). variable_named c.args.names.now t in
    let names : (t : Text) → name_number c.set_parameters.new.self t ≡ first_named (ps ++ others) t =
    λ t. c.in_ok-set_parameters.ensures.parameters t
    ∙ ap (λ (xs : List (Name × ℕ)). option_or (first_named (map parameter_view xs) t) (old t)) c.deref-2.ensures.value
    ∙ ap (option_or (first_named ps t)) (same t) ∙ sym (first_named-append ps others t) in
    let body : view c.in_ok-body.body ≡ numbered_expression (first_named (ps ++ others)) f.body =
    c.in_ok-body.ensures ∙ ap (λ nm. numbered_expression nm f.body) (fun_ext names) in
    subst (IsRenumberedFunction others f) (sym c.new.ensures) (record {
      parameters = c.in_ok-parameters.ensures.names ∙ ap (λ (xs : List (Name × ℕ)). map (λ (p : Token × ℕ). p.0) (map parameter_view xs)) c.deref.ensures.value;
      same = ap (λ (b : Expr). let g : Function = record { body = b; name = name; parameters = ps } in g) body;
    })
