use Rattle.std.proofs.Common.{◌≡◌, ◌∙◌, ap, sym, length, rules, Option, Bor, option_map}
use Rattle.just_resolution.specs.Prelude.{Function, accepts, defined_or, function_view, undefined}
use Rattle.just_syntax.specs.declared.function_definition.FunctionDefinition.{FunctionDefinition}
use Rattle.just_meaning.proofs.Tables.{function_found}
use Rattle.just_resolution.proofs.Tables.{accepts_found}
use Rattle.just_resolution.proofs.known.is_callable.Goals as goal

pub returns-in-Some : goal.returns-in-Some
returns-in-Some c =
    let found = function_found c.args.name.now c.args.functions.now c.get.result c.get.ensures in
    let size : c.len.result ≡ length c.in-Some.function.now.parameters.items = search rules in
    accepts_found _ c.in-Some.function.now (undefined c.args.name.now) c.len.result c.args.arguments
    (found ∙ ap (option_map (λ (v : Bor FunctionDefinition). function_view v.now)) c.in-Some.is) size

pub returns-in-None : goal.returns-in-None
returns-in-None c =
    let found = function_found c.args.name.now c.args.functions.now c.get.result c.get.ensures in
    c.is_callable_outside.ensures ∙ ap (λ (o : Option Function). accepts (defined_or o (undefined c.args.name.now)) c.args.arguments)
    (sym (found ∙ ap (option_map (λ (v : Bor FunctionDefinition). function_view v.now)) c.in-None.is))
