use Rattle.std.proofs.Common.{◌∙◌, ap, sym, not, Option, Bor, option_map}
use Rattle.just_resolution.specs.Prelude.{Function, defined_or, function_view, is_unknown, undefined}
use Rattle.just_syntax.specs.declared.function_definition.FunctionDefinition.{FunctionDefinition}
use Rattle.just_meaning.proofs.Tables.{function_found}
use Rattle.just_resolution.proofs.known.is_function.Goals as goal

pub returns-in-Some : goal.returns-in-Some
returns-in-Some c =
    let found = function_found c.args.name.now c.args.functions.now c.get.result c.get.ensures in
    ap (λ (o : Option Function). not (is_unknown (defined_or o (undefined c.args.name.now))))
    (sym (found ∙ ap (option_map (λ (v : Bor FunctionDefinition). function_view v.now)) c.in-Some.is))

pub returns-in-None : goal.returns-in-None
returns-in-None c =
    let found = function_found c.args.name.now c.args.functions.now c.get.result c.get.ensures in
    c.is_function_outside.ensures ∙ ap (λ (o : Option Function). not (is_unknown (defined_or o (undefined c.args.name.now))))
    (sym (found ∙ ap (option_map (λ (v : Bor FunctionDefinition). function_view v.now)) c.in-None.is))
