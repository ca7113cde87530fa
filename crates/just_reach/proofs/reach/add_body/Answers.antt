use Rattle.std.proofs.Common.{◌∙◌, ap, sym, Bor, Option, map, option_map}
use Rattle.std.proofs.lemmas.Result.{on_ok_weaker}
use Rattle.just_syntax.specs.declared.function_definition.FunctionDefinition.{FunctionDefinition}
use Rattle.just_reach.specs.Prelude.{Function, function_view, members_of_body, members_view}
use Rattle.just_meaning.proofs.Tables.{function_found}
use Rattle.just_reach.proofs.reach.add_body.Goals as goal

pub returns-in-Some : goal.returns-in-Some
returns-in-Some c =
    let known = map function_view c.args.functions.now in
    let found = function_found c.args.name.now c.args.functions.now c.get.result c.get.ensures
    ∙ ap (option_map (λ (v : Bor FunctionDefinition). function_view v.now)) c.in-Some.is in
    on_ok_weaker c.add.result (λ added. added ∙ ap (λ (o : Option Function). members_of_body known (members_view c.args.all.now.items) o)
    (sym found)) c.add.ensures

pub returns-in-None : goal.returns-in-None
returns-in-None c =
    let known = map function_view c.args.functions.now in
    let found = function_found c.args.name.now c.args.functions.now c.get.result c.get.ensures
    ∙ ap (option_map (λ (v : Bor FunctionDefinition). function_view v.now)) c.in-None.is in
    ap (λ (o : Option Function). members_of_body known (members_view c.args.all.now.items) o) (sym found)
