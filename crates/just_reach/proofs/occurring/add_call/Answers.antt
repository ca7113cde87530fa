use Rattle.std.proofs.Common.{◌∙◌, ◌++◌, ◌∷◌, [], ap, sym, Option, Bor, option_map}
use Rattle.std.proofs.lemmas.List.{map-append}
use Rattle.std.proofs.lemmas.Result.{on_ok_weaker}
use Rattle.just_syntax.specs.declared.function_definition.FunctionDefinition.{FunctionDefinition}
use Rattle.just_meaning.specs.Callee.{defined_or}
use Rattle.just_reach.specs.Prelude.{Function, called_member, function_view, member_view, members_view, name_view, undefined}
use Rattle.just_meaning.proofs.Tables.{function_found}
use Rattle.just_reach.proofs.occurring.add_call.Goals as goal

pub returns-in-Some : goal.returns-in-Some
returns-in-Some c =
    let name = c.args.name.now in
    let before = c.args.all.now.items in
    let found = function_found name.token.lexeme.now c.args.functions.now c.get.result (rw c.lexeme.ensures at c.get.ensures) in
    let seen = found ∙ ap (option_map (λ (v : Bor FunctionDefinition). function_view v.now)) c.in-Some.is in
    on_ok_weaker c.push.result (λ pushed. ap members_view pushed ∙ map-append member_view before _
    ∙ ap (λ (o : Option Function). members_view before ++ called_member (defined_or o (undefined name.token.lexeme.now)) (name_view name) ∷ []) (sym seen))
    c.push.ensures.ok

pub returns-in-None : goal.returns-in-None
returns-in-None c =
    let name = c.args.name.now in
    let before = c.args.all.now.items in
    let found = function_found name.token.lexeme.now c.args.functions.now c.get.result (rw c.lexeme.ensures at c.get.ensures) in
    let seen = found ∙ ap (option_map (λ (v : Bor FunctionDefinition). function_view v.now)) c.in-None.is in
    on_ok_weaker c.add_outside.result (λ added. added
    ∙ ap (λ (o : Option Function). members_view before ++ called_member (defined_or o (undefined name.token.lexeme.now)) (name_view name) ∷ []) (sym seen))
    c.add_outside.ensures
