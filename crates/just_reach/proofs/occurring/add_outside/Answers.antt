use Rattle.std.proofs.Common.{◌∙◌, ◌++◌, ◌∷◌, [], ap, sym}
use Rattle.std.proofs.lemmas.List.{map-append}
use Rattle.std.proofs.lemmas.Result.{on_ok_weaker}
use Rattle.just_meaning.proofs.Callees.{built_in_is}
use Rattle.just_meaning.specs.Callee.{Callee}
use Rattle.just_reach.specs.Prelude.{called_member, member_view, members_view, name_view}
use Rattle.just_reach.proofs.occurring.add_outside.Goals as goal

pub returns-in-Some : goal.returns-in-Some
returns-in-Some c =
    let name = c.args.name.now in
    let before = c.args.all.now.items in
    on_ok_weaker c.push.result (λ pushed. ap members_view pushed ∙ map-append member_view before _
    ∙ ap (λ (k : Callee). members_view before ++ called_member k (name_view name) ∷ []) (sym (built_in_is name.token.lexeme.now c.in-Some.function (cc))))
    c.push.ensures.ok
