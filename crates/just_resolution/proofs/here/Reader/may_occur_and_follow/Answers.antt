use Rattle.std.proofs.Common.{◌≡◌, ◌↔◌, true, IsTrue, map, subst}
use Rattle.std.proofs.lemmas.Result.{IfOk-weaker}
use Rattle.just_resolution.specs.Prelude.{MayAllOccur, MayFollowInTurn, attribute_expressions, attributes_of, function_view, is_readable, recipe_parameter_view}
use Rattle.just_resolution.proofs.Readers.{alike_back, same_on}
use Rattle.just_resolution.proofs.Resolving.{refuses}
use Rattle.just_resolution.proofs.here.Reader.may_occur_and_follow.Goals as goal

pub returns-then-not-branch : goal.returns-then-not-branch
returns-then-not-branch c = refuses c.in_ok-may_all_occur.field-0 c.if-not-branch.true c.in_ok-may_all_occur.ensures.exact (λ r. r.1)

pub returns-then-not-branch-2 : goal.returns-then-not-branch-2
returns-then-not-branch-2 c =
    let new = c.may_all_occur.new.self in
    refuses c.in_ok-may_all_occur-2.field-0 c.if-not-branch-2.true
    (alike_back (λ fs h b. (c.in_ok-may_all_occur-2.field-0 ≡ true) ↔ MayAllOccur fs h b (attribute_expressions (attributes_of c.args.recipe))) _ new
    c.may_all_occur.ensures.same
    (subst (λ es. (c.in_ok-may_all_occur-2.field-0 ≡ true) ↔ MayAllOccur (map function_view new.functions.now) (is_readable new.here) (is_readable new.bodies)
    es) c.in_ok-attributes.ensures c.in_ok-may_all_occur-2.ensures.exact))
    (λ r. r.0)

pub returns : goal.returns
returns c =
    let new = c.may_all_occur.new.self in
    let first = c.in_ok-may_all_occur.ensures.exact.0 c.if-not-branch.false in
    let second = alike_back (λ fs h b. MayAllOccur fs h b (attribute_expressions (attributes_of c.args.recipe))) _ new c.may_all_occur.ensures.same
    (subst (MayAllOccur (map function_view new.functions.now) (is_readable new.here) (is_readable new.bodies)) c.in_ok-attributes.ensures
    (c.in_ok-may_all_occur-2.ensures.exact.0 c.if-not-branch-2.false)) in
    let same = same_on _ new c.may_all_occur-2.new.self c.may_all_occur.ensures.same c.may_all_occur-2.ensures.same in
    IfOk-weaker c.may_follow.result _ _
    (λ answer follows.
    let third = alike_back (λ fs h b. (answer ≡ true) ↔ MayFollowInTurn fs (λ n. IsTrue (h n)) b (map recipe_parameter_view c.args.parameters.now)) _
    c.may_all_occur-2.new.self same follows in
    ((λ x. (second, first, third.0 x)), (λ r. third.1 r.2)))
    c.may_follow.ensures.exact
