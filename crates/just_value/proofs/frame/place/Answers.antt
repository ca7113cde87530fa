use Rattle.std.proofs.Common.{nat_cmp, rules, sym, ◌∙◌}
use Rattle.std.proofs.lemmas.Cmp.{nat_cmp_total}
use Rattle.std.proofs.lemmas.List.Sorted.{answers_always}
use Rattle.just_value.proofs.Framed.{past_last}
use Rattle.just_value.proofs.Places.{rising_by_key, searched}
use Rattle.just_value.proofs.frame.place.Goals as goal

pub returns-in-Some : goal.returns-in-Some
returns-in-Some c rising =
    past_last c.args.bindings.now rising c.args.number c.in-Some.last.now c.in-Some.ensures.item.3.1 (sym c.lt.ensures ∙ c.if-lt.true)

-- the closure gives a binding's number
pub returns-in_default : goal.returns-in_default
returns-in_default c rising =
    let facts = c.binary_search_by_key.ensures in
    let by_key = facts.position (λ b. b.number) (answers_always _ _ _ (λ f a r g called. search rules)) in
    searched (λ b. b.number) nat_cmp_total _ (rising_by_key (λ b. b.number) nat_cmp _ rising) c.args.number _ facts.bound by_key
