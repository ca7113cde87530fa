use Rattle.std.proofs.Common.{rules}
use Rattle.std.proofs.lemmas.Cmp.{nat_list_cmp_total}
use Rattle.std.proofs.lemmas.List.Sorted.{answers_always}
use Rattle.just_value.proofs.Places.{searched}
use Rattle.just_value.proofs.expression_context.ExpressionContext.place.Goals as goal

-- the closure gives a binding's name, and the slice is the context's bindings
pub returns : goal.returns
returns c =
    let facts = c.binary_search_by_key.ensures in
    let by_key = facts.position (λ b. b.0) (answers_always _ _ _ (λ f a r g called. search rules)) in
    rw (← c.deref.ensures.value) (searched (λ b. b.0.now) nat_list_cmp_total _ (rw c.deref.ensures.value c.args.self.now.rising) c.args.name.now _
    facts.bound by_key)
