use Rattle.std.proofs.Common.{ap, rules, ◌∙◌}
use Rattle.std.specs.Map.{lookup}
use Rattle.std.proofs.lemmas.Fn.{dedup_same}
use Rattle.std.proofs.lemmas.List.Sorted.{answers_always}
use Rattle.just_value.proofs.Named.{found_once, found_sorted, has_same_name, is_key_named, rising_once}
use Rattle.just_value.proofs.expression_context.ExpressionContext.from_first.Goals as goal

-- the closures give a binding's name
pub invariant_of-result : goal.invariant_of-result
invariant_of-result c =
    let once = dedup_same _ has_same_name _ (λ x y b f x' y' k. search rules) _ _ c.dedup_by_key.ensures.filtered in
    let sorted = c.in_ok-sort_by_key.ensures.sorted (λ b. b.0) (answers_always _ _ _ (λ f a r g called. search rules)) in
    record { rising = rw once (rising_once c.sort_by_key.new.self.items sorted) }

pub returns : goal.returns
returns c = λ q.
    let once = dedup_same _ has_same_name _ (λ x y b f x' y' k. search rules) _ _ c.dedup_by_key.ensures.filtered in
    let stable = c.in_ok-sort_by_key.ensures.stable (λ b. b.0) (answers_always _ _ _ (λ f a r g called. search rules)) in
    ap (lookup (is_key_named q)) once ∙ found_once q c.sort_by_key.new.self.items ∙ found_sorted c.args.bindings.items c.sort_by_key.new.self.items stable q
