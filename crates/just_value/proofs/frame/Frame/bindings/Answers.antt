use Rattle.std.proofs.Common.{[], ap, arith, length, map, subst, sym, ◌≡◌, ◌∙◌}
use Rattle.std.proofs.lemmas.List.{nil_from_length}
use Rattle.just_value.specs.Left.{bindings_in}
use Rattle.just_value.specs.Placed.{elements_at}
use Rattle.just_value.specs.Prelude.{AreRising, bound_view}
use Rattle.just_value.proofs.Framed.{rising_seen, values_seen}
use Rattle.just_value.proofs.Placed.{all_placed, elements_in_order, no_more_elements, rising_in_order, within}
use Rattle.just_value.proofs.frame.Frame.bindings.Goals as goal
use Rattle.just_value.proofs.frame.Frame.bindings.Goals.{else-is_empty, then-is_empty}

-- what is left is the frame
left_is : (c : goal.After-deref-2) → bindings_in c.deref-2.result.now c.if-is_empty.left ≡ c.args.self.now
left_is c = elim c.if-is_empty.branch [
  | then-is_empty w ↦
      let none = nil_from_length c.self.inside.places.entries (c.is_empty.ensures.0 w.if-is_empty.true) in
      rw (w.left-is, ← c.self.view_is, none) (w.iter.ensures.rest ∙ w.deref.ensures.value)
  | else-is_empty w ↦
      let some : c.self.inside.places.entries ≡ [] → ⊥ = λ none. let all = c.is_empty.ensures.1 (ap length none) in absurd (cc) in
      rw (w.left-is, ← c.self.view_is, c.deref-2.ensures.value) (ap (elements_at c.self.inside.bindings.items) w.values.ensures.rest
      ∙ sym (elements_in_order c.self.inside.bindings.items c.self.inside.places.entries some))
]

pub invariant_of-result : goal.invariant_of-result
invariant_of-result c = elim c.if-is_empty.branch [
  | then-is_empty w ↦ rw w.left-is tt
  | else-is_empty w ↦
      let some : c.self.inside.places.entries ≡ [] → ⊥ = λ none. let all = c.is_empty.ensures.1 (ap length none) in absurd (cc) in
      let placed = all_placed c.self.inside.bindings.items c.self.inside.places.entries some c.self.invariant in
      rw (w.left-is, w.values.ensures.rest, c.deref-2.ensures.value) (within c.self.inside.bindings.items c.self.inside.places.entries placed.1)
]

pub returns-clause-once : goal.returns-clause-once
returns-clause-once c = ap (map bound_view) (left_is c) ∙ values_seen c.args.self.now

pub returns-clause-rising : goal.returns-clause-rising
returns-clause-rising c =
    let rising = rising_in_order c.self.inside.bindings.items c.self.inside.places.entries c.self.invariant in
    rw (left_is c) (rising_seen c.args.self.now (subst AreRising c.self.view_is rising))

pub returns-clause-count : goal.returns-clause-count
returns-clause-count c = elim c.if-is_empty.branch [
  | then-is_empty w ↦ rw w.left-is (omega (arith, w.iter.ensures.bound, w.iter.ensures.len))
  | else-is_empty w ↦
      rw w.left-is (omega (arith, w.values.ensures.fits, w.values.ensures.len, no_more_elements c.deref-2.result.now w.values.result))
]
