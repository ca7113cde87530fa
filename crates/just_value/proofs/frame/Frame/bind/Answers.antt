use Rattle.std.proofs.Common.{[], ap, length, ◌≡◌}
use Rattle.std.proofs.lemmas.List.{nil_from_length}
use Rattle.just_value.proofs.Framed.{bound_between, bound_over, rising_between, rising_over}
use Rattle.just_value.proofs.Placed.{in_order_after, in_order_first, none_placed, shows_first}
use Rattle.just_value.proofs.frame.Frame.bind.Goals as goal

-- each number keeps its place
pub invariant_of-self : goal.invariant_of-self
invariant_of-self c =
    let some : c.self.inside.places.entries ≡ [] → ⊥ = λ none. let all = c.is_empty.ensures.1 (ap length none) in absurd (cc) in
    in_order_after c.bind_by_place.result c.self.inside.bindings.items c.self.inside.places.entries _ _ c.args.binding some c.self.invariant
    c.bind_by_place.ensures.ok c.bind_by_place.ensures.err

-- the number's binding is replaced
pub invariant_of-self-in-Ok : goal.invariant_of-self-in-Ok
invariant_of-self-in-Ok c =
    let none = nil_from_length c.self.inside.places.entries (c.is_empty.ensures.0 c.if-not-is_empty.false) in
    let rising = none_placed c.self.inside.bindings.items c.self.inside.places.entries none c.self.invariant in
    rw none (rising_over c.self.inside.bindings.items rising c.args.binding c.in-Ok.at
    (rw c.deref.ensures.value at (c.in-Ok.ensures (rw c.deref.ensures.value rising))))

pub returns-in-Ok-clause-ok : goal.returns-in-Ok-clause-ok
returns-in-Ok-clause-ok c =
    let none = nil_from_length c.self.inside.places.entries (c.is_empty.ensures.0 c.if-not-is_empty.false) in
    let rising = none_placed c.self.inside.bindings.items c.self.inside.places.entries none c.self.invariant in
    rw (← c.self.view_is, none) (bound_over c.self.inside.bindings.items rising c.args.binding c.in-Ok.at
    (rw c.deref.ensures.value at (c.in-Ok.ensures (rw c.deref.ensures.value rising))))

-- the binding is inserted at its place
pub invariant_of-self-then-len-at-le-MOST_MOVED : goal.invariant_of-self-then-len-at-le-MOST_MOVED
invariant_of-self-then-len-at-le-MOST_MOVED c =
    let none = nil_from_length c.self.inside.places.entries (c.is_empty.ensures.0 c.if-not-is_empty.false) in
    let rising = none_placed c.self.inside.bindings.items c.self.inside.places.entries none c.self.invariant in
    rw (none, c.in_ok-insert-in-Err.ensures.items) (rising_between c.self.inside.bindings.items rising c.args.binding c.in-Err.at
    (rw c.deref.ensures.value at (c.in-Err.ensures (rw c.deref.ensures.value rising))))

pub returns-in_ok-insert-in-Err-clause-ok : goal.returns-in_ok-insert-in-Err-clause-ok
returns-in_ok-insert-in-Err-clause-ok c =
    let none = nil_from_length c.self.inside.places.entries (c.is_empty.ensures.0 c.if-not-is_empty.false) in
    let rising = none_placed c.self.inside.bindings.items c.self.inside.places.entries none c.self.invariant in
    rw (← c.self.view_is, none, c.in_ok-insert-in-Err.ensures.items) (bound_between c.self.inside.bindings.items rising c.args.binding c.in-Err.at
    (rw c.deref.ensures.value at (c.in-Err.ensures (rw c.deref.ensures.value rising))))

-- each number gets a place
pub invariant_of-self-in-Err-2 : goal.invariant_of-self-in-Err-2
invariant_of-self-in-Err-2 c =
    let none = nil_from_length c.self.inside.places.entries (c.is_empty.ensures.0 c.if-not-is_empty.false) in
    let rising = none_placed c.self.inside.bindings.items c.self.inside.places.entries none c.self.invariant in
    in_order_first c.bind_first_by_place.result c.self.inside.bindings.items c.self.inside.places.entries _ _ c.args.binding none rising
    c.bind_first_by_place.ensures.ok c.bind_first_by_place.ensures.err

pub returns-in-Err-2-clause-ok : goal.returns-in-Err-2-clause-ok
returns-in-Err-2-clause-ok c =
    let none = nil_from_length c.self.inside.places.entries (c.is_empty.ensures.0 c.if-not-is_empty.false) in
    let rising = none_placed c.self.inside.bindings.items c.self.inside.places.entries none c.self.invariant in
    rw (← c.self.view_is, none) (shows_first c.bind_first_by_place.result c.self.inside.bindings.items c.self.inside.places.entries _ _ c.args.binding none
    rising c.bind_first_by_place.ensures.ok)
