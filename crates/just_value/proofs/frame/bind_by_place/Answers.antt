use Rattle.std.proofs.Common.{◌++◌, ◌∷◌, [], sym, ◌∙◌}
use Rattle.just_value.proofs.Placed.{got_last, never_past, shows_inserted, shows_more, shows_set}
use Rattle.just_value.proofs.frame.bind_by_place.Goals as goal

-- the number's binding is replaced
pub returns-in-Some-get_mut-clause-ok : goal.returns-in-Some-get_mut-clause-ok
returns-in-Some-get_mut-clause-ok c f shows =
    shows_set f c.args.bindings.now.items c.args.binding c.in-Some.at.now c.args.places.now.entries shows (sym c.in-Some.ensures.value)

-- an index is never past the end
pub returns-in_default-get_mut-clause-ok : goal.returns-in_default-get_mut-clause-ok
returns-in_default-get_mut-clause-ok c f shows =
    absurd (never_past f c.args.bindings.now.items c.args.binding.number c.in-Some.at.now c.args.places.now.entries shows (sym c.in-Some.ensures.value)
    c.in_default-get_mut.ensures.item.3)

-- the binding is added at the end, which is the index of its number
pub returns-clause-ok : goal.returns-clause-ok
returns-clause-ok c f shows =
    let bindings = c.reserve.new.self.items in
    let count = c.len.ensures ∙ c.reserve.new.self.ok.0 in
    rw c.push_reserved.ensures.items (shows_inserted f (bindings ++ c.args.binding ∷ []) c.args.binding c.len.result c.args.places.now.entries
    c.insert.new.self.entries (shows_more f bindings (c.args.binding ∷ []) c.args.places.now.entries (rw c.reserve.ensures.items shows))
    (rw count (got_last bindings c.args.binding)) c.in_ok-insert.ensures.entries c.insert.ensures.ordered)
