use Rattle.just_parser.proofs.Seen.{any_seen}
use Rattle.just_parser.specs.Attributes.{is_private}
use Rattle.just_parser.specs.Items.{item_of}
use Rattle.just_parser.specs.View.{written_view}
use Rattle.just_parser.proofs.parser.Parser.item_of.Goals as goal

pub returns-in-Assignment : goal.returns-in-Assignment
unfolding item_of
returns-in-Assignment c =
    let private = any_seen is_private written_view c.args.attributes.now.items in
    rw (c.in-Assignment.is, private) (rw (c.are_private-private.ensures, c.deref.ensures.value) at c.assigned.ensures)

pub returns-in-Eager : goal.returns-in-Eager
unfolding item_of
returns-in-Eager c =
    let private = any_seen is_private written_view c.args.attributes.now.items in
    rw (c.in-Eager.is, private) (rw (c.are_private-private.ensures, c.deref.ensures.value) at c.assigned_after_keyword.ensures)

pub returns-in-Export : goal.returns-in-Export
unfolding item_of
returns-in-Export c =
    let private = any_seen is_private written_view c.args.attributes.now.items in
    rw (c.in-Export.is, private) (rw (c.are_private-private.ensures, c.deref.ensures.value) at c.assigned_after_keyword-in-Export.ensures)
