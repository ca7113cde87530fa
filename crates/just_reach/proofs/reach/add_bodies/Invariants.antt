use Rattle.std.proofs.Common.{◌+◌, drop, length, map}
use Rattle.just_syntax.specs.NameSet.{is_name_in}
use Rattle.just_reach.specs.Prelude.{function_view, members_view}
use Rattle.just_reach.proofs.Walk.{AreMembersWalked}
use Rattle.just_reach.proofs.Work.{function_names, member_work}
use Rattle.just_reach.proofs.reach.add_bodies.Given as goal

-- the members from the next one on are pending
abbrev pub invariant-loop-next : goal.invariant-loop-next
invariant-loop-next l = AreMembersWalked (map function_view l.functions) (members_view l.fn.all.items) (is_name_in l.called) (members_view l.all.items)
    (members_view (drop l.next l.all.items))

-- what the bodies of the names that are not called yet may add, and the number of pending members
abbrev pub decreases-loop-next : goal.decreases-loop-next
decreases-loop-next l = member_work (map function_view l.functions) (function_names (map function_view l.functions)) (is_name_in l.called)
    + length (members_view (drop l.next l.all.items))
