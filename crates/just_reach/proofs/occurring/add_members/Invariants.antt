use Rattle.std.proofs.Common.{◌≡◌, drop, map}
use Rattle.just_reach.specs.Prelude.{function_view, members_view, occurrences_view, with_members}
use Rattle.just_reach.proofs.occurring.add_members.Given as goal

-- what the rest adds to the members so far is what all add
abbrev pub invariant-loop-occurrence : goal.invariant-loop-occurrence
invariant-loop-occurrence l =
    let known = map function_view l.functions in
    with_members known (members_view l.all.items) (occurrences_view (drop l.occurrence-index l.occurrences))
    ≡ with_members known (members_view l.fn.all.items) (occurrences_view l.occurrences)
