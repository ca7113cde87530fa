use Rattle.std.proofs.Common.{◌≡◌, ◌++◌, drop, map}
use Rattle.just_bench.specs.Prelude.{first_places, is_member, name_view, ordered_view, taken_in, taken_view}
use Rattle.just_bench.specs.Taken.{referenced_names}
use Rattle.just_bench.proofs.taken.taken_variables.Given as goal

-- the variables taken so far, and those taken of the remaining names
abbrev pub invariant-loop-name : goal.invariant-loop-name
invariant-loop-name l =
    let m = ordered_view l.assignments l.order l.references in
    map taken_view l.taken.items ++ first_places (is_member l.seen) (referenced_names m (map name_view (drop l.name-index l.order)))
    ≡ taken_in m (map name_view l.order)
