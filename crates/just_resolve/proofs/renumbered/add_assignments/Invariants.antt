use Rattle.std.proofs.Common.{◌≡◌, map, take}
use Rattle.just_resolve.specs.Prelude.{assignment_view, declared_view, name_number, with_number}
use Rattle.just_resolve.proofs.renumbered.add_assignments.Given as goal

-- copies of the assignments so far
abbrev pub invariant-loop-one : goal.invariant-loop-one
invariant-loop-one l = map assignment_view l.made ≡ map (with_number (name_number l.names)) (map declared_view (take l.one-index l.declared))
