use Rattle.std.proofs.Common.{◌≡◌, ◌↔◌, drop, map}
use Rattle.std.specs.Slice.Iter.{iter_rest}
use Rattle.just_changes.specs.Prelude.{parameter_view}
use Rattle.just_changes.proofs.same_definition.are_parameters_same.Given as goal

-- the rest of both decides
abbrev pub invariant-loop-name : goal.invariant-loop-name
invariant-loop-name l =
    (map parameter_view (drop l.name-index l.some) ≡ map parameter_view (iter_rest l.left)) ↔ (map parameter_view l.some ≡ map parameter_view l.others)
