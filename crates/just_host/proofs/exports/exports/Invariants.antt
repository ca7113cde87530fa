use Rattle.std.proofs.Common.{◌≡◌, ◌++◌, map, take, string_bytes}
use Rattle.just_host.specs.Prelude.{Removes, change_view}
use Rattle.just_host.proofs.exports.exports.Given as goal

-- the original changes are followed by the removals of the names so far
abbrev pub invariant-loop-name : goal.invariant-loop-name
invariant-loop-name l =
    map change_view l.changes.items ≡ map change_view l.initial.changes.items ++ map Removes (map string_bytes (take l.name-index l.unexports))
