use Rattle.std.proofs.Common.{◌≡◌, map, drop}
use Rattle.just_builtins.specs.Prelude.{entry_view, find_in}
use Rattle.just_builtins.proofs.name.find_from.Given as goal

-- the entries so far have other names
abbrev pub invariant-loop-other : goal.invariant-loop-other
invariant-loop-other l = find_in (map entry_view l.entries) l.name ≡ find_in (map entry_view (drop l.other-index l.entries)) l.name
