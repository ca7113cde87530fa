use Rattle.std.proofs.Common.{◌≡◌, ◌++◌, take}
use Rattle.just_resolution.specs.Prelude.{called_names, occurrences_view, texts}
use Rattle.just_resolution.proofs.admitted.add_names.Given as goal

-- the names so far were added
abbrev pub invariant-loop-occurrence : goal.invariant-loop-occurrence
invariant-loop-occurrence l = texts l.names.items ≡ texts l.fn.names.items ++ called_names (occurrences_view (take l.occurrence-index l.occurrences))
