use Rattle.std.proofs.Common.{◌||◌, IsTrue, drop}
use Rattle.just_resolution.specs.Prelude.{is_number_in, is_readable, occurrences_view}
use Rattle.just_resolution.proofs.Faults.{LeadsUnreadable}
use Rattle.just_resolution.proofs.admitted.first_unreadable_occurrence.Given as goal

-- what is found at the remaining occurrences is found at all
abbrev pub invariant-loop-occurrence : goal.invariant-loop-occurrence
invariant-loop-occurrence l =
    LeadsUnreadable (λ n. IsTrue (is_number_in l.own n || is_readable l.readable n)) (occurrences_view (drop l.occurrence-index l.occurrences))
    (occurrences_view l.occurrences)
