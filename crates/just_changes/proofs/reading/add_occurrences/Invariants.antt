use Rattle.std.proofs.Common.{◌≡◌, ◌↔◌, ◌⊎◌, IsTrue, drop}
use Rattle.just_changes.specs.Prelude.{AmongOccurrences, IsIn, PlainNode, is_number_in, node_view, readers_of, occurrences_view}
use Rattle.just_changes.proofs.reading.add_occurrences.Given as goal

-- what was collected and what remains are all
abbrev pub invariant-loop-occurrence : goal.invariant-loop-occurrence
invariant-loop-occurrence l = (x y : PlainNode)
    → (IsIn (readers_of l.readers x) y
    ⊎ ((node_view l.reader ≡ y) × AmongOccurrences (λ n. IsTrue (is_number_in l.own n)) (occurrences_view (drop l.occurrence-index l.occurrences)) x))
    ↔ (((node_view l.reader ≡ y) × AmongOccurrences (λ n. IsTrue (is_number_in l.own n)) (occurrences_view l.occurrences) x)
    ⊎ IsIn (readers_of l.fn.readers x) y)
