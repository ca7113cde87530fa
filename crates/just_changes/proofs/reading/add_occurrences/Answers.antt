use Rattle.std.proofs.Common.{◌+◌, ◌≡◌, ◌∷◌, ℕ, List, IsTrue, ap, drop, sym, subst}
use Rattle.std.proofs.lemmas.List.{drop_all}
use Rattle.just_changes.specs.Prelude.{AmongOccurrences, Occurrence, is_number_in, occurrence_view, occurrences_view}
use Rattle.just_resolution.proofs.Sets.{front}
use Rattle.just_changes.proofs.Readings.{at_last, left_more, swapped}
use Rattle.just_changes.proofs.reading.add_occurrences.Goals as goal

pub loop-occurrence-init : goal.loop-occurrence-init
loop-occurrence-init c = λ x y. swapped

pub loop-occurrence-preserved : goal.loop-occurrence-preserved
loop-occurrence-preserved c = λ x y.
    let own : ℕ → Type 0 = λ n. IsTrue (is_number_in c.args.own.now n) in
    let occurrences = c.args.occurrences.now in
    let i = c.loop-occurrence.occurrence-index in
    let item = c.occurrence-item.result in
    let left : occurrences_view (drop i occurrences) ≡ occurrence_view item ∷ occurrences_view (drop (i + 1) occurrences) =
    ap occurrences_view (front occurrences i item c.loop-occurrence-test.true c.occurrence-item.is) in
    left_more (c.in_ok-add_occurrence.ensures x y) (λ m. subst (λ (os : List Occurrence). AmongOccurrences own os x) left m)
    (λ h. subst (λ (os : List Occurrence). AmongOccurrences own os x) (sym left) h) (c.loop-occurrence.invariant x y)

pub returns : goal.returns
returns c = λ x y.
    let own : ℕ → Type 0 = λ n. IsTrue (is_number_in c.args.own.now n) in
    let none = drop_all c.loop-occurrence.occurrence-index c.args.occurrences.now c.loop-occurrence-test.false in
    at_last (λ l. subst (λ (os : List Occurrence). AmongOccurrences own os x) (ap occurrences_view none) l.1) (c.loop-occurrence.invariant x y)
