use Rattle.std.proofs.Common.{◌+◌, Some, take}
use Rattle.just_needs.specs.Prelude.{VariableOf, occurrence_view, occurrences_view}
use Rattle.just_resolution.proofs.Sets.{taken_more}
use Rattle.just_needs.proofs.Members.{mention_more}
use Rattle.just_needs.proofs.references.variables_at.Goals as goal

pub loop-occurrence-preserved : goal.loop-occurrence-preserved
loop-occurrence-preserved c = λ n.
    let occurrences = c.args.occurrences.now in
    let i = c.loop-occurrence.occurrence-index in
    let item = c.occurrence-item.result in
    mention_more (VariableOf (Some n)) (occurrences_view (take i occurrences)) (occurrences_view (take (i + 1) occurrences)) (occurrence_view item)
    (taken_more occurrence_view occurrences i item c.loop-occurrence-test.true c.occurrence-item.is) (c.loop-occurrence.invariant n)
    (c.in_ok-add_variable.ensures n)
