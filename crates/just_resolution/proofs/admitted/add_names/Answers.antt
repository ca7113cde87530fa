use Rattle.std.proofs.Common.{◌∙◌, ◌++◌, List, ap, sym, take}
use Rattle.std.proofs.lemmas.List.{flat_map_more}
use Rattle.just_resolution.specs.Prelude.{Occurrence, Text, called_names, name_called, occurrence_view, occurrences_view, texts}
use Rattle.just_resolution.proofs.Sets.{taken_more}
use Rattle.just_resolution.proofs.admitted.add_names.Goals as goal

pub loop-occurrence-preserved : goal.loop-occurrence-preserved
loop-occurrence-preserved c =
    let occurrences = c.args.occurrences.now in
    let i = c.loop-occurrence.occurrence-index in
    let item = c.occurrence-item.result in
    let before = texts c.args.names.now.items in
    c.in_ok-add_name.ensures
    ∙ ap (λ (names : List Text). names ++ name_called (occurrence_view item)) c.loop-occurrence.invariant
    ∙ flat_map_more name_called before (occurrences_view (take i occurrences)) (occurrence_view item)
    ∙ ap (λ (os : List Occurrence). before ++ called_names os)
    (sym (taken_more occurrence_view occurrences i item c.loop-occurrence-test.true c.occurrence-item.is))
