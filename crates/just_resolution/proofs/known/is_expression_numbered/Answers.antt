use Rattle.std.proofs.Common.{◌≡◌, ◌∙◌, ap, sym}
use Rattle.std.specs.List.{list_all}
use Rattle.std.proofs.lemmas.List.Folds.{list_all-map}
use Rattle.just_resolution.specs.Prelude.{is_numbered, occurrence_view, occurrences_in, view}
use Rattle.just_syntax.specs.declared.occurrence.Occurrence as declared
use Rattle.just_resolution.proofs.Occurrences.{numbered_decided}
use Rattle.just_resolution.proofs.known.is_expression_numbered.Goals as goal

pub returns : goal.returns
returns c =
    let all = numbered_decided (view c.args.expression.now) in
    let same : c.are_numbered.result ≡ list_all is_numbered (occurrences_in (view c.args.expression.now)) =
    c.are_numbered.ensures ∙ ap (list_all (λ (o : declared.Occurrence). is_numbered (occurrence_view o))) c.as_slice.ensures.value
    ∙ sym (list_all-map is_numbered occurrence_view c.refill.new.occurrences.items)
    ∙ ap (list_all is_numbered) c.in_ok-refill.ensures in
    ((λ h. all.0 (sym same ∙ h)), (λ k. same ∙ all.1 k))
