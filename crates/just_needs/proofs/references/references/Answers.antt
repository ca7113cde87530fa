use Rattle.std.proofs.Common.{◌≡◌, ◌∙◌, List, Some, ap, subst, sym}
use Rattle.std.proofs.lemmas.Result.{IfOk-weaker}
use Rattle.just_needs.specs.Prelude.{Occurrence, VariableOf, occurrences_in, occurrences_view, view}
use Rattle.just_needs.proofs.Members.{IsMentioned, mentioned}
use Rattle.just_needs.proofs.references.references.Goals as goal

pub returns : goal.returns
returns c =
    let e = view c.args.expression.now in
    let seen : occurrences_view c.deref.result.now ≡ occurrences_in e = ap occurrences_view c.deref.ensures.value ∙ c.in_ok-occurrences.ensures in
    IfOk-weaker c.variables_at.result _ _ (λ set exact n.
    let here = mentioned e (VariableOf (Some n)) in (
      (λ h. here.0 (subst (λ (os : List Occurrence). IsMentioned os (VariableOf (Some n))) seen ((exact n).0 h))),
      (λ h. (exact n).1 (subst (λ (os : List Occurrence). IsMentioned os (VariableOf (Some n))) (sym seen) (here.1 h))),
    )) c.variables_at.ensures
