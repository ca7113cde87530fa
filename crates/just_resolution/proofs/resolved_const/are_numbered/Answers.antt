use Rattle.std.proofs.Common.{◌≡◌, ◌∙◌, ◌↔◌, ap, false, [], is_some, map, subst, sym}
use Rattle.std.proofs.lemmas.Result.{IfOk-weaker}
use Rattle.just_resolution.specs.Prelude.{AreDistinct, Assignments, assignment_view, module_fault_view, parameter_view}
use Rattle.just_resolution.proofs.Deciding.{distinct_decided, refused}
use Rattle.just_resolution.proofs.Faults.{numbers_alone}
use Rattle.just_resolution.proofs.resolved_const.are_numbered.Goals.{After-is_some}
use Rattle.just_resolution.proofs.resolved_const.are_numbered.Goals as goal

-- whether a number occurs twice decides whether they are distinct
distinct : (c : After-is_some) → (is_some c.in_ok-number_fault.field-0 ≡ false) ↔ AreDistinct (map (λ a. a.number) (map assignment_view c.args.assignments.now))
distinct c =
    let assignments = map assignment_view c.args.assignments.now in
    let all : Assignments = record { all = assignments; order = []; referenced = λ n. false } in
    let decided = distinct_decided module_fault_view c.in_ok-number_fault.field-0 [] all [] (map parameter_view c.deref.result.now)
    (c.in_ok-number_fault.ensures [] all []) in
    let same : map (λ p. p.1) (map parameter_view c.deref.result.now) ≡ map (λ a. a.number) assignments =
    ap (λ ns. map (λ p. p.1) (map parameter_view ns)) c.deref.ensures.value ∙ ap (map (λ p. p.1)) c.in_ok-numbers.ensures ∙ numbers_alone assignments in
    subst (λ ns. (is_some c.in_ok-number_fault.field-0 ≡ false) ↔ AreDistinct ns) same decided

pub returns-then-is_some : goal.returns-then-is_some
returns-then-is_some c =
    refused (is_some c.in_ok-number_fault.field-0) c.if-is_some.ensures (distinct (goal.at.returns-then-is_some c).After-is_some) (λ r. r.0)

pub returns : goal.returns
returns c =
    let apart = (distinct (goal.at.returns c).After-is_some).0 (sym c.if-is_some.ensures) in
    IfOk-weaker c.are_values_numbered.result _ _ (λ answer values. ((λ h. (apart, values.0 h)), (λ r. values.1 r.1))) c.are_values_numbered.ensures
