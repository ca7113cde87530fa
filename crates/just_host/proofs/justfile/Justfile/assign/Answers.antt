use Rattle.std.proofs.Common.{◌∙◌, [], ◌∷◌, ap, map, sym}
use Rattle.std.proofs.lemmas.List.{map-append}
use Rattle.std.proofs.lemmas.Result.{on_ok_weaker}
use Rattle.just_syntax.proofs.Maps.{seen_with}
use Rattle.just_syntax.specs.View.{name_view}
use Rattle.just_host.specs.Prelude.{assignment_view, justfile_view}
use Rattle.just_host.proofs.Assigning.{assigned_again, assigned_last, assigns_if}
use Rattle.just_host.proofs.justfile.Justfile.assign.Goals as goal

pub returns-then-is_some-clause-ok : goal.returns-then-is_some-clause-ok
returns-then-is_some-clause-ok c =
    let old = c.args.self.now in
    let a = c.args.assignment in
    let there = assigns_if old.assignments _ c.get.result _ c.get.ensures (sym c.is_some.ensures ∙ c.if-is_some.true) in
    on_ok_weaker c.insert.result (λ inserted. assigned_again (justfile_view old) (assignment_view a) _
    (ap (map assignment_view) inserted ∙ seen_with assignment_view (λ b. b.name.lexeme) old.assignments a) (rw c.lexeme.ensures at there)) c.insert.ensures.ok

pub returns-else-is_err-clause-ok : goal.returns-else-is_err-clause-ok
returns-else-is_err-clause-ok c =
    let old = c.args.self.now in
    let a = c.args.assignment in
    let new = assigns_if old.assignments _ c.get.result _ c.get.ensures (sym c.is_some.ensures ∙ c.if-is_some.false) in
    on_ok_weaker c.insert-inserted.result (λ inserted. assigned_last (justfile_view old) (assignment_view a) _
    (ap (map assignment_view) inserted ∙ seen_with assignment_view (λ b. b.name.lexeme) old.assignments a) _
    (ap (map name_view) c.in_ok-push.ensures.items ∙ map-append name_view old.evaluation_order.items (a.name ∷ []))
    (rw c.lexeme.ensures at new)) c.insert-inserted.ensures.ok
