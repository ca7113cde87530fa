use Rattle.std.proofs.Common.{◌∙◌, ap, sym, Some, None, if◌then◌else◌}
use Rattle.just_bench.specs.Prelude.{assignment_view, is_referenced_in}
use Rattle.just_syntax.proofs.Tables.{found_at}
use Rattle.just_bench.specs.Taken.{number_if_referenced}
use Rattle.just_bench.proofs.taken.number_of.Goals as goal

pub returns-in_default : goal.returns-in_default
returns-in_default c =
    sym (ap (number_if_referenced (is_referenced_in c.args.references)) (found_at assignment_view (λ a. a.name.lexeme) _ _ _ None c.in_default.ensures
    (ap (λ l. l.now) c.lexeme.ensures)))

pub returns-then-not-is_referenced : goal.returns-then-not-is_referenced
returns-then-not-is_referenced c =
    let a = assignment_view c.in-Some.assignment.now in
    sym (ap (number_if_referenced (is_referenced_in c.args.references)) (found_at assignment_view (λ a. a.name.lexeme) _ _ _ (Some c.in-Some.assignment.now)
    c.in-Some.ensures (ap (λ l. l.now) c.lexeme.ensures))
    ∙ ap (λ b. if b then Some a.number else None) (sym c.if-not-is_referenced.ensures))

pub returns : goal.returns
returns c =
    let a = assignment_view c.in-Some.assignment.now in
    sym (ap (number_if_referenced (is_referenced_in c.args.references)) (found_at assignment_view (λ a. a.name.lexeme) _ _ _ (Some c.in-Some.assignment.now)
    c.in-Some.ensures (ap (λ l. l.now) c.lexeme.ensures))
    ∙ ap (λ b. if b then Some a.number else None) (sym c.if-not-is_referenced.ensures))
