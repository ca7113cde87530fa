use Rattle.std.proofs.Common.{◌≡◌, false, length, string_bytes, ◌∙◌}
use Rattle.std.specs.Bool.{◌==◌}
use Rattle.just_eval.specs.Prelude.{pairs_view}
use Rattle.just_syntax.proofs.Maps.{pairs_with}
use Rattle.just_eval.proofs.Environment.{set_by}
use Rattle.just_eval.proofs.evaluator.Evaluator.set_variable.Goals as goal

pub returns-in_ok-insert-clause-set : goal.returns-in_ok-insert-clause-set
returns-in_ok-insert-clause-set c =
    let some : (length c.args.value == 0) ≡ false = cc in
    rw c.in_ok-insert.ensures.entries
    (pairs_with c.args.self.now.env.entries c.args.key c.in_ok-join.field-0 ∙ set_by (pairs_view c.args.self.now.env) (string_bytes c.args.key)
    (string_bytes c.in_ok-join.field-0) c.args.value some c.in_ok-join.ensures)
