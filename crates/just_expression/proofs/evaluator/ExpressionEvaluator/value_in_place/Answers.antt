use Rattle.std.proofs.Common.{◌≡◌, false, ap}
use Rattle.just_interaction.proofs.Paths.{runs_done, runs_note}
use Rattle.just_expression.specs.Prelude.{context_of, is_non_const, name_view, open_in}
use Rattle.just_meaning.specs.Meaning.{named}
use Rattle.just_expression.proofs.Leaves.{reads}
use Rattle.just_expression.proofs.evaluator.ExpressionEvaluator.value_in_place.Goals as goal

-- the note of the variable is allowed, and its value is that of the frames
pub returns : goal.returns
returns g c =
    let token = name_view c.args.name.now in
    let closed : open_in (context_of c.args.self.now) (is_non_const c.args.self.now) c.in_ok-number.number ≡ false = cc in
    rw c.in_ok-number.was (runs_note (reads (context_of c.args.self.now) (is_non_const c.args.self.now) token c.in_ok-number.number closed)
    (runs_done _ _ (ap (named token) c.in_ok-value.ensures)))
