use Rattle.std.proofs.Common.{arith, inl, inr, refl, sym}
use Rattle.just_expression_parser.proofs.Actions.{no_token, not_here, not_operator}
use Rattle.just_expression_parser.specs.Parsed.{left}
use Rattle.just_expression_parser.proofs.machine.Machine.operator.Goals as goal
use Rattle.just_expression_parser.proofs.machine.Machine.operator.Goals.{then-level-least-via-then-level-least}
use Rattle.just_expression_parser.proofs.machine.Machine.operator.Goals.{then-level-least-via-else-level-least+then-below-level}

-- an operator of a level outside
pub returns-then-level-least-clause-none : goal.returns-then-level-least-clause-none
returns-then-level-least-clause-none c = (
  refl,
  refl,
  λ e frames. elim c.then-level-least.branch [
    | then-level-least-via-then-level-least w ↦
        not_here c.args.least c.args.below (left c.args.self.now) _ c.in-Some-operator_at.operator e frames c.in-Some.ensures
        (sym c.in-Some-operator_at.ensures)
        (inl (omega (arith, w.if-level-least.true, c.level.ensures)))
    | then-level-least-via-else-level-least+then-below-level w ↦
        not_here c.args.least c.args.below (left c.args.self.now) _ c.in-Some-operator_at.operator e frames c.in-Some.ensures
        (sym c.in-Some-operator_at.ensures)
        (inr (omega (arith, w.if-below-level.true, w.level-else-level-least.ensures)))
  ],
)

-- no operator
pub returns-in-None-operator_at-clause-none : goal.returns-in-None-operator_at-clause-none
returns-in-None-operator_at-clause-none c = (
  refl,
  refl,
  λ e frames.
      not_operator c.args.least c.args.below (left c.args.self.now) _ e frames c.in-Some.ensures (sym c.in-None-operator_at.ensures),
)

-- the end
pub returns-in-None-clause-none : goal.returns-in-None-clause-none
returns-in-None-clause-none c = (refl, refl, λ e frames. no_token c.args.least c.args.below (left c.args.self.now) e frames c.in-None.ensures)
