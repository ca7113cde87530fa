use Rattle.just_syntax.specs.Prelude.{view}
use Rattle.just_syntax.proofs.Copies.{same_copied}
use Rattle.just_syntax.proofs.expression.copy.ExpressionClone.clone.Goals as goal

pub returns : goal.returns
returns c = record { cases = same_copied (view c.args.self.now) c.with_numbers.result c.with_numbers.ensures (λ e none. none) }
