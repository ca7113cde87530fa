use Rattle.std.proofs.Common.{[], ◌≡◌}
use Rattle.just_expression_parser.specs.Machine as machine
use Rattle.just_expression_parser.specs.Parsed.{goes, state_view}
use Rattle.just_expression_parser.proofs.machine.Machine.expression.Given as goal

-- what is left to read has the same result
abbrev pub invariant-loop-state : goal.invariant-loop-state
invariant-loop-state l = (goes l.self (state_view l.state) []).result ≡ (goes l.fn.self (machine.Expression l.fn.level) []).result

abbrev pub decreases-loop-state : goal.decreases-loop-state
decreases-loop-state l = (goes l.self (state_view l.state) []).bound
