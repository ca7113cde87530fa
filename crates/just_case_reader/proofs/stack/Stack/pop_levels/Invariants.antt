use Rattle.std.proofs.Common.{◌≡◌}
use Rattle.just_case_reader.proofs.stack.Stack.pop_levels.Given as goal

abbrev pub invariant-loop : goal.invariant-loop
invariant-loop l = l.self.expressions ≡ l.fn.self.expressions
