use Rattle.std.proofs.Common.{arith}
use Rattle.just_builtins.proofs.Arguments.{read_at, second}
use Rattle.just_builtins.proofs.argument.second.Goals as goal

pub returns-then-arguments-gt1 : goal.returns-then-arguments-gt1
returns-then-arguments-gt1 c =
    second c.args.arguments.now _ c.requires.few (omega arith) (read_at c.args.arguments.now 1 c.index-arguments-1.result (omega arith) c.index-arguments-1.is)
