use Rattle.std.proofs.Common.{arith}
use Rattle.just_builtins.proofs.Arguments.{second}
use Rattle.just_builtins.proofs.argument.second_text.Goals as goal

pub returns-then-arguments-gt1 : goal.returns-then-arguments-gt1
returns-then-arguments-gt1 c = second c.args.arguments.now _ c.requires.few (omega arith) c.text_at.ensures
