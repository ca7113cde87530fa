use Rattle.std.proofs.Common.{refl, arith}
use Rattle.just_builtins.specs.Prelude.{BinaryStrValue, function_context_view}
use Rattle.just_builtins.proofs.Arguments.{read_at, two}
use Rattle.just_builtins.proofs.Calls.{same_call}
use Rattle.just_builtins.proofs.binary.binary_str_value.Goals as goal

pub returns : goal.returns
returns c =
    let there = read_at c.args.arguments.now 1 c.index-arguments-1.result (omega (arith, c.requires.count)) c.index-arguments-1.is in
    let alike = two c.args.arguments.now _ _ c.requires.count c.text_at-text.ensures there in
    same_call (BinaryStrValue c.args.builtin) (BinaryStrValue c.args.builtin) (function_context_view c.args.context.now) _ _ _ refl alike c.extended.ensures
