use Rattle.std.proofs.Common.{refl}
use Rattle.just_builtins.specs.Prelude.{Ternary}
use Rattle.just_builtins.proofs.Arguments.{three}
use Rattle.just_builtins.proofs.Calls.{same_call}
use Rattle.just_builtins.proofs.ternary.ternary.Goals as goal

pub returns : goal.returns
returns c = λ context.
    let alike = three c.args.arguments.now _ _ _ c.requires.count c.text_at.ensures c.text_at-from.ensures c.text_at-to.ensures in
    same_call (Ternary c.args.builtin) (Ternary c.args.builtin) context _ _ _ refl alike (c.replaced.ensures context)
