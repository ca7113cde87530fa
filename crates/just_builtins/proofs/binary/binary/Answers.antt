use Rattle.std.proofs.Common.{refl}
use Rattle.just_builtins.specs.Prelude.{Binary}
use Rattle.just_builtins.proofs.Arguments.{two}
use Rattle.just_builtins.proofs.Calls.{same_call}
use Rattle.just_builtins.proofs.binary.binary.Goals as goal

pub returns : goal.returns
returns c = λ context.
    let alike = two c.args.arguments.now _ _ c.requires.count c.text_at.ensures c.text_at-pattern.ensures in
    same_call (Binary c.args.builtin) (Binary c.args.builtin) context _ _ _ refl alike (c.trimmed.ensures context)
