use Rattle.just_builtins.specs.Prelude.{BinaryPlus}
use Rattle.just_builtins.proofs.Unnamed.{unnamed}
use Rattle.just_builtins.proofs.binary.binary_plus.Goals as goal

pub returns-in_default : goal.returns-in_default
returns-in_default c =
    λ context. unnamed (BinaryPlus c.args.builtin)
    ((λ e. c.in_default.not-Join (cc)), tt)
