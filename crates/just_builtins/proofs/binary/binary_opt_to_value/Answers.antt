use Rattle.just_builtins.specs.Prelude.{BinaryOptToValue}
use Rattle.just_builtins.proofs.Unnamed.{unnamed}
use Rattle.just_builtins.proofs.binary.binary_opt_to_value.Goals as goal

pub returns-in_default : goal.returns-in_default
returns-in_default c =
    λ context. unnamed (BinaryOptToValue c.args.builtin)
    ((λ e. c.in_default.not-Split (cc)), tt)
