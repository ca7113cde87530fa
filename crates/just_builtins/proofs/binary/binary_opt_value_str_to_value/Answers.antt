use Rattle.just_builtins.specs.Prelude.{BinaryOptValueStrToValue}
use Rattle.just_builtins.proofs.Unnamed.{unnamed}
use Rattle.just_builtins.proofs.binary.binary_opt_value_str_to_value.Goals as goal

pub returns-in_default : goal.returns-in_default
returns-in_default c =
    λ context. unnamed (BinaryOptValueStrToValue c.args.builtin)
    ((λ e. c.in_default.not-JoinList (cc)), tt)
