use Rattle.just_builtins.specs.Prelude.{BinaryStrValue}
use Rattle.just_builtins.proofs.Unnamed.{unnamed}
use Rattle.just_builtins.proofs.binary.extended.Goals as goal

pub returns-in_default : goal.returns-in_default
returns-in_default c =
    unnamed (BinaryStrValue c.args.builtin)
    ((λ e. c.in_default.not-Append (cc)), ((λ e. c.in_default.not-Prepend (cc)), tt))
