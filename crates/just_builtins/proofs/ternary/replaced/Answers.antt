use Rattle.just_builtins.specs.Prelude.{Ternary}
use Rattle.just_builtins.proofs.Unnamed.{unnamed}
use Rattle.just_builtins.proofs.ternary.replaced.Goals as goal

pub returns-in_default : goal.returns-in_default
returns-in_default c =
    λ context. unnamed (Ternary c.args.builtin)
    ((λ e. c.in_default.not-Replace (cc)), tt)
