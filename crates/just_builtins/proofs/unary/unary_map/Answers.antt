use Rattle.just_builtins.specs.Prelude.{UnaryMap}
use Rattle.just_builtins.proofs.Unnamed.{unnamed}
use Rattle.just_builtins.proofs.unary.unary_map.Goals as goal

pub returns-in_default : goal.returns-in_default
returns-in_default c =
    λ context. unnamed (UnaryMap c.args.builtin)
    ((λ e. c.in_default.not-Quote (cc)), tt)
