use Rattle.just_builtins.specs.Prelude.{Binary}
use Rattle.just_builtins.proofs.Unnamed.{unnamed}
use Rattle.just_builtins.proofs.binary.trimmed.Goals as goal

pub returns-in_default : goal.returns-in_default
returns-in_default c =
    λ context. unnamed (Binary c.args.builtin) (
      (λ e. c.in_default.not-TrimEndMatch (cc)),
      ((λ e. c.in_default.not-TrimEndMatches (cc)), ((λ e. c.in_default.not-TrimStartMatch (cc)), ((λ e. c.in_default.not-TrimStartMatches (cc)), tt))),
    )
