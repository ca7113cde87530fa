use Rattle.just_builtins.specs.Prelude.{ValueNullary}
use Rattle.just_builtins.proofs.Unnamed.{unnamed}
use Rattle.just_builtins.proofs.nullary.value_nullary.Goals as goal

pub returns-in_default : goal.returns-in_default
returns-in_default c =
    unnamed (ValueNullary c.args.builtin)
    ((λ e. c.in_default.not-IsDependency (cc)), ((λ e. c.in_default.not-NumJobs (cc)), tt))
