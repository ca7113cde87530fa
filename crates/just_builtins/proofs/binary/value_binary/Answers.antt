use Rattle.std.proofs.Common.{[], ◌∷◌}
use Rattle.just_builtins.specs.Prelude.{ValueBinary, function_context_view}
use Rattle.just_builtins.specs.declared.builtin.Builtin.TheVariants.{EnvVarOrDefault}
use Rattle.just_builtins.proofs.Calls.{of_builtin, internal}
use Rattle.just_builtins.proofs.Unnamed.{unnamed}
use Rattle.just_builtins.proofs.binary.value_binary.Goals as goal

pub returns-in-EnvVarOrDefault : goal.returns-in-EnvVarOrDefault
returns-in-EnvVarOrDefault g c = λ shown. of_builtin (ValueBinary c.args.builtin) _ EnvVarOrDefault (function_context_view c.args.context.now)
    (c.args.value.now ∷ c.args.other.now ∷ []) shown _ c.in-EnvVarOrDefault.is (c.environment.ensures shown)

pub returns-in_default : goal.returns-in_default
returns-in_default g c = λ shown.
    internal (ValueBinary c.args.builtin) shown _ (unnamed (ValueBinary c.args.builtin)
    ((λ e. c.in_default.not-EnvVarOrDefault (cc)), tt))
