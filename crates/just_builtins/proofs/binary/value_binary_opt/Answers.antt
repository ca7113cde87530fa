use Rattle.std.proofs.Common.{subst, ◌∷◌}
use Rattle.just_builtins.specs.Prelude.{Asked, ValueBinaryOpt, asks_environment, function_context_view, values_given}
use Rattle.just_builtins.specs.declared.builtin.Builtin.TheVariants.{Env}
use Rattle.just_builtins.proofs.Arguments.{given_second}
use Rattle.just_builtins.proofs.Calls.{of_builtin, internal}
use Rattle.just_builtins.proofs.Unnamed.{unnamed}
use Rattle.just_builtins.proofs.binary.value_binary_opt.Goals as goal

pub returns-in-Env : goal.returns-in-Env
returns-in-Env g c = λ shown.
    let context = function_context_view c.args.context.now in
    of_builtin (ValueBinaryOpt c.args.builtin) _ Env context (c.args.value.now ∷ values_given c.args.other) shown _ c.in-Env.is
    (subst (λ default. Asked g.H.Host.step c.args.host.now shown (asks_environment context c.args.value.now default) c.environment.result
    c.environment.new.host) (given_second c.args.value.now c.args.other) (c.environment.ensures shown))

pub returns-in_default : goal.returns-in_default
returns-in_default g c = λ shown.
    internal (ValueBinaryOpt c.args.builtin) shown _ (unnamed (ValueBinaryOpt c.args.builtin)
    ((λ e. c.in_default.not-Env (cc)), tt))
