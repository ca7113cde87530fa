use Rattle.std.proofs.Common.{[], ◌∷◌}
use Rattle.just_builtins.specs.Prelude.{ValueUnary, function_context_view, unasked_value_unary}
use Rattle.just_builtins.specs.declared.builtin.Builtin.TheVariants.{EnvVar}
use Rattle.just_builtins.proofs.Calls.{of_builtin, unasked_among}
use Rattle.just_builtins.proofs.Unnamed.{unnamed}
use Rattle.just_builtins.proofs.unary.value_unary.Goals as goal

pub returns-in-EnvVar : goal.returns-in-EnvVar
returns-in-EnvVar g c = λ shown. of_builtin (ValueUnary c.args.builtin) _ EnvVar (function_context_view c.args.context.now) (c.args.value.now ∷ []) shown _
    c.in-EnvVar.is (c.environment.ensures shown)

pub returns-in_default : goal.returns-in_default
returns-in_default g c = λ shown.
    unasked_among (ValueUnary c.args.builtin) unasked_value_unary c.args.builtin shown _ _ c.value_unary_unasked.ensures
    (λ none. unnamed (ValueUnary c.args.builtin)
    ((λ e. none.0 (cc)), ((λ e. c.in_default.not-EnvVar (cc)), ((λ e. none.1.0 (cc)), ((λ e. none.1.1.0 (cc)), tt)))))
