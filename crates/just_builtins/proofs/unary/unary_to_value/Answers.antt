use Rattle.std.proofs.Common.{[], ◌∷◌}
use Rattle.just_builtins.specs.Prelude.{UnaryToValue, function_context_view}
use Rattle.just_builtins.specs.declared.builtin.Builtin.TheVariants.{PathExists, Which}
use Rattle.just_builtins.proofs.Calls.{of_builtin, internal}
use Rattle.just_builtins.proofs.Unnamed.{unnamed}
use Rattle.just_builtins.proofs.unary.unary_to_value.Goals as goal

pub returns-in-PathExists : goal.returns-in-PathExists
returns-in-PathExists g c = λ shown. of_builtin (UnaryToValue c.args.builtin) _ PathExists (function_context_view c.args.context.now)
    ((c.args.text.now ∷ []) ∷ []) shown _ c.in-PathExists.is (c.path_exists.ensures shown)

pub returns-in-Which : goal.returns-in-Which
returns-in-Which g c = λ shown. of_builtin (UnaryToValue c.args.builtin) _ Which (function_context_view c.args.context.now) ((c.args.text.now ∷ []) ∷ []) shown
    _ c.in-Which.is (c.which.ensures shown)

pub returns-in_default : goal.returns-in_default
returns-in_default g c = λ shown.
    internal (UnaryToValue c.args.builtin) shown _ (unnamed (UnaryToValue c.args.builtin)
    ((λ e. c.in_default.not-PathExists (cc)), ((λ e. c.in_default.not-Which (cc)), tt)))
