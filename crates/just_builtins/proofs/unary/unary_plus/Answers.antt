use Rattle.just_builtins.specs.Prelude.{UnaryPlus, frames_view, function_context_view}
use Rattle.just_builtins.specs.declared.builtin.Builtin.TheVariants.{Shell}
use Rattle.just_builtins.proofs.Calls.{of_builtin, internal}
use Rattle.just_builtins.proofs.Unnamed.{unnamed}
use Rattle.just_builtins.proofs.unary.unary_plus.Goals as goal

pub returns-in-Shell : goal.returns-in-Shell
returns-in-Shell g c = of_builtin (UnaryPlus c.args.builtin) _ Shell (function_context_view c.args.context.now) c.args.arguments.now
    (frames_view c.args.context.now.scope.now) _ c.in-Shell.is c.shell.ensures

pub returns-in_default : goal.returns-in_default
returns-in_default g c =
    internal (UnaryPlus c.args.builtin) (frames_view c.args.context.now.scope.now) _ (unnamed (UnaryPlus c.args.builtin)
    ((λ e. c.in_default.not-Shell (cc)), tt))
