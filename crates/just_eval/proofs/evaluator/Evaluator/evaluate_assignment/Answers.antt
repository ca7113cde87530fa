use Rattle.std.proofs.Common.{◌∙◌, ap}
use Rattle.just_eval.specs.Prelude.{IsBound, WasBound, bound_innermost, frames_view, innermost}
use Rattle.just_eval.proofs.Assigned.{assigned_cut, assigned_exit, assigned_none}
use Rattle.just_eval.proofs.There.{none_there, some_there}
use Rattle.just_eval.proofs.evaluator.Evaluator.evaluate_assignment.Goals as goal

pub returns-then-is_bound-clause-assigned : goal.returns-then-is_bound-clause-assigned
returns-then-is_bound-clause-assigned g c =
    let s = some_there (innermost c.args.assignment.now.number (frames_view c.args.self.now.scope)) cc in
    WasBound s.0 s.1

pub returns-in_err-value-clause-assigned : goal.returns-in_err-value-clause-assigned
returns-in_err-value-clause-assigned g c =
    assigned_exit _ _ _ c.from_residual.ensures.1 (assigned_none _ (none_there (innermost c.args.assignment.now.number (frames_view c.args.self.now.scope)) cc)
    c.in_err-value.ensures)

pub returns-in_err-bind-clause-assigned : goal.returns-in_err-bind-clause-assigned
returns-in_err-bind-clause-assigned g c =
    assigned_exit _ _ _ c.from_residual-in_err-bind.ensures.1
    (assigned_cut _ (none_there (innermost c.args.assignment.now.number (frames_view c.args.self.now.scope)) cc) c.in_ok-value.ensures)

pub returns-clause-assigned : goal.returns-clause-assigned
returns-clause-assigned g c =
    let made = c.in_ok-bind.ensures.ok ∙ ap (bound_innermost (frames_view c.args.self.now.scope)) c.binding_of-binding.ensures in
    rw made (IsBound _ (none_there (innermost c.args.assignment.now.number (frames_view c.args.self.now.scope)) cc) c.in_ok-value.ensures)
