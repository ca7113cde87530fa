use Rattle.std.proofs.Common.{◌∙◌, sym, subst, Some, None}
use Rattle.std.proofs.lemmas.List.{length-map}
use Rattle.std.proofs.lemmas.Result.{err_from_is_err_and}
use Rattle.just_expression.specs.Prelude.{BuiltIn, Defined, EndsBefore, Enters, function_view, name_view, parameter_view, program_view, refusal}
use Rattle.just_expression.proofs.Callees.{builtin_is, callee_is, defined_is}
use Rattle.just_expression.proofs.callee.resolve_callee.Goals as goal

pub returns-in_err-left-in-Some-clause-refused : goal.returns-in_err-left-in-Some-clause-refused
returns-in_err-left-in-Some-clause-refused c =
    let context = c.args.context.now in
    let t = name_view c.args.name.now in
    let e = err_from_is_err_and c.from_residual.result c.from_residual.ensures.1 in
    let is = callee_is context t.lexeme (Some c.in-Some.function.now) c.in-Some.ensures in
    rw (e.1, e.2) (subst (λ x. EndsBefore (program_view context) t x c.args.calls_left c.args.arguments (refusal c.in_err-left-in-Some.field-0.0)) (sym is)
    (c.in_err-left-in-Some.ensures.refused (program_view context)))

pub returns-in_ok-left-in-Some-clause-enters : goal.returns-in_ok-left-in-Some-clause-enters
returns-in_ok-left-in-Some-clause-enters c =
    let context = c.args.context.now in
    let t = name_view c.args.name.now in
    let function = c.in-Some.function.now in
    let left = c.in_ok-left-in-Some.left in
    let is = callee_is context t.lexeme (Some function) c.in-Some.ensures in
    subst (λ x. Enters (program_view context) t x c.args.calls_left c.args.arguments (Defined (function_view function) left)) (sym is)
    (defined_is (program_view context) t (function_view function) _ left _ c.in_ok-left-in-Some.ensures.fewer
    (length-map function.parameters.items parameter_view ∙ c.in_ok-left-in-Some.ensures.count))

pub returns-in_err-built_in-in-None-clause-refused : goal.returns-in_err-built_in-in-None-clause-refused
returns-in_err-built_in-in-None-clause-refused c =
    let context = c.args.context.now in
    let t = name_view c.args.name.now in
    let e = err_from_is_err_and c.from_residual-in_err-built_in-in-None.result c.from_residual-in_err-built_in-in-None.ensures.1 in
    let is = callee_is context t.lexeme None c.in-None.ensures in
    rw (e.1, e.2) (subst (λ x. EndsBefore (program_view context) t x c.args.calls_left c.args.arguments (refusal c.in_err-built_in-in-None.field-0.0)) (sym is)
    (c.in_err-built_in-in-None.ensures.refused (program_view context) c.args.calls_left))

pub returns-in_ok-built_in-in-None-clause-enters : goal.returns-in_ok-built_in-in-None-clause-enters
returns-in_ok-built_in-in-None-clause-enters c =
    let context = c.args.context.now in
    let t = name_view c.args.name.now in
    let function = c.in_ok-built_in-in-None.field-0 in
    let is = callee_is context t.lexeme None c.in-None.ensures in
    subst (λ x. Enters (program_view context) t x c.args.calls_left c.args.arguments (BuiltIn function)) (sym (is ∙ c.in_ok-built_in-in-None.ensures.occurs))
    (builtin_is (program_view context) t function c.args.calls_left c.args.arguments c.in_ok-built_in-in-None.ensures.count)
