use Rattle.std.proofs.Common.{is_some, map, sym}
use Rattle.just_resolution.specs.Prelude.{function_view, is_readable, module_fault_view, name_view, view}
use Rattle.just_resolution.proofs.Deciding.{beyond_decided, known_decided, none_answers, none_if, refused}
use Rattle.just_resolution.proofs.here.Reader.may_occur.Goals as goal

pub returns-then-is_some-clause-exact : goal.returns-then-is_some-clause-exact
returns-then-is_some-clause-exact c =
    let functions = map function_view c.args.self.now.functions.now in
    refused (is_some c.in_ok-expression_fault.field-0) c.if-is_some.ensures (known_decided module_fault_view c.in_ok-expression_fault.field-0 functions
    (view c.args.expression.now) c.in_ok-expression_fault.ensures) (λ m. m.0)

pub returns-clause-exact : goal.returns-clause-exact
returns-clause-exact c =
    let functions = map function_view c.args.self.now.functions.now in
    let known = (known_decided module_fault_view c.in_ok-expression_fault.field-0 functions (view c.args.expression.now) c.in_ok-expression_fault.ensures).0
    (sym c.if-is_some.ensures) in
    let within = none_answers (is_some c.in_ok-unreadable.unreadable) c.is_none.result c.is_none.ensures
    (beyond_decided name_view c.in_ok-unreadable.unreadable functions (view c.args.expression.now) (is_readable c.args.self.now.here)
    (is_readable c.args.self.now.bodies) c.in_ok-unreadable.ensures.exact) in
    ((λ h. (known, within.0 h)), (λ m. within.1 m.1))

pub returns-clause-closed : goal.returns-clause-closed
returns-clause-closed c = λ h. c.in_ok-unreadable.ensures.closed (none_if (is_some c.in_ok-unreadable.unreadable) c.is_none.result c.is_none.ensures h)
