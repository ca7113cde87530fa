use Rattle.std.proofs.Common.{◌≡◌, sym, subst, false, Some, arith}
use Rattle.std.proofs.lemmas.Bool.Decides.{nat_tests}
use Rattle.just_expression.specs.Prelude.{EndsBefore, accepts, function_named, name_view, refusal}
use Rattle.just_meaning.specs.Callee as meant
use Rattle.just_meaning.proofs.Callees.{built_in_is}
use Rattle.just_expression.proofs.Callees.{unexpected_is}
use Rattle.just_expression.proofs.callee.built_in.Goals.{then-arguments-start-via-then-arguments-start}
use Rattle.just_expression.proofs.callee.built_in.Goals.{then-arguments-start-via-else-arguments-start+then-end-arguments}
use Rattle.just_expression.proofs.callee.built_in.Goals as goal

pub returns-in_default-clause-refused : goal.returns-in_default-clause-refused
returns-in_default-clause-refused c p calls = c.no_function.ensures (cc) p calls c.args.arguments

pub returns-then-arguments-start-clause-refused : goal.returns-then-arguments-start-clause-refused
returns-then-arguments-start-clause-refused c p calls =
    let t = name_view c.args.name.now in
    let f = c.in-Some.function in
    let found : function_named c.args.name.now.token.lexeme.now ≡ Some f = cc in
    let unfit : accepts (meant.BuiltIn f) c.args.arguments ≡ false =
    elim c.then-arguments-start.branch [
      | then-arguments-start-via-then-arguments-start w ↦ grind (arith, nat_tests)
      | then-arguments-start-via-else-arguments-start+then-end-arguments w ↦ grind (arith, nat_tests)
    ] in
    subst (λ x. EndsBefore p t x calls c.args.arguments (refusal c.error_at.result)) (sym (built_in_is c.args.name.now.token.lexeme.now f found))
    (unexpected_is p t f calls c.args.arguments (refusal c.error_at.result) unfit c.error_at.ensures)

pub returns-clause-occurs : goal.returns-clause-occurs
returns-clause-occurs c = built_in_is c.args.name.now.token.lexeme.now c.in-Some.function (cc)
