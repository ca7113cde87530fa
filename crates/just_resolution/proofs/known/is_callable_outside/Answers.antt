use Rattle.std.proofs.Common.{◌≡◌, ◌∙◌, ap, sym, nat_le, arith}
use Rattle.std.proofs.lemmas.Bool.Decides.{nat_tests}
use Rattle.just_resolution.specs.Prelude.{accepts}
use Rattle.just_meaning.specs.Callee.{BuiltIn}
use Rattle.just_meaning.proofs.Callees.{built_in_is}
use Rattle.just_resolution.proofs.known.is_callable_outside.Goals as goal

pub returns-then-start-arguments : goal.returns-then-start-arguments
returns-then-start-arguments c =
    let f = c.in-Some.function in
    let n = c.args.arguments in
    let fits : nat_le n c.end.result.now ≡ accepts (BuiltIn f) n = grind (arith, nat_tests) in
    fits ∙ sym (ap (λ x. accepts x n) (built_in_is c.args.name.now f (cc)))

pub returns-else-start-arguments : goal.returns-else-start-arguments
returns-else-start-arguments c =
    let f = c.in-Some.function in
    let n = c.args.arguments in
    let fits : nat_le c.start.result.now n ≡ accepts (BuiltIn f) n = grind (arith, nat_tests) in
    fits ∙ sym (ap (λ x. accepts x n) (built_in_is c.args.name.now f (cc)))
