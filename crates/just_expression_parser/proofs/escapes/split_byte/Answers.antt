use Rattle.std.proofs.Common.{ap, get_or}
use Rattle.just_expression_parser.proofs.Unescaped.{first_is, first_is_wide}
use Rattle.just_expression_parser.proofs.escapes.split_byte.Goals as goal

pub returns-in_err-first-clause-none : goal.returns-in_err-first-clause-none
returns-in_err-first-clause-none c =
    rw c.from_residual.ensures (λ b rest e. first_is_wide c.args.text.now b rest c.utf8.text
    (λ cut. let some = c.in_err-first.ensures.variant.1 cut in absurd cc) e)

pub returns-clause-some : goal.returns-clause-some
returns-clause-some c =
    let f = c.in_ok-first in
    first_is c.args.text.now f.first.now f.rest.now _ f.ensures.front f.ensures.back f.ensures.front_len (ap (λ t. get_or t 0 0) c.as_bytes.ensures.value)
