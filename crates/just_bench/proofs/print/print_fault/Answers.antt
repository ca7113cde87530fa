use Rattle.std.proofs.Common.{◌++◌, codes, ap, ◌∙◌, string_bytes}
use Rattle.just_bench.specs.Prelude.{quoted}
use Rattle.just_bench.proofs.Added.{between}
use Rattle.just_bench.proofs.print.print_fault.Goals as goal

pub returns : goal.returns
returns c =
    let bytes = rw (c.lexeme-function.ensures) at c.in_ok-writeln.ensures.bytes in
    bytes ∙ ap (λ t. string_bytes c.args.text.now ++ (codes "refused 5 FunctionCall " ++ t))
    (between c.args.function.now.token.lexeme.now (quoted c.args.message.now))
