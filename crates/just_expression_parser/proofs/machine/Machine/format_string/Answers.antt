use Rattle.std.proofs.Common.{ap, map, sym, arith}
use Rattle.just_syntax.specs.View.{literal_view, piece_view, token_view}
use Rattle.just_expression_parser.proofs.Steps.{goes_on}
use Rattle.just_expression_parser.proofs.Values.{format_here, format_refused}
use Rattle.just_expression_parser.specs.Parsed.{left, style_view, waiting}
use Rattle.just_expression_parser.proofs.machine.Machine.format_string.Goals as goal

pub returns-in-Ok : goal.returns-in-Ok
returns-in-Ok c =
    let old = c.args.self.now in
    goes_on _ _ c.wait.result c.wait.new.self (sym (format_here (token_view c.args.token) (left old) (waiting old) (literal_view c.in-Ok.start)
    (map piece_view c.new.result.items) (style_view c.of_format.result) c.in-Ok.ensures.ok (ap (map piece_view) c.new.ensures.items) c.of_format.ensures))
    (omega arith) c.wait.ensures

pub returns-in-Err : goal.returns-in-Err
returns-in-Err c =
    let old = c.args.self.now in
    (tt, format_refused (token_view c.args.token) (left old) (waiting old) c.in-Err.refusal c.in-Err.ensures.refused)
