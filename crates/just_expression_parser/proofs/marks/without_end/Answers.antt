use Rattle.std.proofs.Common.{refl, ap, ◌∙◌}
use Rattle.just_expression_parser.proofs.Stripped.{end_stripped}
use Rattle.just_expression_parser.proofs.marks.without_end.Goals as goal

pub returns : goal.returns
returns c = ap (λ text. text.now) c.unwrap_or.ensures ∙ end_stripped c.args.mark.now c.args.text.now _ c.args.text refl c.strip_suffix.ensures.cases
