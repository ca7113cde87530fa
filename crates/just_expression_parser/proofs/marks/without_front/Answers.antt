use Rattle.std.proofs.Common.{refl, ap, ◌∙◌}
use Rattle.just_expression_parser.proofs.Stripped.{front_stripped}
use Rattle.just_expression_parser.proofs.marks.without_front.Goals as goal

pub returns : goal.returns
returns c = ap (λ text. text.now) c.unwrap_or.ensures ∙ front_stripped c.args.mark.now c.args.text.now _ c.args.text refl c.strip_prefix.ensures.cases
