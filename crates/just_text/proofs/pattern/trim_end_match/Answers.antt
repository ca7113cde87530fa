use Rattle.std.proofs.Common.{refl, ap, ◌∙◌}
use Rattle.just_text.proofs.Ends.{end_stripped}
use Rattle.just_text.proofs.pattern.trim_end_match.Goals as goal

pub returns : goal.returns
returns c = ap (λ text. text.now) c.unwrap_or.ensures ∙ end_stripped c.args.pattern.now c.args.text.now _ c.args.text refl c.strip_suffix.ensures.cases
