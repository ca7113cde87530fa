use Rattle.std.proofs.Common.{Some, option_copied, ap, ◌∙◌}
use Rattle.std.specs.Path.{path_parent}
use Rattle.just_text.proofs.Components.{parent_is}
use Rattle.just_text.proofs.path.parent.Goals as goal

pub returns : goal.returns
returns c = ap Some c.as_str.ensures ∙ (c.in_ok-parent.ensures ∙ (ap path_parent c.new.ensures ∙ parent_is c.args.path.now))

pub returns-in_err-parent : goal.returns-in_err-parent
returns-in_err-parent c = ap option_copied c.from_residual.ensures ∙ (c.in_err-parent.ensures ∙ (ap path_parent c.new.ensures ∙ parent_is c.args.path.now))
