use Rattle.std.proofs.Common.{ap, ◌∙◌}
use Rattle.std.specs.Path.{path_extension}
use Rattle.just_text.proofs.Names.{extension_is}
use Rattle.just_text.proofs.path.extension.Goals as goal

pub returns : goal.returns
returns c = c.extension.ensures ∙ (ap path_extension c.new.ensures ∙ extension_is c.args.path.now)
