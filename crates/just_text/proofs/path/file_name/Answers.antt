use Rattle.std.proofs.Common.{ap, ◌∙◌}
use Rattle.std.specs.Path.{path_file_name}
use Rattle.just_text.proofs.Components.{file_name_is}
use Rattle.just_text.proofs.path.file_name.Goals as goal

pub returns : goal.returns
returns c = c.file_name.ensures ∙ (ap path_file_name c.new.ensures ∙ file_name_is c.args.path.now)
