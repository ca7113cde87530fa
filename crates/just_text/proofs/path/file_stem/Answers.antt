use Rattle.std.proofs.Common.{ap, ◌∙◌}
use Rattle.std.specs.Path.{path_file_stem}
use Rattle.just_text.proofs.Names.{file_stem_is}
use Rattle.just_text.proofs.path.file_stem.Goals as goal

pub returns : goal.returns
returns c = c.file_stem.ensures ∙ (ap path_file_stem c.new.ensures ∙ file_stem_is c.args.path.now)
