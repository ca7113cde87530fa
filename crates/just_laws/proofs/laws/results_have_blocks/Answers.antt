use Rattle.just_laws.proofs.Results.{results_have_blocks}
use Rattle.just_laws.proofs.laws.results_have_blocks.Goals as goal

pub returns : goal.returns
returns c = results_have_blocks
