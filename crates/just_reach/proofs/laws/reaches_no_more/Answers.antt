use Rattle.just_reach.proofs.Law.{reaches_no_more}
use Rattle.just_reach.proofs.laws.reaches_no_more.Goals as goal

pub returns : goal.returns
returns c = reaches_no_more
