use Rattle.just_text.proofs.Ends.{starts_trimmed}
use Rattle.just_text.proofs.pattern.trim_start_matches.Goals as goal

pub returns : goal.returns
returns c = starts_trimmed c.args.pattern.now c.args.text.now _ c.trim_start_matches.ensures.matches
