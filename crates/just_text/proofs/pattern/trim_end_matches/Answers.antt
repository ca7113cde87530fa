use Rattle.just_text.proofs.Ends.{ends_trimmed}
use Rattle.just_text.proofs.pattern.trim_end_matches.Goals as goal

pub returns : goal.returns
returns c = ends_trimmed c.args.pattern.now c.args.text.now _ c.trim_end_matches.ensures.matches
