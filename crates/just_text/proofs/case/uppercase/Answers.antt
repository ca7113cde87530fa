use Rattle.std.proofs.Common.{Some, ap}
use Rattle.just_text.proofs.Ascii.{all_ascii}
use Rattle.just_text.proofs.case.uppercase.Goals as goal

pub returns : goal.returns
returns c = rw (all_ascii c.args.text.now c.if-not-is_ascii.ensures.cases) (ap Some c.in_ok-to_ascii_uppercase.ensures.ok)
