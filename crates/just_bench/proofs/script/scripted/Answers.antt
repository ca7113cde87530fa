use Rattle.std.proofs.Common.{rules}
use Rattle.just_bench.proofs.Replies.{replies_seen}
use Rattle.just_bench.proofs.script.scripted.Goals as goal

pub returns : goal.returns
returns c = rw (replies_seen c.args.replies.items) (search rules)
