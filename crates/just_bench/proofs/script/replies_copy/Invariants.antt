use Rattle.std.proofs.Common.{◌≡◌, take, map}
use Rattle.just_bench.specs.Prelude.{command_reply_view}
use Rattle.just_bench.proofs.script.replies_copy.Given as goal

abbrev pub invariant-loop-reply : goal.invariant-loop-reply
invariant-loop-reply l = map command_reply_view l.copies.items ≡ map command_reply_view (take l.reply-index l.replies)
