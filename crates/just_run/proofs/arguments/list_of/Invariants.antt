use Rattle.std.proofs.Common.{◌≡◌, map, take}
use Rattle.just_run.proofs.arguments.list_of.Given as goal

abbrev pub invariant-loop-word : goal.invariant-loop-word
invariant-loop-word g l = l.list ≡ map g.T.AsStr.text (take l.word-index l.words)
