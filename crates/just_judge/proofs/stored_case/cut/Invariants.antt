use Rattle.just_judge.specs.Stored.{UnseparatedTo}
use Rattle.just_judge.proofs.stored_case.cut.Given as goal

-- no separator begins before the loop's offset
abbrev pub invariant-loop-at : goal.invariant-loop-at
invariant-loop-at l = UnseparatedTo l.file l.at
