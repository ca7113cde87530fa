use Rattle.std.proofs.Common.{length, ◌≡◌, ◌+◌}
use Rattle.just_lexer.specs.Span.{span}
use Rattle.just_lexer.proofs.span.span.Given as goal

-- the bytes so far, and those that are passed from here
abbrev pub invariant-loop-rest : goal.invariant-loop-rest
invariant-loop-rest l = record {
  same : l.count + span l.rule 0 l.rest ≡ span l.rule 0 l.text;
  all : l.count + length l.rest ≡ length l.text;
}

abbrev pub decreases-loop-rest : goal.decreases-loop-rest
decreases-loop-rest l = length l.rest
