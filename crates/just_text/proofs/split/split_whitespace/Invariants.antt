use Rattle.std.proofs.Common.{◌≡◌, map}
use Rattle.just_text.proofs.split.split_whitespace.Given as goal

abbrev pub invariant-loop-word : goal.invariant-loop-word
invariant-loop-word l = l.words.items ≡ map (λ word. word.now) l.yielded
