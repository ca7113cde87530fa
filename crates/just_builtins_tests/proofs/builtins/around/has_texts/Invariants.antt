use Rattle.std.proofs.Common.{◌≡◌, ℕ, ◌<◌, true, length}
use Rattle.just_builtins.specs.Argument.{argument_at}
use Rattle.just_builtins.specs.Shape.{is_text}
use Rattle.just_builtins_tests.proofs.builtins.around.has_texts.Given as goal

abbrev pub invariant-loop-i : goal.invariant-loop-i
invariant-loop-i l = (k : ℕ) → k < l.i → is_text l.function k ≡ true → length (argument_at l.arguments k) ≡ 1
