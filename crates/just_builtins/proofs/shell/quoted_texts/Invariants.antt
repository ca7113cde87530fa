use Rattle.std.proofs.Common.{◌≡◌, ◌++◌, drop, map}
use Rattle.just_builtins.specs.Prelude.{first, quoted}
use Rattle.just_builtins.proofs.shell.quoted_texts.Given as goal

abbrev pub invariant-loop-i : goal.invariant-loop-i
invariant-loop-i l = l.texts.items ++ map (λ v. quoted (first v)) (drop l.i l.arguments) ≡ map (λ v. quoted (first v)) l.arguments
