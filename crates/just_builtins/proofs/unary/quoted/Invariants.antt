use Rattle.std.proofs.Common.{◌≡◌, map, take}
use Rattle.just_builtins.specs.Prelude.{single_quoted}
use Rattle.just_builtins.proofs.unary.quoted.Given as goal

abbrev pub invariant-loop-text : goal.invariant-loop-text
invariant-loop-text l = l.all.items ≡ map single_quoted (take l.text-index l.texts)
