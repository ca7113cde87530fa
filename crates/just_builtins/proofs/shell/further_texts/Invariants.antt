use Rattle.std.proofs.Common.{◌≡◌, ◌++◌, drop, map, string_bytes}
use Rattle.just_builtins.specs.Prelude.{first}
use Rattle.just_builtins.proofs.shell.further_texts.Given as goal

abbrev pub invariant-loop-i : goal.invariant-loop-i
invariant-loop-i l = map string_bytes l.texts.items ++ map first (drop l.i l.arguments) ≡ map first (drop 1 l.arguments)
