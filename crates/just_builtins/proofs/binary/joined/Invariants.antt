use Rattle.std.proofs.Common.{◌≡◌, [], drop}
use Rattle.std.specs.Path.{path_buf_bytes}
use Rattle.just_builtins.specs.Prelude.{all_joined}
use Rattle.just_builtins.proofs.binary.joined.Given as goal

abbrev pub invariant-loop-i : goal.invariant-loop-i
invariant-loop-i l = all_joined (path_buf_bytes l.path) (drop l.i l.arguments) ≡ all_joined [] l.arguments
