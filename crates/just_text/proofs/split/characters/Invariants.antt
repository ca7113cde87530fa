use Rattle.std.proofs.Common.{◌≡◌, map, encode_utf8}
use Rattle.just_text.proofs.split.characters.Given as goal

abbrev pub invariant-loop-c : goal.invariant-loop-c
invariant-loop-c l = l.all.items ≡ map encode_utf8 l.yielded
