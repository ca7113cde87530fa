use Rattle.std.proofs.Common.{◌≡◌, take, string_bytes, map}
use Rattle.just_host.proofs.recorded.copies.Given as goal

abbrev pub invariant-loop-text : goal.invariant-loop-text
invariant-loop-text l = map string_bytes l.all.items ≡ map string_bytes (take l.text-index l.texts)
