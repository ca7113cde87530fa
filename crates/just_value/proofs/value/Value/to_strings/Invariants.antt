use Rattle.std.proofs.Common.{◌≡◌, take, string_bytes, map}
use Rattle.just_value.proofs.value.Value.to_strings.Given as goal

abbrev pub invariant-loop-text : goal.invariant-loop-text
invariant-loop-text l = map string_bytes l.strings.items ≡ take l.text-index l.self
