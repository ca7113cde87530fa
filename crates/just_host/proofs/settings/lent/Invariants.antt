use Rattle.std.proofs.Common.{◌≡◌, take, string_bytes, map}
use Rattle.just_host.proofs.settings.lent.Given as goal

abbrev pub invariant-loop-text : goal.invariant-loop-text
invariant-loop-text l = map (λ word. word.now) l.words.items ≡ map string_bytes (take l.text-index l.texts)
