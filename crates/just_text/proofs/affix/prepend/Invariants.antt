use Rattle.std.proofs.Common.{◌≡◌, ◌++◌, map, take}
use Rattle.just_text.proofs.affix.prepend.Given as goal

abbrev pub invariant-loop-text : goal.invariant-loop-text
invariant-loop-text l = l.all.items ≡ map (λ text. l.prefix ++ text) (take l.text-index l.texts)
