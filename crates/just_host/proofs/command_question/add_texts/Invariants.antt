use Rattle.std.proofs.Common.{◌≡◌, ◌++◌, map, take, string_bytes}
use Rattle.just_host.proofs.command_question.add_texts.Given as goal

-- the words are followed by the texts so far
abbrev pub invariant-loop-text : goal.invariant-loop-text
invariant-loop-text l = map (λ word. word.now) l.words.items ≡ map (λ word. word.now) l.initial.words.items ++ map string_bytes (take l.text-index l.texts)
