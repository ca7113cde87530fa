use Rattle.just_value.proofs.PositionalLaws.{keeps_words}
use Rattle.just_value.proofs.laws.positional_keeps_words.Goals as goal

pub returns : goal.returns
returns c = keeps_words
