use Rattle.just_lexer.proofs.Results.{places_count}
use Rattle.just_lexer.proofs.laws.places_count.Goals as goal

pub returns : goal.returns
returns c = places_count
