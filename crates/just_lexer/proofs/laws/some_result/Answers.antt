use Rattle.just_lexer.proofs.Results.{some_result}
use Rattle.just_lexer.proofs.laws.some_result.Goals as goal

pub returns : goal.returns
returns c = some_result
