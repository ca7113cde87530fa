use Rattle.just_lexer.proofs.Results.{one_result}
use Rattle.just_lexer.proofs.laws.one_result.Goals as goal

pub returns : goal.returns
returns c = one_result
