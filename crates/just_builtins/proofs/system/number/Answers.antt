use Rattle.just_host.specs.Question.{NumberOf}
use Rattle.just_builtins.specs.Prelude.{number_answered}
use Rattle.just_builtins.proofs.Calls.{asked}
use Rattle.just_builtins.proofs.system.number.Goals as goal

pub returns : goal.returns
returns g c = λ shown. asked shown (NumberOf c.args.question) number_answered _ _ c.number-answer.ensures c.number_answered.ensures
