use Rattle.std.proofs.Common.{refl}
use Rattle.just_builtins.specs.Prelude.{Fails, text_question_view, unanswered}
use Rattle.just_builtins.proofs.Calls.{asked_text}
use Rattle.just_builtins.proofs.system.system.Goals as goal

pub returns : goal.returns
returns g c = λ shown.
    let none = unanswered c.args.name.now in
    asked_text shown _ (text_question_view c.args.question) (Fails none) (λ text. none) (λ text. none) _ _ refl c.text-answer.ensures c.system_answered.ensures
