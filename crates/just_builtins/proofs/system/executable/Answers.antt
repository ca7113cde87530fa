use Rattle.std.proofs.Common.{refl}
use Rattle.just_host.specs.Question.{Executable}
use Rattle.just_builtins.specs.Prelude.{Fails, executable_not_unicode, executable_unknown, not_found}
use Rattle.just_builtins.proofs.Calls.{asked_text}
use Rattle.just_builtins.proofs.system.executable.Goals as goal

pub returns : goal.returns
returns g c = λ shown.
    asked_text shown _ Executable (Fails (executable_unknown not_found)) executable_not_unicode executable_unknown _ _ refl c.text-answer.ensures
    c.executable_answered.ensures
