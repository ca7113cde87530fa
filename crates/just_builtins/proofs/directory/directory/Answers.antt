use Rattle.std.proofs.Common.{refl, sym}
use Rattle.just_host.specs.Printed.{directory_word}
use Rattle.just_host.specs.Question.{Directory}
use Rattle.just_builtins.specs.Prelude.{Fails, directory_not_unicode, directory_unreadable, no_directory}
use Rattle.just_builtins.proofs.Calls.{asked_text}
use Rattle.just_builtins.proofs.directory.directory.Goals as goal

pub returns : goal.returns
returns g c = λ shown.
    let word = directory_word c.args.kind in
    asked_text shown _ (Directory c.args.kind) (Fails (no_directory word)) (directory_not_unicode word) (directory_unreadable word) _ _ refl
    c.text-answer.ensures (rw (sym c.word.ensures) c.directory_answered.ensures)
