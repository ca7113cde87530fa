use Rattle.just_case_reader.specs.Line as lines
use Rattle.just_case_reader.specs.Prelude.{reading_view, with_stack}
use Rattle.just_case_reader.proofs.Stacks.{done_with}
use Rattle.just_case_reader.proofs.builder.Builder.command.Goals as goal

pub returns : goal.returns
returns c =
    let old = reading_view c.args.self.now in
    done_with (with_stack (lines.Command c.args.text.now c.args.lexeme.now) old) c.command.result _ _ (c.command.ensures old.names)
