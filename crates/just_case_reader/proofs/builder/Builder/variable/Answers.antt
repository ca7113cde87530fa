use Rattle.just_case_reader.specs.Line as lines
use Rattle.just_case_reader.specs.Prelude.{reading_view, with_stack}
use Rattle.just_case_reader.proofs.Stacks.{done_with}
use Rattle.just_case_reader.proofs.builder.Builder.variable.Goals as goal

pub returns : goal.returns
returns c =
    let old = reading_view c.args.self.now in
    rw (c.in_ok-number.ensures.ok) (done_with (with_stack (lines.Variable c.args.name.now) old) c.variable.result _ _
    (c.variable.ensures old.names c.in_ok-number.ensures.number))
