use Rattle.just_case_reader.specs.Line as lines
use Rattle.just_case_reader.specs.Prelude.{reading_view, with_stack}
use Rattle.just_case_reader.proofs.Stacks.{done_with}
use Rattle.just_case_reader.proofs.builder.Builder.read.Goals as goal

pub returns-in-Literal : goal.returns-in-Literal
returns-in-Literal c =
    let old = reading_view c.args.self.now in
    rw (c.in-Literal.is) (done_with (with_stack (lines.Literal c.in-Literal.text.now c.in-Literal.lexeme.now) old) c.literal.result _ _
    (c.literal.ensures old.names))

pub returns-in-Unary : goal.returns-in-Unary
returns-in-Unary c =
    let old = reading_view c.args.self.now in
    rw (c.in-Unary.is) (done_with (with_stack (lines.Unary c.in-Unary.operator) old) c.unary.result _ _ (c.unary.ensures old.names))

pub returns-in-Binary : goal.returns-in-Binary
returns-in-Binary c =
    let old = reading_view c.args.self.now in
    rw (c.in-Binary.is) (done_with (with_stack (lines.Binary c.in-Binary.operator) old) c.binary.result _ _ (c.binary.ensures old.names))

pub returns-in-If : goal.returns-in-If
returns-in-If c =
    let old = reading_view c.args.self.now in
    rw (c.in-If.is) (done_with (with_stack lines.If old) c.conditional.result _ _ (c.conditional.ensures old.names))

pub returns-in-List : goal.returns-in-List
returns-in-List c =
    let old = reading_view c.args.self.now in
    rw (c.in-List.is) (done_with (with_stack (lines.ListOf c.in-List.count) old) c.list.result _ _ (rw (c.from.ensures) at (c.list.ensures old.names)))

pub returns-in-Call : goal.returns-in-Call
returns-in-Call c =
    let old = reading_view c.args.self.now in
    rw (c.in-Call.is) (done_with (with_stack (lines.Call c.in-Call.name.now c.in-Call.count) old) c.call.result _ _
    (rw (c.from-in-Call.ensures) at (c.call.ensures old.names)))

pub returns-in-Assign : goal.returns-in-Assign
returns-in-Assign c = rw (c.in-Assign.is) c.assign.ensures

pub returns-in-Blocks : goal.returns-in-Blocks
returns-in-Blocks c = rw (c.in-Blocks.is) c.blocks-in-Blocks.ensures
