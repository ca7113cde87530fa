use Rattle.std.proofs.Common.{[], arith, refl, sym, ◌∷◌}
use Rattle.just_syntax.specs.Plain as plain
use Rattle.just_syntax.specs.View.{token_view, view}
use Rattle.just_expression_parser.proofs.Runs.{frame_completes}
use Rattle.just_expression_parser.proofs.Steps.{made_on, state_on}
use Rattle.just_expression_parser.specs.Machine as machine
use Rattle.just_expression_parser.specs.Operator.{operation}
use Rattle.just_expression_parser.specs.Parsed.{goes, left, waiting}
use Rattle.just_expression_parser.proofs.machine.Machine.resume.Goals as goal

pub returns-in-ElseIf : goal.returns-in-ElseIf
returns-in-ElseIf c =
    let old = c.args.self.now in
    let frame = machine.ElseIf (view c.in-ElseIf.condition) (view c.in-ElseIf.consequence) in
    let e = plain.Conditional (view c.in-ElseIf.condition) (view c.in-ElseIf.consequence) (view c.args.value) in
    rw c.in-ElseIf.is (state_on c.conditional.result old (goes old (machine.Done (view c.args.value)) (frame ∷ [])) e c.conditional.ensures.ok
    c.conditional.ensures.refused (sym (frame_completes (left old) frame (waiting old) (view c.args.value) e (λ t. refl) refl)) (omega arith))

pub returns-in-Not : goal.returns-in-Not
returns-in-Not c =
    let old = c.args.self.now in
    let e = plain.Not (view c.args.value) in
    rw c.in-Not.is (made_on c.not.result c.allocated.result c.done.result old (goes old (machine.Done (view c.args.value)) (machine.Not ∷ [])) e
    c.not.ensures c.allocated.ensures.ok c.allocated.ensures.refused c.done.ensures.ok c.done.ensures.refused
    (sym (frame_completes (left old) machine.Not (waiting old) (view c.args.value) e (λ t. refl) refl)) (omega arith))

pub returns-in-Root : goal.returns-in-Root
returns-in-Root c =
    let old = c.args.self.now in
    let frame = machine.Root (token_view c.in-Root.operator) in
    let e = plain.JoinOnly (token_view c.in-Root.operator) (view c.args.value) in
    rw c.in-Root.is (made_on c.join.result c.allocated-in-Root.result c.done-in-Root.result old
    (goes old (machine.Done (view c.args.value)) (frame ∷ [])) e c.join.ensures c.allocated-in-Root.ensures.ok c.allocated-in-Root.ensures.refused
    c.done-in-Root.ensures.ok c.done-in-Root.ensures.refused
    (sym (frame_completes (left old) frame (waiting old) (view c.args.value) e (λ t. refl) refl)) (omega arith))

pub returns-in-Side : goal.returns-in-Side
returns-in-Side c =
    let old = c.args.self.now in
    let frame = machine.Side (view c.in-Side.lhs) c.in-Side.operator (token_view c.in-Side.token) in
    let e = operation (view c.in-Side.lhs) c.in-Side.operator (token_view c.in-Side.token) (view c.args.value) in
    rw c.in-Side.is (made_on c.applied.result c.allocated-in-Side.result c.done-in-Side.result old
    (goes old (machine.Done (view c.args.value)) (frame ∷ [])) e c.applied.ensures c.allocated-in-Side.ensures.ok c.allocated-in-Side.ensures.refused
    c.done-in-Side.ensures.ok c.done-in-Side.ensures.refused
    (sym (frame_completes (left old) frame (waiting old) (view c.args.value) e (λ t. refl) refl)) (omega arith))
