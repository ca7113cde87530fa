use Rattle.std.proofs.Common.{ap, ◌∙◌}
use Rattle.just_syntax.specs.Plain as plain
use Rattle.just_syntax.specs.Plain.{Exprs}
use Rattle.just_syntax.specs.View.{name_view, token_view}
use Rattle.just_expression_parser.proofs.Steps.{rows}
use Rattle.just_expression_parser.proofs.frame.Elements.with.Goals as goal

pub returns-in-Call : goal.returns-in-Call
returns-in-Call c = rw c.in-Call.is (c.call.ensures ∙ ap (λ (es : Exprs). plain.Call (name_view c.in-Call.name) es) (rows c.args.elements.items))

pub returns-in-List : goal.returns-in-List
returns-in-List c = rw c.in-List.is (c.list.ensures ∙ ap (λ (es : Exprs). plain.ListOf es (token_view c.in-List.token)) (rows c.args.elements.items))
