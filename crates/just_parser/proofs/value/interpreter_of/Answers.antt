use Rattle.std.proofs.Common.{ap, sym, ◌∙◌}
use Rattle.just_syntax.proofs.Rows.{view_list}
use Rattle.just_syntax.specs.View.{token_view, view}
use Rattle.just_syntax.specs.declared.expression.Expression.{Expression}
use Rattle.just_parser.proofs.Values.{interpreter_found}
use Rattle.just_parser.specs.Settings.{interpreter_of}
use Rattle.just_parser.proofs.value.interpreter_of.Goals as goal

pub returns-in-List : goal.returns-in-List
returns-in-List c =
    let found = c.first_and_rest.ensures in
    interpreter_found c.in-List.elements.items (token_view c.in-List.token) c.first_and_rest.result found.some found.none
    ∙ ap interpreter_of (sym (view_list c.in-List.elements c.in-List.token)) ∙ ap (λ (e : Expression). interpreter_of (view e)) (sym c.in-List.is)
