use Rattle.std.proofs.Common.{map, ◌-◌}
use Rattle.just_syntax.specs.View.{parameter_view}
use Rattle.just_lexer.specs.declared.kind.TokenKind.TheVariants as kinds
use Rattle.just_expression_parser.specs.Tokens.{is_at}
use Rattle.just_parser.proofs.Repeated.{RepeatsAlike}
use Rattle.just_parser.specs.Parsed.{unread}
use Rattle.just_parser.specs.Items.{function_parameter}
use Rattle.just_parser.proofs.parser.Parser.parameters.Given as goal

-- what is left gives the rest
abbrev pub invariant-loop : goal.invariant-loop
invariant-loop l =
    RepeatsAlike (is_at 0 kinds.ParenR) function_parameter (map parameter_view l.into.items) (map parameter_view l.fn.into.items) (l.end - l.counter)
    (unread l.self)
    (unread l.fn.self)
