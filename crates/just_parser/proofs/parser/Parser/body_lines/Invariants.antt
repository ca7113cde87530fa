use Rattle.std.proofs.Common.{map, ◌-◌}
use Rattle.just_syntax.specs.View.{line_view}
use Rattle.just_lexer.specs.declared.kind.TokenKind.TheVariants as kinds
use Rattle.just_expression_parser.specs.Tokens.{is_at}
use Rattle.just_parser.proofs.Repeated.{RepeatsAlike}
use Rattle.just_parser.specs.Parsed.{unread}
use Rattle.just_parser.specs.Recipes.{recipe_line}
use Rattle.just_parser.proofs.parser.Parser.body_lines.Given as goal

-- what is left gives the rest
abbrev pub invariant-loop : goal.invariant-loop
invariant-loop l =
    RepeatsAlike (is_at 0 kinds.Dedent) recipe_line (map line_view l.into.items) (map line_view l.fn.into.items) (l.end - l.counter) (unread l.self)
    (unread l.fn.self)
