use Rattle.std.proofs.Common.{[], ◌-◌}
use Rattle.just_lexer.specs.declared.kind.TokenKind.TheVariants as kinds
use Rattle.just_expression_parser.specs.Tokens.{is_at}
use Rattle.just_parser.proofs.Repeated.{RepeatsAlike}
use Rattle.just_parser.specs.Parsed.{unread}
use Rattle.just_parser.specs.Attributes.{ignored_element}
use Rattle.just_parser.proofs.parser.Parser.each_ignored.Given as goal

-- what is left gives nothing
abbrev pub invariant-loop : goal.invariant-loop
invariant-loop l = RepeatsAlike (is_at 0 kinds.ParenR) ignored_element [] [] (l.end - l.counter) (unread l.self) (unread l.fn.self)
