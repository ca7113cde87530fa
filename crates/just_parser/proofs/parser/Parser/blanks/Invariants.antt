use Rattle.std.proofs.Common.{[], ◌-◌}
use Rattle.just_parser.proofs.Repeated.{RepeatsAlike}
use Rattle.just_parser.specs.Parsed.{unread}
use Rattle.just_parser.specs.Recipes.{blank, is_after_blanks}
use Rattle.just_parser.proofs.parser.Parser.blanks.Given as goal

-- what is left gives nothing
abbrev pub invariant-loop : goal.invariant-loop
invariant-loop l = RepeatsAlike is_after_blanks blank [] [] (l.end - l.counter) (unread l.self) (unread l.fn.self)
