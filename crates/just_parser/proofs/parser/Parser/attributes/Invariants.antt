use Rattle.std.proofs.Common.{map, ◌-◌}
use Rattle.just_parser.specs.View.{written_view}
use Rattle.just_parser.proofs.Repeated.{RepeatsAlike}
use Rattle.just_parser.specs.Parsed.{unread}
use Rattle.just_parser.specs.Attributes.{attribute_line, is_after_attributes}
use Rattle.just_parser.proofs.parser.Parser.attributes.Given as goal

-- what is left gives the rest
abbrev pub invariant-loop : goal.invariant-loop
invariant-loop l =
    RepeatsAlike is_after_attributes attribute_line (map written_view l.into.items) (map written_view l.fn.into.items) (l.end - l.counter) (unread l.self)
    (unread l.fn.self)
