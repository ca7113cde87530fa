use Rattle.std.proofs.Common.{map, ◌-◌}
use Rattle.just_syntax.specs.View.{fragment_view}
use Rattle.just_parser.proofs.Repeated.{RepeatsAlike}
use Rattle.just_parser.specs.Parsed.{unread}
use Rattle.just_parser.specs.Recipes.{is_after_fragments, line_fragment}
use Rattle.just_parser.proofs.parser.Parser.each_fragment.Given as goal

-- what is left gives the rest
abbrev pub invariant-loop : goal.invariant-loop
invariant-loop l =
    RepeatsAlike is_after_fragments line_fragment (map fragment_view l.into.items) (map fragment_view l.fn.into.items) (l.end - l.counter) (unread l.self)
    (unread l.fn.self)
