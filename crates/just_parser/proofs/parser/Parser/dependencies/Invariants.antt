use Rattle.std.proofs.Common.{map, ◌-◌}
use Rattle.just_parser.specs.View.{dependency_view}
use Rattle.just_parser.proofs.Repeated.{RepeatsAlike}
use Rattle.just_parser.specs.Parsed.{unread}
use Rattle.just_parser.specs.Recipes.{dependency, is_after_dependencies}
use Rattle.just_parser.proofs.parser.Parser.dependencies.Given as goal

-- what is left gives the rest
abbrev pub invariant-loop : goal.invariant-loop
invariant-loop l =
    RepeatsAlike is_after_dependencies dependency (map dependency_view l.into.items) (map dependency_view l.fn.into.items) (l.end - l.counter) (unread l.self)
    (unread l.fn.self)
