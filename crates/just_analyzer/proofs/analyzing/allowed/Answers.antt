use Rattle.std.proofs.Common.{refl}
use Rattle.just_parser.specs.View.{item_view}
use Rattle.just_parser.proofs.Seen.{any_seen}
use Rattle.just_analyzer.specs.Analysis.{allows_recipes, allows_variables, sets_this}
use Rattle.just_analyzer.proofs.analyzing.allowed.Goals as goal

pub returns : goal.returns
returns c =
    rw (
      c.are_recipes_allowed.ensures,
      c.are_variables_allowed.ensures,
      any_seen (sets_this allows_recipes) item_view c.args.items.now,
      any_seen (sets_this allows_variables) item_view c.args.items.now,
    ) refl
