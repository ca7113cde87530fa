use Rattle.std.proofs.Common.{length, map, reverse, ◌≡◌}
use Rattle.just_parser.specs.View.{item_view}
use Rattle.just_analyzer.specs.Analysis.{allowed_by, with_items}
use Rattle.just_analyzer.specs.View.{allowed_view, analysis_view}
use Rattle.just_analyzer.proofs.analyzing.grow.Given as goal

-- the items that are left, the last first, give the rest
abbrev pub invariant-loop-item : goal.invariant-loop-item
invariant-loop-item l =
    with_items (allowed_view l.allowed) (analysis_view l.analysis) (map item_view (reverse l.items.items))
    ≡ with_items (allowed_by (map item_view l.fn.items.items)) (analysis_view l.fn.analysis) (map item_view l.fn.items.items)

abbrev pub decreases-loop-item : goal.decreases-loop-item
decreases-loop-item l = length l.items.items
