use Rattle.std.proofs.Common.{length, map, reverse, ◌++◌, ◌≡◌}
use Rattle.just_syntax.specs.View.{attributes_view}
use Rattle.just_parser.specs.Attributes.{args_of, recipe_attributes}
use Rattle.just_parser.specs.View.{arg_view, written_view}
use Rattle.just_parser.proofs.recipe.keep_attributes.Given as goal

-- the attributes that are left, the last first, give the rest
abbrev pub invariant-loop-attribute : goal.invariant-loop-attribute
invariant-loop-attribute l =
    (map arg_view l.args.items ++ args_of (map written_view (reverse l.attributes.items))
    ≡ map arg_view l.fn.args.items ++ args_of (map written_view l.fn.attributes.items))
    × (attributes_view l.kept ++ recipe_attributes (map written_view (reverse l.attributes.items))
    ≡ attributes_view l.fn.kept ++ recipe_attributes (map written_view l.fn.attributes.items))

abbrev pub decreases-loop-attribute : goal.decreases-loop-attribute
decreases-loop-attribute l = length l.attributes.items
