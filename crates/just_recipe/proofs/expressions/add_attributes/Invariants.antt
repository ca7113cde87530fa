use Rattle.std.proofs.Common.{◌≡◌, ◌++◌, map}
use Rattle.std.specs.Slice.Iter.{iter_rest}
use Rattle.just_meaning.specs.Here.{attribute_expressions}
use Rattle.just_syntax.specs.View.{attributes_view, named_attribute_view}
use Rattle.just_recipe.specs.Expressions.{part_view}
use Rattle.just_recipe.proofs.expressions.add_attributes.Given as goal

-- the expressions so far, and then those of the attributes that are left
abbrev pub invariant-loop-attribute : goal.invariant-loop-attribute
invariant-loop-attribute l =
    map part_view l.parts.items ++ attribute_expressions (map named_attribute_view (iter_rest l.attribute-iterator))
    ≡ map part_view l.initial.parts.items ++ attribute_expressions (attributes_view l.recipe.attributes)
