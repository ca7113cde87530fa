use Rattle.std.proofs.Common.{◌≡◌, ◌++◌, map}
use Rattle.std.specs.Slice.Iter.{iter_rest}
use Rattle.just_recipe.specs.Numbered.{numbered_attributes}
use Rattle.just_resolve.specs.Prelude.{name_number}
use Rattle.just_syntax.specs.View.{attributes_view, named_attribute_view}
use Rattle.just_recipe.proofs.numbered_recipe.add_attributes.Given as goal

-- the copies so far, and then those of the attributes that are left
abbrev pub invariant-loop-attribute : goal.invariant-loop-attribute
invariant-loop-attribute l =
    attributes_view l.copies ++ numbered_attributes (name_number l.names) (map named_attribute_view (iter_rest l.attribute-iterator))
    ≡ attributes_view l.initial.copies ++ numbered_attributes (name_number l.names) (attributes_view l.recipe.attributes)
