use Rattle.std.proofs.Common.{◌≡◌, ◌++◌, map}
use Rattle.std.specs.Slice.Iter.{iter_rest}
use Rattle.just_resolution.specs.Prelude.{attribute_expressions, attributes_view, expressions_view}
use Rattle.just_syntax.specs.View.{named_attribute_view}
use Rattle.just_resolution.proofs.expressions.attribute_expressions.Given as goal

-- the expressions so far and the remaining ones are all
abbrev pub invariant-loop-attribute : goal.invariant-loop-attribute
invariant-loop-attribute l = expressions_view l.all.items ++ attribute_expressions (map named_attribute_view (iter_rest l.attribute-iterator))
    ≡ attribute_expressions (attributes_view l.attributes)
