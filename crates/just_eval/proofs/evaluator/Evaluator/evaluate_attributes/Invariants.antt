use Rattle.std.proofs.Common.{map}
use Rattle.std.specs.Slice.Iter.{iter_rest}
use Rattle.just_eval.specs.Prelude.{named_attribute_view}
use Rattle.just_syntax.specs.View.{attributes_view}
use Rattle.just_eval.proofs.Attributes.{AttributesLeft}
use Rattle.just_eval.proofs.evaluator.Evaluator.evaluate_attributes.Given as goal

-- the attributes that are left, and the variables so far
abbrev pub invariant-loop-attribute : goal.invariant-loop-attribute
invariant-loop-attribute g l = AttributesLeft g.H.Host.step l.fn.host l.fn.self (attributes_view l.recipe.attributes) l.self
    (map named_attribute_view (iter_rest l.attribute-iterator)) l.host
