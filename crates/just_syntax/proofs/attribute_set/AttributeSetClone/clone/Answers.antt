use Rattle.std.proofs.Common.{◌≡◌}
use Rattle.just_syntax.specs.Prelude.{attribute_view, named_attribute_view}
use Rattle.just_syntax.proofs.Copies.{views_copied}
use Rattle.just_syntax.proofs.attribute_set.AttributeSetClone.clone.Goals as goal

pub returns : goal.returns
returns c = record {
  cases = views_copied named_attribute_view (λ x y. (attribute_view y.0 ≡ attribute_view x.0) × (y.1 ≡ x.1)) c.args.self.now.attributes.items
      c.in_ok-clone.field-0.items c.in_ok-clone.ensures.cases.0 (λ x y h. let first = h.0 in let second = h.1 in cc);
}
