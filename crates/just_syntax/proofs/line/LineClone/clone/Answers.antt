use Rattle.std.proofs.Common.{◌≡◌}
use Rattle.just_syntax.specs.Prelude.{fragment_view}
use Rattle.just_syntax.proofs.Copies.{views_copied}
use Rattle.just_syntax.proofs.line.LineClone.clone.Goals as goal

pub returns : goal.returns
returns c = record {
  cases = views_copied fragment_view (λ x y. fragment_view y ≡ fragment_view x) c.args.self.now.fragments.items c.in_ok-clone.field-0.items
      c.in_ok-clone.ensures.cases.0 (λ x y h. h);
}
