use Rattle.std.proofs.Common.{◌≡◌, ap, map, ◌∙◌}
use Rattle.just_parser.specs.View.{dependency_view}
use Rattle.just_syntax.proofs.Successes.{on_ok}
use Rattle.just_syntax.specs.View.{name_view}
use Rattle.just_recipe.specs.Numbered.{numbered_dependency}
use Rattle.just_resolve.specs.Prelude.{name_number, numbered_expression, view}
use Rattle.just_recipe.proofs.Copying.{copied_more}
use Rattle.just_recipe.proofs.numbered_recipe.add_dependencies.Goals as goal

pub loop-dependency-preserved : goal.loop-dependency-preserved
loop-dependency-preserved c =
    let names = name_number c.args.names.now in
    let item = c.dependency-item.result in
    let added = on_ok c.add_numbered-added.result c.in_ok-arguments.ensures.ok.1 c.add_numbered-added.ensures in
    let arguments : map view c.in_ok-arguments.arguments.items ≡ map (numbered_expression names) (map view item.arguments.items) =
    rw (c.in_ok-arguments.ensures.ok.0, ← c.deref.ensures.value) (rw c.new-arguments.ensures.items at added) in
    ap (map dependency_view) c.in_ok-push.ensures.ok
    ∙ copied_more dependency_view dependency_view (numbered_dependency names) c.args.dependencies.now c.loop-dependency.dependency-index _ item
    c.args.copies.now.items c.loop-dependency.copies.items _ c.loop-dependency-test.true c.dependency-item.is c.loop-dependency.invariant
    (ap (λ es. record { arguments = es; recipe = name_view item.recipe }) arguments)
