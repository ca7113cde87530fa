use Rattle.std.proofs.Common.{ap, false, map, refl, sym, ◌∙◌, ◌≡◌}
use Rattle.std.specs.Prelude.{not, ◌&&◌}
use Rattle.std.proofs.lemmas.Result.{on_ok_weaker}
use Rattle.just_syntax.proofs.Maps.{seen_with}
use Rattle.just_syntax.proofs.Successes.{on_ok}
use Rattle.just_syntax.specs.Keyed.{with_value}
use Rattle.just_syntax.specs.View.{name_view}
use Rattle.just_parser.specs.View.{recipe_definition_view}
use Rattle.just_analyzer.proofs.Parts.{recipe_added, recipe_goes}
use Rattle.just_analyzer.specs.Analysis.{has_recipe}
use Rattle.just_analyzer.specs.View.{analysis_view}
use Rattle.just_analyzer.proofs.analysis.Analysis.add_recipe.Goals as goal
use Rattle.just_analyzer.proofs.analysis.Analysis.add_recipe.Goals.{else-not-allowed, then-not-allowed}

pub returns-in-Ok-clause-ok : goal.returns-in-Ok-clause-ok
returns-in-Ok-clause-ok c =
    let old = analysis_view c.args.self.now in
    let name = name_view c.args.recipe.recipe.name in
    let free : (not c.args.allowed.recipes && has_recipe old name) ≡ false =
    elim c.if-not-allowed.branch [
      | then-not-allowed w ↦ rw w.if-not-allowed.true (sym w.has_recipe.ensures ∙ sym w.value-is ∙ c.if-has_recipe.false)
      | else-not-allowed w ↦ rw w.if-not-allowed.false refl
    ] in
    let goes = recipe_goes c.args.allowed.recipes old (recipe_definition_view c.args.recipe) (sym c.has_alias.ensures ∙ c.if-has_alias.false) free in
    let fits = on_ok c.configure-configured.result c.in-Ok.ensures.ok.1 c.configure-configured.ensures.ok in
    let made = recipe_definition_view c.configure-configured.new.recipe in
    on_ok_weaker c.inserted.result (λ inserted. recipe_added old (recipe_definition_view c.args.recipe) made
    (map recipe_definition_view c.inserted.new.table) _ goes fits
    (ap (map recipe_definition_view) inserted
    ∙ seen_with recipe_definition_view (λ other. other.recipe.name.lexeme) c.args.self.now.recipes c.in-Ok.recipe
    ∙ ap (λ r. with_value (λ other. other.recipe.name.lexeme) old.recipes (recipe_definition_view r)) c.in-Ok.ensures.ok.0))
    c.inserted.ensures.ok
