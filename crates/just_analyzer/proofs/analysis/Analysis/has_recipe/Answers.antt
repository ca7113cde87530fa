use Rattle.just_parser.specs.View.{recipe_definition_view}
use Rattle.just_analyzer.proofs.Parts.{has_seen}
use Rattle.just_analyzer.proofs.analysis.Analysis.has_recipe.Goals as goal

pub returns : goal.returns
returns c =
    has_seen recipe_definition_view (λ x. x.recipe.name.lexeme) c.args.name.token.lexeme.now c.args.self.now.recipes c.has.result
    (rw c.lexeme.ensures at c.has.ensures)
