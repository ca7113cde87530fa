use Rattle.std.proofs.Common.{ap, map, sym, ◌∙◌}
use Rattle.std.proofs.lemmas.Result.{on_ok_weaker}
use Rattle.just_syntax.proofs.Maps.{seen_with}
use Rattle.just_analyzer.proofs.Parts.{alias_added}
use Rattle.just_analyzer.specs.View.{alias_view, analysis_view}
use Rattle.just_analyzer.proofs.analysis.Analysis.add_alias.Goals as goal

pub returns-clause-ok : goal.returns-clause-ok
returns-clause-ok c =
    on_ok_weaker c.inserted.result (λ inserted. alias_added (analysis_view c.args.self.now) (alias_view c.args.alias) (map alias_view c.inserted.new.table)
    (sym c.has_alias.ensures ∙ c.if-has_alias.false) (sym c.has_recipe.ensures ∙ c.if-has_recipe.false)
    (ap (map alias_view) inserted ∙ seen_with alias_view (λ other. other.name.lexeme) c.args.self.now.aliases c.args.alias)) c.inserted.ensures.ok
