use Rattle.std.proofs.Common.{ap, map, sym, ◌∙◌}
use Rattle.std.proofs.lemmas.Result.{on_ok_weaker}
use Rattle.just_syntax.proofs.Maps.{seen_with}
use Rattle.just_syntax.specs.View.{set_view}
use Rattle.just_analyzer.proofs.Parts.{set_added}
use Rattle.just_analyzer.specs.View.{analysis_view}
use Rattle.just_analyzer.proofs.analysis.Analysis.add_set.Goals as goal

pub returns-clause-ok : goal.returns-clause-ok
returns-clause-ok c =
    on_ok_weaker c.inserted.result (λ inserted. set_added (analysis_view c.args.self.now) (set_view c.args.set) (map set_view c.inserted.new.table)
    (sym c.has_set.ensures ∙ c.if-has_set.false)
    (ap (map set_view) inserted ∙ seen_with set_view (λ t. t.name.lexeme) c.args.self.now.sets c.args.set)) c.inserted.ensures.ok
