use Rattle.just_analyzer.specs.View.{alias_view}
use Rattle.just_analyzer.proofs.Parts.{has_seen}
use Rattle.just_analyzer.proofs.analysis.Analysis.has_alias.Goals as goal

pub returns : goal.returns
returns c =
    has_seen alias_view (λ x. x.name.lexeme) c.args.name.token.lexeme.now c.args.self.now.aliases c.has.result (rw c.lexeme.ensures at c.has.ensures)
