use Rattle.just_syntax.specs.View.{assignment_view}
use Rattle.just_analyzer.proofs.Parts.{has_seen}
use Rattle.just_analyzer.proofs.analysis.Analysis.has_variable.Goals as goal

pub returns : goal.returns
returns c =
    has_seen assignment_view (λ x. x.name.lexeme) c.args.name.token.lexeme.now c.args.self.now.justfile.assignments c.has.result
    (rw c.lexeme.ensures at c.has.ensures)
