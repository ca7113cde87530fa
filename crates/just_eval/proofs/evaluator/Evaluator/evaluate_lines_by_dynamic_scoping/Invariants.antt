use Rattle.just_eval.specs.Prelude.{joined_view}
use Rattle.just_eval.proofs.Commands.{LinesLeft}
use Rattle.just_eval.proofs.evaluator.Evaluator.evaluate_lines_by_dynamic_scoping.Given as goal

-- the lines that are joined so far
abbrev pub invariant-loop-line : goal.invariant-loop-line
invariant-loop-line g l = LinesLeft g.H.Host.step l.self l.fn.host l.lines l.line-index l.host (joined_view l.joined)
