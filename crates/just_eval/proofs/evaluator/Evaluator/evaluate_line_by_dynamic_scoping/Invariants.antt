use Rattle.std.proofs.Common.{string_bytes}
use Rattle.just_eval.proofs.Lines.{LineLeft}
use Rattle.just_eval.proofs.evaluator.Evaluator.evaluate_line_by_dynamic_scoping.Given as goal

-- the text so far
abbrev pub invariant-loop-fragment : goal.invariant-loop-fragment
invariant-loop-fragment g l =
    LineLeft g.H.Host.step l.self l.fn.host l.fn.continued l.line.fragments.items l.continues l.fragment-index l.host (string_bytes l.text)
