use Rattle.std.proofs.Common.{◌++◌, drop, map}
use Rattle.just_eval.specs.Prelude.{Gave, Outcome, Text, UnlessStopped, and_then, const_value, elements, expression_interpreter_view, interpreter, name_view}
use Rattle.just_eval.specs.Prelude.{stage_state_of, view}
use Rattle.just_syntax.specs.Plain.{Interpreter}
use Rattle.just_meaning.specs.Settings.{command_of}
use Rattle.just_eval.proofs.evaluator.Evaluator.evaluate_interpreter.Given as goal

-- the elements so far and those of the rest are those of all
abbrev pub invariant-loop-argument : goal.invariant-loop-argument
invariant-loop-argument l =
    let evaluates = const_value (stage_state_of l.self) in
    (o : Outcome (Interpreter Text))
    → UnlessStopped o (and_then (and_then (elements evaluates (map view (drop l.argument-index l.interpreter.arguments.items))) (λ w. Gave (l.all ++ w)))
    (command_of (name_view l.setting)))
    → UnlessStopped o (interpreter evaluates (name_view l.setting) (expression_interpreter_view l.interpreter))
