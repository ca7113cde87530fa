use Rattle.std.proofs.Common.{drop, map}
use Rattle.just_eval.specs.Prelude.{IsConst, Outcome, StageState, Staged, at_start, constants_of, frames_view, name_view, stage_state_of}
use Rattle.just_eval.proofs.evaluator.Evaluator.evaluate_const_assignments.Given as goal

-- the result of the names that are left, from here, is the result of all from the start
abbrev pub invariant-loop-name : goal.invariant-loop-name
invariant-loop-name l =
    let m = constants_of l.assignments l.evaluation_order l.overrides l.variable_references in
    record {
      before : IsConst l.evaluator;
      rest : (o : Outcome StageState) → Staged m (stage_state_of l.evaluator) (map name_view (drop l.name-index l.evaluation_order)) o
          → Staged m (at_start l.lists (frames_view l.scope)) (map name_view l.evaluation_order) o;
    }
