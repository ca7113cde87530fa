use Rattle.std.proofs.Common.{List, ◌++◌, drop, map}
use Rattle.just_eval.specs.Prelude.{IsConst, Refusal, StageState, Survey, Token, at_start, constants_of, frames_view, name_view, refused_view}
use Rattle.just_eval.specs.Prelude.{stage_state_of}
use Rattle.just_eval.proofs.evaluator.Evaluator.survey_const_assignments.Given as goal

-- what is found for the names that are left, from here, is found after the refusals so far
abbrev pub invariant-loop-name : goal.invariant-loop-name
invariant-loop-name l =
    let m = constants_of l.assignments l.evaluation_order l.overrides l.variable_references in
    record {
      before : IsConst l.evaluator;
      rest : (rs : List (Token × Refusal)) (end : StageState)
          → Survey m (stage_state_of l.evaluator) (map name_view (drop l.name-index l.evaluation_order)) rs end
          → Survey m (at_start l.lists (frames_view l.scope)) (map name_view l.evaluation_order) (refused_view l.refused.items ++ rs) end;
    }
