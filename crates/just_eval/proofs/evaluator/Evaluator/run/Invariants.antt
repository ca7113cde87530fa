use Rattle.std.proofs.Common.{◌≡◌, drop, map, [], ◌∷◌, Some}
use Rattle.just_eval.specs.Prelude.{Behaves, Frames, IsAtStart, Outcome, dynamically, frames_view, freely, module_view, name_view, run, unchecked}
use Rattle.just_eval.proofs.evaluator.Evaluator.run.Given as goal

-- the result of the names that are left, from here, is the result of all from the start
abbrev pub invariant-loop-name : goal.invariant-loop-name
invariant-loop-name g l =
    let m = module_view l.context l.references in
    record {
      here : l.evaluator.context ≡ Some l.context;
      lists : l.evaluator.lists ≡ l.context.module.now.settings.lists;
      start : IsAtStart l.evaluator;
      rest : (o : Outcome Frames) (new : g.row.H.Denot)
          → Behaves freely g.H.Host.step unchecked l.host (run dynamically m (frames_view l.evaluator.scope) (map name_view (drop l.name-index l.names))) o new
          → Behaves freely g.H.Host.step unchecked l.fn.host (run dynamically m ([] ∷ frames_view l.context.scope.now) (map name_view l.names)) o new;
    }
