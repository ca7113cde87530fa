-- Constants keep their values in a run, from public laws alone.
use Rattle.std.proofs.Common.{◌≡◌, ◌⊎◌, inl, inr, ℕ, Bool, List, [], ◌∷◌, Option, Some, None, append-nil, refl, sym, subst, ◌∙◌}
use Rattle.just_value.specs.Frames.{Bound, Frames, bound_at, own_frame}
use Rattle.just_value.specs.Outcome.{Gave}
use Rattle.just_host.specs.Interaction.{Behaves, Event, Path, Step, freely, unchecked}
use Rattle.just_eval_tests.specs.Prelude.{IsResolvedConst, IsResolvedModule, KeepsConstants}
use Rattle.just_meaning.specs.Blocks.{blocks_of}
use Rattle.just_meaning.specs.Module.{Module, lexically, run}
use Rattle.just_meaning.specs.Stage.{Constants, Staged, StageState, at_start}
use Rattle.just_laws.specs.Predicted.{AreOfOneModule, ConstAgrees, Predicts, is_found_open, whole_found, whole_stage}
use Rattle.just_laws.specs.Results.{EndsAsItsBlocks, ResultsHaveBlocks}

module _ (agrees : ConstAgrees) (results : ResultsHaveBlocks) (m : Constants) (lists : Bool) (outer : Frames) (n : Module) (others : Frames)
    (same : AreOfOneModule m lists outer n others) (before : IsResolvedConst m.assignments outer) (resolved : IsResolvedModule n others)
    (s : StageState) (stage : whole_stage m lists outer ≡ Gave s)
    (es : List Event) (frames : Frames) (path : Path freely (run lexically n ([] ∷ others) n.assignments.order) es (Gave frames)) where
  ends : EndsAsItsBlocks (blocks_of es (Gave frames)) (Gave frames)
  ends = results n others es (Gave frames) resolved path

  -- the value that the stage found for a number and the one that a run's block gave it are equal
  one_value : (k : ℕ) (settled bound : Bound) → bound_at k (own_frame s.frames) ≡ Some settled → bound_at k (own_frame frames) ≡ Some bound
      → bound.value ≡ settled.value
  one_value k settled bound h e =
      let found = (agrees.states m lists outer s stage).binds k settled h in
      let block = ends.bindings frames k bound refl e in
      let on = ends.unstopped block.0 (λ stopped. absurd (cc)) block.1 in
      let predicted = agrees.blocks m lists outer n others m.assignments.order [] es (Gave frames) (sym (append-nil m.assignments.order))
      same before resolved path found.0 block.0 found.1 block.1 (found.2 ∙ sym block.2) on in
      let is_open = is_found_open (whole_found m lists outer) in
      let gave : Predicts is_open (Gave settled.value) block.0 = subst (λ o. Predicts is_open o block.0) found.3 predicted in
      cc (block.3, gave.0)

  keeps : KeepsConstants s.is_open s.frames frames
  keeps k settled closed h = by (bound_at k (own_frame frames)) refl
    where
      by : (x : Option Bound) → bound_at k (own_frame frames) ≡ x
          → (bound_at k (own_frame frames) ≡ None) ⊎ ((bound : Bound) × (bound_at k (own_frame frames) ≡ Some bound) × (bound.value ≡ settled.value))
      by None e = inl e
      by (Some bound) e = inr (bound, e, one_value k settled bound h e)

-- the same from the contracts of a stage and a run
pub keeps_staged : (agrees : ConstAgrees) (results : ResultsHaveBlocks) (m : Constants) (lists : Bool) (outer : Frames) (n : Module)
    → AreOfOneModule m lists outer n outer → IsResolvedConst m.assignments outer → IsResolvedModule n outer
    → {S : Type 0} {step : Step S} {old new : S} (s : StageState) (frames : Frames)
    → Staged m (at_start lists outer) m.assignments.order (Gave s)
    → Behaves freely step unchecked old (run lexically n ([] ∷ outer) n.assignments.order) (Gave frames) new
    → KeepsConstants s.is_open s.frames frames
keeps_staged agrees results m lists outer n same before resolved s frames stage ran =
    keeps agrees results m lists outer n outer same before resolved s (sym stage.ends) ran.events frames ran.path
