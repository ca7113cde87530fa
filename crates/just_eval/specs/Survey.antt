-- A const stage that goes on after refusals.
use Rattle.std.specs.Prelude.{List, [], ◌∷◌, Option, Some, None, map}
use Rattle.std.specs.List.{AllByRecursion}
use Rattle.just_syntax.specs.Plain.{Assignment, Token}
use Rattle.just_syntax.specs.View.{name_view}
use Rattle.just_value.specs.Outcome.{Outcome, Gave, Refused}
use Rattle.just_value.specs.Refusal.{Refusal}
use Rattle.just_value.specs.View.{const_eval_refusal}
use Rattle.just_meaning.specs.Assignments.{assignment_at}
use Rattle.just_meaning.specs.Internal.{IsInternal}
use Rattle.just_meaning.specs.Stage.{Constants, StageState, Staged, with_open}
use Rattle.just_eval.specs.declared.const_survey.RefusedConstant.{RefusedConstant}

-- the names that were refused, with their refusals
abbrev pub refused_view : List RefusedConstant → List (Token × Refusal)
refused_view rs = map (λ r. (name_view r.name, const_eval_refusal r.error)) rs

abbrev pub opened_for : StageState → Option Assignment → StageState
opened_for s (Some a) = with_open s a.number
opened_for s None = s

-- A stage over these names that goes on after refusals: the refusals, and the state at the end. Each name is evaluated
-- as in a stage of its own. A refused variable counts as open.
pub data Survey (m : Constants) : StageState → List Token → List (Token × Refusal) → StageState → Type 0 where
  Finished : {s : StageState} → Survey m s [] [] s
  Passes : {s mid end : StageState} {t : Token} {left : List Token} {rs : List (Token × Refusal)}
      → Staged m s (t ∷ []) (Gave mid) → Survey m mid left rs end → Survey m s (t ∷ left) rs end
  Refuses : {s end : StageState} {t : Token} {left : List Token} {rs : List (Token × Refusal)} → (r : Refusal)
      → Staged m s (t ∷ []) (Refused r) → Survey m (opened_for s (assignment_at m.assignments t.lexeme)) left rs end
      → Survey m s (t ∷ left) ((t, r) ∷ rs) end

-- the outcome of a stage that ends at the first of these refusals or, without one, finds this state
abbrev pub stage_outcome : List (Token × Refusal) → StageState → Outcome StageState
stage_outcome [] s = Gave s
stage_outcome ((t, r) ∷ rs) s = Refused r

-- none of the refusals is one that only an unresolved module meets
abbrev pub AreNotInternal : List (Token × Refusal) → Type 0
AreNotInternal rs = AllByRecursion (λ r. IsInternal r.1 → ⊥) rs
