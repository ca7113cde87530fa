-- The output for a case that is evaluated in a run.
use Rattle.std.specs.Prelude.{◌≡◌, ◌↔◌, ℕ, Bool, true, false, IsTrue, List, [], ◌∷◌, ◌++◌, Some, None, codes}
use Rattle.std.specs.Map.{values_of}
use Rattle.just_syntax.specs.Plain.{Text}
use Rattle.just_value.specs.Frames.{Frames, own_frame}
use Rattle.just_value.specs.Outcome.{Outcome, Gave, Refused, Stopped}
use Rattle.just_case_reader.specs.Case.{Case}
use Rattle.just_host.specs.Recorded.{Kept, RecordsAndAsks}
use Rattle.just_host.specs.Interaction.{Behaves, Step, freely, unchecked}
use Rattle.just_meaning.specs.Module.{Module, run, dynamically, lexically, IsResolvedModule}
use Rattle.just_script.specs.Script.{Script, AnswersByScript}
use Rattle.just_bench.specs.Printed.{binding_lines, question_lines, refusal_line}
use Rattle.just_bench.specs.Hosts.{case_script}
use Rattle.just_bench.specs.Module.{case_module}

-- a host that answers by a script
abbrev pub by_script : Step Script
by_script old question answer new = AnswersByScript old question.blind answer new

-- the transitions of a host together with the questions so far
abbrev pub recording : {S : Type 0} → Step S → Step (S × List Kept)
recording step old question answer new = RecordsAndAsks step old.0 old.1 question answer new.0 new.1

-- the line at the start, if not all is resolved
abbrev pub unresolved_line : Bool → Text
unresolved_line true = []
unresolved_line false = codes "unresolved\n"

-- the bindings or the refusal
abbrev pub outcome_lines : Outcome Frames → Text
outcome_lines (Gave frames) = binding_lines (values_of (own_frame frames))
outcome_lines (Refused r) = refusal_line (Some r)
outcome_lines Stopped = refusal_line None

-- 0 unless it was refused
abbrev pub status_of : {A : Type 0} → Outcome A → ℕ
status_of (Gave a) = 0
status_of (Refused r) = 2
status_of Stopped = 2

-- The output says whether the module is resolved, then the questions of its run, and then the bindings or the refusal.
-- The run always has dynamic scope (by the chain of frames), and also lexical scope if the module is resolved. The host
-- starts in the old state.
pub record RunPrints {S : Type 0} (step : Step S) (old : S) (m : Module) (outer : Frames) (printed : Text)
    (status : ℕ) : Type 0 where
  pub resolved : Bool
  pub test : IsTrue resolved ↔ IsResolvedModule m outer
  pub kept : List Kept
  pub outcome : Outcome Frames
  pub new : S
  pub lexical : IsTrue resolved
      → Behaves freely (recording step) unchecked (old, []) (run lexically m ([] ∷ outer) m.assignments.order) outcome
      (new, kept)
  pub dynamic : Behaves freely (recording step) unchecked (old, []) (run dynamically m ([] ∷ outer) m.assignments.order)
      outcome (new, kept)
  pub text : printed ≡ unresolved_line resolved ++ (question_lines kept ++ outcome_lines outcome)
  pub ends : status ≡ status_of outcome

-- A case is evaluated in a run, with a host that starts by the script of the case.
pub record CaseRuns {S : Type 0} (step : Step S) (Starts : Script → S → Type 0) (c : Case) (outer : Frames)
    (printed : Text) (status : ℕ) : Type 0 where
  pub host : S
  pub starts : Starts (case_script c) host
  pub prints : RunPrints step host (case_module c) outer printed status
