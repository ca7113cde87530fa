-- Answers by a host that is viewed as another host.
use Rattle.std.proofs.Common.{ℕ, IfSome, Option, Some, None, []}
use Rattle.just_bench.specs.Prelude.{AnswersLines, BadLine, Blocks, Case, CaseRuns, Described, Describes, Evaluated, Evaluation, Frames, Module, Part}
use Rattle.just_bench.specs.Prelude.{RunPrints, Script, Step, Text, Whole, Written, recording}
use Rattle.just_case_reader.specs.Case.{Run, Const}
use Rattle.just_bench.specs.Written.{Nothing}
use Rattle.just_bench.proofs.BlocksSeen.{blocks_seen}
use Rattle.just_bench.proofs.Seen.{Carries, behaves_seen, beside, recording_carried}

module _ {S T : Type 0} (step : Step S) (other : Step T) (see : S → T) (carried : Carries step other see) where
  run_prints_seen : {old : S} {m : Module} {outer : Frames} {printed : Text} {status : ℕ} → RunPrints step old m outer printed status
      → RunPrints other (see old) m outer printed status
  run_prints_seen {old = old} r = record {
    resolved = r.resolved;
    test = r.test;
    kept = r.kept;
    outcome = r.outcome;
    new = see r.new;
    lexical = λ resolved. behaves_seen (recording step) (recording other) (beside see) (recording_carried step other see carried) (old, []) (r.new, r.kept)
        (r.lexical resolved);
    dynamic = behaves_seen (recording step) (recording other) (beside see) (recording_carried step other see carried) (old, []) (r.new, r.kept) r.dynamic;
    text = r.text;
    ends = r.ends;
  }

  module _ (Starts : Script → S → Type 0) (Begins : Script → T → Type 0) (started : (script : Script) (s : S) → Starts script s → Begins script (see s)) where
    case_seen : {c : Case} {outer : Frames} {printed : Text} {status : ℕ} → CaseRuns step Starts c outer printed status
        → CaseRuns other Begins c outer printed status
    case_seen r = record { host = see r.host; starts = started _ r.host r.starts; prints = run_prints_seen r.prints }

    pub evaluated_seen : (c : Case) (e : Evaluation) (outer : Frames) (printed : Text) (status : ℕ) → Evaluated step Starts c e outer printed status
        → Evaluated other Begins c e outer printed status
    evaluated_seen c Run outer printed status r = case_seen r
    evaluated_seen c Const outer printed status r = r
    evaluated_seen c (Blocks second) outer printed status r = blocks_seen step other see carried Starts Begins started r

    -- an answer by the first host is an answer by the second
    pub answer_seen : (d : Described) (printed : Text) (status : ℕ) → AnswersLines step Starts d printed status → AnswersLines other Begins d printed status
    answer_seen (Describes c) printed status r = evaluated_seen c c.evaluation _ printed status r
    answer_seen (BadLine n) printed status r = r

-- a property of a written answer may be weakened
pub written_as : {old new : Option Text} {status : ℕ} (One Other : Text → ℕ → Type 0) → ((text : Text) (status : ℕ) → One text status → Other text status)
    → Written old new status One → Written old new status Other
written_as One Other on (Whole text is added) = Whole text (on text _ is) added
written_as One Other on (Part part rest whole one is added) = Part part rest whole one (on _ whole is) added
written_as One Other on (Nothing one same) = Nothing one same

-- the same, if the rest of the reader is known
pub known_as : (old new : Option Text) (status : ℕ) (One Other : Text → Text → ℕ → Type 0)
    → ((case text : Text) (status : ℕ) → One case text status → Other case text status)
    → (remaining : Option Text) → IfSome remaining (λ case. Written old new status (One case)) → IfSome remaining (λ case. Written old new status (Other case))
known_as old new status One Other on None written = tt
known_as old new status One Other on (Some case) written = written_as (One case) (Other case) (on case) written
