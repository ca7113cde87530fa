-- A case has one answer.
use Rattle.std.proofs.Common.{◌≡◌, ◌≢◌, ◌↔◌, ℕ, Bool, true, false, IsTrue, List, [], ◌∷◌, ◌++◌, None, map, refl, sym, ap, subst, ◌∙◌, append_assoc}
use Rattle.just_bench.specs.Prelude.{AnswersLines, BadLine, Blocks, BlocksPrints, Case, CaseRuns, ConstPrints, Described, Describes, Evaluated, Evaluation}
use Rattle.just_bench.specs.Prelude.{Frames, Gave, HadMemory, Module, OneAnswer, Outcome, Refused, RunPrints, Script, Stopped, Text, Token, by_script}
use Rattle.just_bench.specs.Prelude.{case_constants, case_module, dynamically, in_order, outcome_lines, question_lines, refusal_line, stage_lines}
use Rattle.just_bench.specs.Prelude.{unresolved_line}
use Rattle.just_value.specs.Outcome.{UnlessStopped}
use Rattle.just_case_reader.specs.Case.{Run, Const}
use Rattle.just_case_reader.specs.Line.{case_line_of, lines_of}
use Rattle.just_case_reader.specs.Reading.{described}
use Rattle.just_laws.proofs.Decide.{answers_decide}
use Rattle.just_bench.proofs.Decided.{chains_one}
use Rattle.just_bench.proofs.Heeded.{run_answered}
use Rattle.just_bench.proofs.Lines.{are_questions, are_unresolved, lines_after}
use Rattle.just_bench.proofs.OneWalk.{both_one, had_after}

-- two tests of the same proposition
flags_one : (P : Type 0) (a b : Bool) → (IsTrue a ↔ P) → (IsTrue b ↔ P) → a ≡ b
flags_one P true true p q = refl
flags_one P false false p q = refl
flags_one P true false p q = sym (q.1 (p.0 refl))
flags_one P false true p q = p.1 (q.0 refl)

-- a run that does not report `OutOfMemory` was not stopped
run_whole : {s : Script} {m : Module} {outer : Frames} {i : ℕ} (p : Text) (one : RunPrints by_script s m outer p i) → HadMemory p → one.outcome ≢ Stopped
run_whole p one had e =
    (had (unresolved_line one.resolved ++ question_lines one.kept) (lines_after _ _ (are_unresolved one.resolved) (are_questions one.kept))).0
    (one.text ∙ ap (λ o. unresolved_line one.resolved ++ (question_lines one.kept ++ outcome_lines o)) e
    ∙ sym (append_assoc (unresolved_line one.resolved) (question_lines one.kept) (refusal_line None)))

stage_whole : {c : Case} {outer : Frames} {i : ℕ} (p : Text) (one : ConstPrints c outer p i) → HadMemory p → one.outcome ≢ Stopped
stage_whole {c = c} p one had e =
    (had (unresolved_line one.resolved) (are_unresolved one.resolved)).1
    (one.text ∙ ap (λ o. unresolved_line one.resolved ++ stage_lines (case_constants c) o) e)

-- an outcome that is not stopped is the expected one
unstopped_is : {A : Type 0} (o w : Outcome A) → UnlessStopped o w → o ≢ Stopped → o ≡ w
unstopped_is (Gave a) w is on = is
unstopped_is (Refused r) w is on = is
unstopped_is Stopped w is on = absurd (on refl)

runs_one : (s u : Script) (m : Module) (outer : Frames) (p q : Text) (i j : ℕ) (from : s ≡ u) → RunPrints by_script s m outer p i
    → RunPrints by_script u m outer q j → HadMemory p → HadMemory q → (p ≡ q) × (i ≡ j)
runs_one s u m outer p q i j from one other had also =
    let x = one.dynamic in
    let y = other.dynamic in
    let here = run_whole p one had in
    let there = run_whole q other also in
    let (same, ends) = chains_one (one.outcome ≡ other.outcome) (s, []) (u, []) x.events y.events (one.new, one.kept)
    (other.new, other.kept) (ap (λ h. (h, [])) from) (run_answered m ([] ∷ outer) m.assignments.order x.path here)
    (run_answered m ([] ∷ outer) m.assignments.order y.path there) x.chain y.chain
    (answers_decide.runs dynamically m ([] ∷ outer) m.assignments.order x.events y.events one.outcome other.outcome x.path y.path here there) in
    let resolved = flags_one _ one.resolved other.resolved one.test other.test in
    let kept = ap (λ h. h.1) ends in
    (one.text ∙ rw (resolved, kept, same) (sym other.text), one.ends ∙ rw same (sym other.ends))

stages_one : (c : Case) (outer : Frames) (p q : Text) (i j : ℕ) → ConstPrints c outer p i → ConstPrints c outer q j → HadMemory p → HadMemory q
    → (p ≡ q) × (i ≡ j)
stages_one c outer p q i j one other had also =
    let resolved = flags_one _ one.resolved other.resolved one.test other.test in
    let same : one.outcome ≡ other.outcome = unstopped_is one.outcome _ one.staged.ends (stage_whole p one had)
    ∙ sym (unstopped_is other.outcome _ other.staged.ends (stage_whole q other also)) in
    (one.text ∙ rw (resolved, same) (sym other.text), one.ends ∙ rw same (sym other.ends))

abbrev Starts : Script → Script → Type 0
Starts script state = state ≡ script

cases_one : (c : Case) (outer : Frames) (p q : Text) (i j : ℕ) → CaseRuns by_script Starts c outer p i → CaseRuns by_script Starts c outer q j → HadMemory p
    → HadMemory q → (p ≡ q) × (i ≡ j)
cases_one c outer p q i j one other had also =
    runs_one one.host other.host (case_module c) outer p q i j (one.starts ∙ sym other.starts) one.prints other.prints had also

blocks_one : (c : Case) (second : List Token) (outer : Frames) (p q : Text) (i j : ℕ) → BlocksPrints by_script Starts c second outer p i
    → BlocksPrints by_script Starts c second outer q j → HadMemory p → HadMemory q → (p ≡ q) × (i ≡ j)
blocks_one c second outer p q i j one other had also =
    let x = one.prints in
    let y = other.prints in
    let resolved = flags_one _ x.resolved y.resolved x.test y.test in
    let here = had_after (unresolved_line x.resolved) x.lines (are_unresolved x.resolved) (subst HadMemory x.text had) in
    let there = had_after (unresolved_line y.resolved) y.lines (are_unresolved y.resolved) (subst HadMemory y.text also) in
    let (lines, status) =
    both_one one.one_host other.one_host one.other_host other.other_host (one.one_starts ∙ sym other.one_starts) (one.other_starts ∙ sym other.other_starts)
    (case_module c) (in_order (case_module c) second) outer x.lines y.lines i j x.prints y.prints here there in
    (x.text ∙ rw (resolved, lines) (sym y.text), status)

evaluated_one : (c : Case) (e : Evaluation) (outer : Frames) (p q : Text) (i j : ℕ) → Evaluated by_script Starts c e outer p i
    → Evaluated by_script Starts c e outer q j → HadMemory p → HadMemory q → (p ≡ q) × (i ≡ j)
evaluated_one c Run outer p q i j one other had also = cases_one c outer p q i j one other had also
evaluated_one c Const outer p q i j one other had also = stages_one c outer p q i j one other had also
evaluated_one c (Blocks second) outer p q i j one other had also = blocks_one c second outer p q i j one other had also

lines_one : (d : Described) (p q : Text) (i j : ℕ) → AnswersLines by_script Starts d p i → AnswersLines by_script Starts d q j → HadMemory p → HadMemory q
    → (p ≡ q) × (i ≡ j)
lines_one (Describes c) p q i j one other had also = evaluated_one c c.evaluation _ p q i j one other had also
lines_one (BadLine n) p q i j (text, status) (same, one) had also = (text ∙ sym same, status ∙ sym one)

pub one_answer : OneAnswer
one_answer case p q i j one other had also = lines_one (described (map case_line_of (lines_of case))) p q i j one other had also
