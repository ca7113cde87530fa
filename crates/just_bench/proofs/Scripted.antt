-- The hosts of a case, viewed as scripts.
use Rattle.std.proofs.Common.{◌≡◌, ℕ, zero, suc, ap, ◌∙◌, Option, IfSome, Result, Ok, Err, IfOk}
use Rattle.just_bench.specs.Prelude.{Added, Answer, AnswersByScript, AnswersCase, Blind, Case, CommandOf, Evaluated, ExistsAt, Frames, MadeOf, NumberOf}
use Rattle.just_bench.specs.Prelude.{PassesOrFails, Question, Script, ScriptedHost, Step, Text, TextOf, Written, by_script, failing_view, script_view}
use Rattle.just_script.specs.Failing.{Failing, Fails, Faults, PassesOr}
use Rattle.just_script.specs.declared.fail_at.FailAt.{FailAt}
use Rattle.just_script.specs.declared.fail_at.How.{How}
use Rattle.just_script.specs.declared.fail_at.How.TheVariants.{Fault, Memory}
use Rattle.just_bench.proofs.AnswersSeen.{answer_seen, evaluated_seen, known_as}

-- the transitions of a scripted host
abbrev pub scripted : Step ScriptedHost
scripted old question answer new = AnswersByScript (script_view old) question.blind answer (script_view new)

-- the host of the case itself
pub bare_known : (old new : Option Text) (status : ℕ) (remaining : Option Text)
    → IfSome remaining (λ case. Written old new status (AnswersCase scripted (MadeOf (λ host made. made ≡ host)) case))
    → IfSome remaining (λ case. Written old new status (AnswersCase by_script (λ script state. state ≡ script) case))
bare_known old new status =
    known_as old new status (AnswersCase scripted (MadeOf (λ host made. made ≡ host))) (AnswersCase by_script (λ script state. state ≡ script))
    (λ case text status. answer_seen scripted by_script script_view (λ a q x b s. s) (MadeOf (λ host made. made ≡ host)) (λ script state. state ≡ script)
    (λ script made (host, says, given). ap script_view given ∙ says) _ text status)

-- the same for a case that is already built, in a scope
pub bare_evaluated : {E : Type 0} (c : Case) (outer : Frames) (old new : Text) (result : Result ℕ E)
    → IfOk result (λ status. Added old new (λ printed. Evaluated scripted (MadeOf (λ host made. made ≡ host)) c c.evaluation outer printed status))
    → IfOk result (λ status. Added old new (λ printed. Evaluated by_script (λ script state. state ≡ script) c c.evaluation outer printed status))
bare_evaluated c outer old new (Ok status) a = record {
  printed = a.printed;
  after = a.after;
  is = evaluated_seen scripted by_script script_view (λ a q x b s. s) (MadeOf (λ host made. made ≡ host)) (λ script state. state ≡ script)
      (λ script made (host, says, given). ap script_view given ∙ says) c c.evaluation outer a.printed status a.is;
}
bare_evaluated c outer old new (Err e) a = tt

-- ---- a host that fails from some question on

-- a failing host, around a script
abbrev pub failing_script : FailAt ScriptedHost → Failing Script
failing_script host = record { host = script_view host.host; left = host.left; how = host.how }

faults_seen : (old : ScriptedHost) (q : Question) (x : Answer) (new : ScriptedHost) (blind : Blind) → Faults scripted old q x new blind
    → Faults by_script (script_view old) q x (script_view new) blind
faults_seen old q x new (CommandOf c) (fault, same) = (fault, ap script_view same)
faults_seen old q x new (TextOf t) (fault, same) = (fault, ap script_view same)
faults_seen old q x new (ExistsAt path) s = s
faults_seen old q x new (NumberOf n) s = s

fails_seen : (how : How) (old : ScriptedHost) (q : Question) (x : Answer) (new : ScriptedHost) → Fails scripted how old q x new
    → Fails by_script how (script_view old) q x (script_view new)
fails_seen Fault old q x new f = faults_seen old q x new q.blind f
fails_seen Memory old q x new (none, same) = (none, ap script_view same)

passes_seen : (n : ℕ) (how : How) (old : ScriptedHost) (q : Question) (x : Answer) (new : ScriptedHost) (left : ℕ) → PassesOr scripted n how old q x new left
    → PassesOr by_script n how (script_view old) q x (script_view new) left
passes_seen (suc n) how old q x new left p = p
passes_seen zero how old q x new left (f, none) = (fails_seen how old q x new f, none)

-- the transitions of such a host
abbrev pub failing : Step (FailAt ScriptedHost)
failing old question answer new = PassesOrFails scripted (failing_view old) question answer (failing_view new)

failing_carried : (a : FailAt ScriptedHost) (q : Question) (x : Answer) (b : FailAt ScriptedHost) → failing a q x b
    → PassesOrFails by_script (failing_script a) q x (failing_script b)
failing_carried a q x b (p, same) = (passes_seen a.left a.how a.host q x b.host b.left p, same)

abbrev pub Around : ℕ → How → ScriptedHost → FailAt ScriptedHost → Type 0
Around passed how host made = failing_view made ≡ record { host = host; left = passed; how = how }

pub failing_known : (passed : ℕ) (how : How) (old new : Option Text) (status : ℕ) (remaining : Option Text)
    → IfSome remaining (λ case. Written old new status (AnswersCase failing (MadeOf (Around passed how)) case))
    → IfSome remaining
    (λ case. Written old new status (AnswersCase (PassesOrFails by_script) (λ script state. state ≡ record { host = script; left = passed; how = how }) case))
failing_known passed how old new status = known_as old new status (AnswersCase failing (MadeOf (Around passed how)))
    (AnswersCase (PassesOrFails by_script) (λ script state. state ≡ record { host = script; left = passed; how = how }))
    (λ case text status. answer_seen failing (PassesOrFails by_script) failing_script failing_carried (MadeOf (Around passed how))
    (λ script state. state ≡ record { host = script; left = passed; how = how })
    (λ script made (host, says, given). ap (λ (f : Failing ScriptedHost). record { host = script_view f.host; left = f.left; how = f.how }) given
    ∙ ap (λ s. record { host = s; left = passed; how = how }) says) _ text status)
