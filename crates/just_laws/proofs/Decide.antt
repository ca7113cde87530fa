-- Determinacy: two traces of one tree first differ in an answer.
use Rattle.std.proofs.Common.{◌≡◌, ◌≢◌, inl, inr, Bool, true, false, List, refl, sym, ap, subst}
use mathlib.Core.List.{List-discrete}
use native.Mathlib.Decide.{ℕ_discrete}
use lib.IntN.{ℤ_discrete}
use Rattle.just_syntax.specs.Plain.{Text}
use Rattle.just_value.specs.Refusal.{Fault, Code, Message, NoMemory}
use Rattle.just_value.specs.Outcome.{Outcome, Stopped}
use Rattle.just_host.specs.Question.{Answer, Replied, Failed, Absent, NotText, Found, Numbered}
use Rattle.just_host.specs.Interaction.{Event, Tree, Verdict, Passed, Rejected, Undecided, Path, Ends, Asks, Notes, Checks, Shuts, freely}
use Rattle.just_host.specs.Interaction as interaction
use Rattle.just_laws.specs.Decided.{AgreeUpToAnswers, AnswersDecide}

-- ---- answers are equal, or they are not

decided : {A B : Type 0} (f : A → B) {a b : A} → (f a ≡ f b → a ≡ b) → Dec (a ≡ b) → Dec (f a ≡ f b)
decided f back (yes e) = yes (ap f e)
decided f back (no n) = no (λ e. n (back e))

same_text : (t u : Text) → Dec (t ≡ u)
same_text = List-discrete ℕ_discrete

same_bool : (x y : Bool) → Dec (x ≡ y)
same_bool true true = yes refl
same_bool true false = no (λ e. absurd (cc))
same_bool false true = no (λ e. absurd (cc))
same_bool false false = yes refl

same_fault : (f g : Fault) → Dec (f ≡ g)
same_fault (Code m) (Code n) = decided Code (λ e. cc) (ℤ_discrete m n)
same_fault (Message t) (Message u) = decided Message (λ e. cc) (same_text t u)
same_fault NoMemory NoMemory = yes refl
same_fault (Code m) _ = no (λ e. absurd (cc))
same_fault (Message t) _ = no (λ e. absurd (cc))
same_fault NoMemory _ = no (λ e. absurd (cc))

same_answer : (a b : Answer) → Dec (a ≡ b)
same_answer (Replied t) (Replied u) = decided Replied (λ e. cc) (same_text t u)
same_answer (Failed f) (Failed g) = decided Failed (λ e. cc) (same_fault f g)
same_answer Absent Absent = yes refl
same_answer (NotText t) (NotText u) = decided NotText (λ e. cc) (same_text t u)
same_answer (Found x) (Found y) = decided Found (λ e. cc) (same_bool x y)
same_answer (Numbered m) (Numbered n) = decided Numbered (λ e. cc) (ℕ_discrete m n)
same_answer (Replied t) _ = no (λ e. absurd (cc))
same_answer (Failed f) _ = no (λ e. absurd (cc))
same_answer Absent _ = no (λ e. absurd (cc))
same_answer (NotText t) _ = no (λ e. absurd (cc))
same_answer (Found x) _ = no (λ e. absurd (cc))
same_answer (Numbered m) _ = no (λ e. absurd (cc))

same_verdict : (a b : Verdict) → Dec (a ≡ b)
same_verdict Passed Passed = yes refl
same_verdict (Rejected t) (Rejected u) = decided Rejected (λ e. cc) (same_text t u)
same_verdict Undecided Undecided = yes refl
same_verdict Passed _ = no (λ e. absurd (cc))
same_verdict (Rejected t) _ = no (λ e. absurd (cc))
same_verdict Undecided _ = no (λ e. absurd (cc))

-- ---- traces

pub decide : {A : Type 0} {t : Tree A} {es fs : List Event} {o p : Outcome A} → Path freely t es o → Path freely t fs p → o ≢ Stopped → p ≢ Stopped
    → AgreeUpToAnswers es fs (o ≡ p)
decide Ends Ends here there = refl
decide (Asks {next = next} {a = a} p) (Asks {a = b} {es = fs} {o = end} q) here there =
    (refl, elim (same_answer a b) [ yes e ↦ inr (e, decide p (subst (λ x. Path freely (next x) fs end) (sym e) q) here there) | no n ↦ inl n ])
decide (Notes e p) (Notes f q) here there = (refl, decide p q here there)
decide (Checks {next = next} {a = a} p) (Checks {a = b} {es = fs} {o = end} q) here there =
    (refl, refl, elim (same_verdict a b) [ yes e ↦ inr (e, decide p (subst (λ x. Path freely (next x) fs end) (sym e) q) here there) | no n ↦ inl n ])
decide interaction.Stops q here there = absurd (here refl)
decide p interaction.Stops here there = absurd (there refl)
decide (Shuts e) q here there = absurd (cc)
decide p (Shuts e) here there = absurd (cc)

pub answers_decide : AnswersDecide
answers_decide = record {
  expressions = λ c d s e es fs o p i j here there. decide i j here there;
  lines = λ c d s continued fragments es fs o p i j here there. decide i j here there;
  parameters = λ c d s recipe ps arguments es fs o p i j here there. decide i j here there;
  runs = λ closing m frames names es fs o p i j here there. decide i j here there;
}
