-- Traces of interaction trees, and executions of a transition relation.
use Rattle.std.specs.Prelude.{◌≡◌, List, [], ◌∷◌, Option, Some, None}
use Rattle.just_interaction.specs.Outcome.{Outcome, Refused, Stopped}
use Rattle.just_interaction.specs.Signature.{Signature}
use Rattle.just_interaction.specs.Tree.{Tree, ask, check, done, note}

-- what happens along a trace
pub data Event (s : Signature) : Type 0 where
  Asked : s.Question → s.Answer → Event s
  Noted : s.Note → Event s
  Checked : s.Subject → s.Value → s.Verdict → Event s

-- which of the notes are refused
abbrev pub Rules : Signature → Type 0
Rules s = s.Note → Option s.Refusal

-- none is
abbrev pub freely : (s : Signature) → Rules s
freely s x = None

-- A finite trace of a tree under rules: these events, and then this outcome. The first note that the rules refuse ends
-- it. If memory runs out, it may stop at any point, so that traces are prefix-closed.
pub data Path {s : Signature} {A : Type 0} (rules : Rules s)
    : Tree s A → List (Event s) → Outcome s.Refusal A → Type 0 where
  Ends : {o : Outcome s.Refusal A} → Path rules (done o) [] o
  Stops : {t : Tree s A} → Path rules t [] Stopped
  Asks : {q : s.Question} {next : s.Answer → Tree s A} {a : s.Answer} {es : List (Event s)} {o : Outcome s.Refusal A}
      → Path rules (next a) es o → Path rules (ask q next) (Asked q a ∷ es) o
  Notes : {x : s.Note} {rest : Tree s A} {es : List (Event s)} {o : Outcome s.Refusal A} → rules x ≡ None
      → Path rules rest es o → Path rules (note x rest) (Noted x ∷ es) o
  Checks : {p : s.Subject} {v : s.Value} {next : s.Verdict → Tree s A} {a : s.Verdict} {es : List (Event s)}
      {o : Outcome s.Refusal A} → Path rules (next a) es o → Path rules (check p v next) (Checked p v a ∷ es) o
  Shuts : {x : s.Note} {rest : Tree s A} {r : s.Refusal} → rules x ≡ Some r → Path rules (note x rest) [] (Refused r)

-- a transition relation: a state, a question, its answer, and the next state
abbrev pub Step : Signature → Type 0 → Type 1
Step s S = S → s.Question → s.Answer → S → Type 0

-- which verdicts a check of a value may give
abbrev pub Verdicts : Signature → Type 1
Verdicts s = s.Subject → s.Value → s.Verdict → Type 0

-- none: no value is checked
abbrev pub unchecked : (s : Signature) → Verdicts s
unchecked s p v a = ⊥

-- An execution of the transition relation `step`, labelled with questions and answers: those among the events take a
-- state from `old` to `new`, one after another, and nothing else is asked. The verdict of each check is one that it may
-- give, and no question is asked for it.
abbrev pub Chain : {s : Signature} {S : Type 0} → Step s S → Verdicts s → S → List (Event s) → S → Type 0
Chain step verdicts old [] new = old ≡ new
Chain {s} {S} step verdicts old (Asked q a ∷ events) new =
    (mid : S) × step old q a mid × Chain step verdicts mid events new
Chain step verdicts old (Noted x ∷ events) new = Chain step verdicts old events new
Chain step verdicts old (Checked p v a ∷ events) new = verdicts p v a × Chain step verdicts old events new

-- The tree may behave like this: some events are a trace of it to the outcome, their questions take the state from
-- `old` to `new`, and their checks have verdicts that they may give.
pub record Behaves {s : Signature} {S A : Type 0} (rules : Rules s) (step : Step s S) (verdicts : Verdicts s) (old : S)
    (tree : Tree s A) (outcome : Outcome s.Refusal A) (new : S) : Type 0 where
  pub events : List (Event s)
  pub path : Path rules tree events outcome
  pub chain : Chain step verdicts old events new

-- Only answered questions take the state from `old` to `new`.
pub record GoesByAnswers (s : Signature) {S : Type 0} (step : Step s S) (old new : S) : Type 0 where
  pub events : List (Event s)
  pub chain : Chain step (unchecked s) old events new
