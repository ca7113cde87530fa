-- Interaction trees over a signature.
use Rattle.just_interaction.specs.Outcome.{Outcome, Gave, Refused, Stopped}
use Rattle.just_interaction.specs.Signature.{Signature}

-- An interaction tree: what is still to be done. It ends with an outcome (`Ret`), asks a question and has a branch
-- for each answer (`Vis`), makes a note and goes on (a labelled `Tau`), or checks a value and has a branch for each
-- verdict.
pub data Tree (s : Signature) (A : Type 0) : Type 0 where
  done : Outcome s.Refusal A → Tree s A
  ask : s.Question → (s.Answer → Tree s A) → Tree s A
  note : s.Note → Tree s A → Tree s A
  check : s.Subject → s.Value → (s.Verdict → Tree s A) → Tree s A

-- continues with the value of a tree; a refusal ends it
abbrev pub bind : {s : Signature} {A B : Type 0} → Tree s A → (A → Tree s B) → Tree s B
bind (done (Gave a)) go = go a
bind (done (Refused r)) go = done (Refused r)
bind (done Stopped) go = done Stopped
bind (ask q next) go = ask q (λ a. bind (next a) go)
bind (note x rest) go = note x (bind rest go)
bind (check p v next) go = check p v (λ a. bind (next a) go)

abbrev pub gives : {s : Signature} {A : Type 0} → A → Tree s A
gives a = done (Gave a)

abbrev pub refuses : {s : Signature} {A : Type 0} → s.Refusal → Tree s A
refuses r = done (Refused r)
