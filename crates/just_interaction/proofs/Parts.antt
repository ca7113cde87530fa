-- The parts of a trace of two trees, one after the other.
use Rattle.std.proofs.Common.{◌≡◌, List, ◌∷◌, ◌++◌, Option, Some, None}
use Rattle.just_interaction.specs.Prelude.{Asked, Asks, Checked, Checks, Ends, Event, Gave, Noted, Notes, Outcome, Path, Refused, Rules, Shuts, Signature}
use Rattle.just_interaction.specs.Prelude.{Stopped, Stops, Tree, ask, bind, check, done, note, without_value}

module _ {s : Signature} (rules : Rules s) {A B : Type 0} (go : A → Tree s B) where
  -- A trace of `bind t go` is one of `t` to no value, or one to a value and then one of what follows.
  pub data Parts (t : Tree s A) : List (Event s) → Outcome s.Refusal B → Type 0 where
    Ended : {es : List (Event s)} → (r : Option s.Refusal) → Path rules t es (without_value r) → Parts t es (without_value r)
    Went : {es fs : List (Event s)} {o : Outcome s.Refusal B} → (a : A) → Path rules t es (Gave a) → Path rules (go a) fs o → Parts t (es ++ fs) o

  after_ask : (q : s.Question) (next : s.Answer → Tree s A) (a : s.Answer) {es : List (Event s)} {o : Outcome s.Refusal B} → Parts (next a) es o
      → Parts (ask q next) (Asked q a ∷ es) o
  after_ask q next a (Ended r p) = Ended r (Asks p)
  after_ask q next a (Went v p k) = Went v (Asks p) k

  after_check : (p : s.Subject) (v : s.Value) (next : s.Verdict → Tree s A) (a : s.Verdict) {es : List (Event s)} {o : Outcome s.Refusal B}
      → Parts (next a) es o → Parts (check p v next) (Checked p v a ∷ es) o
  after_check p v next a (Ended r q) = Ended r (Checks q)
  after_check p v next a (Went w q k) = Went w (Checks q) k

  after_note : (x : s.Note) (rest : Tree s A) {es : List (Event s)} {o : Outcome s.Refusal B} → rules x ≡ None → Parts rest es o
      → Parts (note x rest) (Noted x ∷ es) o
  after_note x rest e (Ended r p) = Ended r (Notes e p)
  after_note x rest e (Went v p k) = Went v (Notes e p) k

  pub parts : (t : Tree s A) {es : List (Event s)} {o : Outcome s.Refusal B} → Path rules (bind t go) es o → Parts t es o
  parts (done (Gave a)) p = Went a Ends p
  parts (done (Refused r)) Ends = Ended (Some r) Ends
  parts (done (Refused r)) Stops = Ended None Stops
  parts (done Stopped) Ends = Ended None Ends
  parts (done Stopped) Stops = Ended None Ends
  parts (ask q next) (Asks {a = a} p) = after_ask q next a (parts (next a) p)
  parts (ask q next) Stops = Ended None Stops
  parts (note x rest) (Notes e p) = after_note x rest e (parts rest p)
  parts (note x rest) (Shuts {r = r} e) = Ended (Some r) (Shuts e)
  parts (note x rest) Stops = Ended None Stops
  parts (check p v next) (Checks {a = a} q) = after_check p v next a (parts (next a) q)
  parts (check p v next) Stops = Ended None Stops
