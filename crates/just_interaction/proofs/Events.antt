-- What holds of each event of each trace of a tree.
use Rattle.std.proofs.Common.{Bool, true, false, List, [], ◌∷◌, if◌then◌else◌, refl}
use Rattle.std.specs.List.{AllByRecursion}
use Rattle.just_interaction.specs.Prelude.{Asked, Asks, Checked, Checks, Ends, Event, Gave, Noted, Notes, Outcome, Path, Refused, Rules, Shuts, Signature}
use Rattle.just_interaction.specs.Prelude.{Stopped, Stops, Tree, ask, bind, check, done, freely, note}

-- each event of the tree has the property
abbrev pub AllEvents : {s : Signature} {A : Type 0} → (Event s → Type 0) → Tree s A → Type 0
AllEvents P (done o) = Unit {0}
AllEvents {s} P (ask q next) = (a : s.Answer) → (P (Asked q a) × AllEvents P (next a))
AllEvents P (note x rest) = P (Noted x) × AllEvents P rest
AllEvents {s} P (check p v next) = (a : s.Verdict) → (P (Checked p v a) × AllEvents P (next a))

module _ {s : Signature} (P : Event s → Type 0) where
  pub events_bind : {A B : Type 0} (t : Tree s A) (go : A → Tree s B) → AllEvents P t → ((a : A) → AllEvents P (go a)) → AllEvents P (bind t go)
  events_bind (done (Gave a)) go h k = k a
  events_bind (done (Refused r)) go h k = tt
  events_bind (done Stopped) go h k = tt
  events_bind (ask q next) go h k = λ a. ((h a).0, events_bind (next a) go (h a).1 k)
  events_bind (note x rest) go h k = (h.0, events_bind rest go h.1 k)
  events_bind (check p v next) go h k = λ a. ((h a).0, events_bind (next a) go (h a).1 k)

  pub events_if : {A : Type 0} (b : Bool) (t u : Tree s A) → AllEvents P t → AllEvents P u → AllEvents P (if b then t else u)
  events_if true t u h k = h
  events_if false t u h k = k

  -- so has each event of a trace
  pub events_path : {A : Type 0} {rules : Rules s} {t : Tree s A} {es : List (Event s)} {o : Outcome s.Refusal A} → Path rules t es o → AllEvents P t
      → AllByRecursion P es
  events_path Ends h = tt
  events_path Stops h = tt
  events_path (Asks {a = a} p) h = ((h a).0, events_path p (h a).1)
  events_path (Notes e p) h = (h.0, events_path p h.1)
  events_path (Checks {a = a} p) h = ((h a).0, events_path p (h a).1)
  events_path (Shuts e) h = tt

  -- so has each event of the tree if another property implies it
  pub events_alike : {A : Type 0} (Q : Event s → Type 0) → ((x : Event s) → Q x → P x) → (t : Tree s A) → AllEvents Q t → AllEvents P t
  events_alike Q on (done o) h = tt
  events_alike Q on (ask q next) h = λ a. (on (Asked q a) (h a).0, events_alike Q on (next a) (h a).1)
  events_alike Q on (note x rest) h = (on (Noted x) h.0, events_alike Q on rest h.1)
  events_alike Q on (check p v next) h = λ a. (on (Checked p v a) (h a).0, events_alike Q on (next a) (h a).1)

  -- conversely, if each event of each trace has it
  pub events_traces : {A : Type 0} (t : Tree s A) → ((es : List (Event s)) (o : Outcome s.Refusal A) → Path (freely s) t es o → AllByRecursion P es)
      → AllEvents P t
  events_traces (done o) h = tt
  events_traces (ask q next) h = λ a. (
    (h (Asked q a ∷ []) Stopped (Asks Stops)).0,
    events_traces (next a) (λ es o p. (h (Asked q a ∷ es) o (Asks p)).1),
  )
  events_traces (note n rest) h = (
    (h (Noted n ∷ []) Stopped (Notes refl Stops)).0,
    events_traces rest (λ es o p. (h (Noted n ∷ es) o (Notes refl p)).1),
  )
  events_traces (check p v next) h = λ a. (
    (h (Checked p v a ∷ []) Stopped (Checks Stops)).0,
    events_traces (next a) (λ es o q. (h (Checked p v a ∷ es) o (Checks q)).1),
  )
