-- Composition of traces and of executions.
use Rattle.std.proofs.Common.{◌≡◌, Bool, true, false, List, [], ◌∷◌, ◌++◌, refl, sym, ap, subst, Option, Some, None, if◌then◌else◌}
use mathlib.Core.Path.{fun_ext}
use Rattle.just_interaction.specs.Prelude.{Asked, Asks, Behaves, Chain, Checked, Checks, Ends, Event, Gave, GoesByAnswers, Noted, Notes, Outcome, Path}
use Rattle.just_interaction.specs.Prelude.{Refused, Rules, Shuts, Signature, Step, Stopped, Stops, Tree, UnlessStopped, Verdicts, ask, bind, check, done}
use Rattle.just_interaction.specs.Prelude.{gives, note, unchecked, without_value}

-- ---- the laws of `bind`

pub bind_gives : {s : Signature} {A : Type 0} (t : Tree s A) → bind t (λ a. gives a) ≡ t
bind_gives (done (Gave a)) = refl
bind_gives (done (Refused r)) = refl
bind_gives (done Stopped) = refl
bind_gives (ask q next) = ap (ask q) (fun_ext (λ a. bind_gives (next a)))
bind_gives (note x rest) = ap (note x) (bind_gives rest)
bind_gives (check p v next) = ap (check p v) (fun_ext (λ a. bind_gives (next a)))

pub bind_bind : {s : Signature} {A B C : Type 0} (t : Tree s A) (go : A → Tree s B) (on : B → Tree s C) → bind t (λ a. bind (go a) on) ≡ bind (bind t go) on
bind_bind (done (Gave a)) go on = refl
bind_bind (done (Refused r)) go on = refl
bind_bind (done Stopped) go on = refl
bind_bind (ask q next) go on = ap (ask q) (fun_ext (λ a. bind_bind (next a) go on))
bind_bind (note x rest) go on = ap (note x) (bind_bind rest go on)
bind_bind (check p v next) go on = ap (check p v) (fun_ext (λ a. bind_bind (next a) go on))

-- ---- paths

module _ {s : Signature} {rules : Rules s} where
  -- a path to a value, continued after the value
  pub path_on : {A B : Type 0} {t : Tree s A} (go : A → Tree s B) {es fs : List (Event s)} {a : A} {o : Outcome s.Refusal B}
      → Path rules t es (Gave a) → Path rules (go a) fs o → Path rules (bind t go) (es ++ fs) o
  path_on go Ends q = q
  path_on go (Asks p) q = Asks (path_on go p q)
  path_on go (Notes e p) q = Notes e (path_on go p q)
  path_on go (Checks p) q = Checks (path_on go p q)

  -- a path without a value stays one, whatever would have followed the value
  path_refused : {A B : Type 0} {t : Tree s A} (go : A → Tree s B) {es : List (Event s)} {r : s.Refusal} → Path rules t es (Refused r)
      → Path rules (bind t go) es (Refused r)
  path_refused go Ends = Ends
  path_refused go (Asks p) = Asks (path_refused go p)
  path_refused go (Notes e p) = Notes e (path_refused go p)
  path_refused go (Checks p) = Checks (path_refused go p)
  path_refused go (Shuts e) = Shuts e

  path_stopped : {A B : Type 0} {t : Tree s A} (go : A → Tree s B) {es : List (Event s)} → Path rules t es Stopped → Path rules (bind t go) es Stopped
  path_stopped go Ends = Stops
  path_stopped go Stops = Stops
  path_stopped go (Asks p) = Asks (path_stopped go p)
  path_stopped go (Notes e p) = Notes e (path_stopped go p)
  path_stopped go (Checks p) = Checks (path_stopped go p)

  pub path_ends : {A B : Type 0} {t : Tree s A} (go : A → Tree s B) {es : List (Event s)} (r : Option s.Refusal) → Path rules t es (without_value r)
      → Path rules (bind t go) es (without_value r)
  path_ends go (Some r) p = path_refused go p
  path_ends go None p = path_stopped go p

  -- a path to a value may also be stopped at its end
  pub path_cut : {A : Type 0} {t : Tree s A} {es : List (Event s)} {a : A} → Path rules t es (Gave a) → Path rules t es Stopped
  path_cut Ends = Stops
  path_cut (Asks p) = Asks (path_cut p)
  path_cut (Notes e p) = Notes e (path_cut p)
  path_cut (Checks p) = Checks (path_cut p)

module _ {s : Signature} {S : Type 0} (step : Step s S) (says : Verdicts s) where
  pub chain_append : (a b : S) (es fs : List (Event s)) (c : S) → Chain step says a es b → Chain step says b fs c → Chain step says a (es ++ fs) c
  chain_append a b [] fs c p q = subst (λ x. Chain step says x fs c) (sym p) q
  chain_append a b (Asked x y ∷ es) fs c (m, s, p) q = (m, s, chain_append m b es fs c p q)
  chain_append a b (Noted x ∷ es) fs c p q = chain_append a b es fs c p q
  chain_append a b (Checked x v y ∷ es) fs c (h, p) q = (h, chain_append a b es fs c p q)

  -- only answered questions change the host's state
  chain_answers : (a b : S) (es : List (Event s)) → Chain step says a es b → GoesByAnswers s step a b
  chain_answers a b [] p = record { events = []; chain = p }
  chain_answers a b (Asked q x ∷ es) (m, s, p) = let rest = chain_answers m b es p in record { events = Asked q x ∷ rest.events; chain = (m, s, rest.chain) }
  chain_answers a b (Noted x ∷ es) p = chain_answers a b es p
  chain_answers a b (Checked x v y ∷ es) (h, p) = chain_answers a b es p

  -- an execution that checks nothing is one with any verdicts
  chain_checked : (a b : S) (es : List (Event s)) → Chain step (unchecked s) a es b → Chain step says a es b
  chain_checked a b [] p = p
  chain_checked a b (Asked q x ∷ es) (m, s, p) = (m, s, chain_checked m b es p)
  chain_checked a b (Noted x ∷ es) p = chain_checked a b es p
  chain_checked a b (Checked x v y ∷ es) (h, p) = absurd h

module _ {s : Signature} {rules : Rules s} {S : Type 0} {step : Step s S} {says : Verdicts s} where
  -- a run without questions
  pub runs_done : {A : Type 0} {h : S} (w o : Outcome s.Refusal A) → UnlessStopped o w → Behaves rules step says h (done w) o h
  runs_done {h = h} w (Gave a) u = subst (λ x. Behaves rules step says h (done x) (Gave a) h) u (record { events = []; path = Ends; chain = refl })
  runs_done {h = h} w (Refused r) u = subst (λ x. Behaves rules step says h (done x) (Refused r) h) u (record { events = []; path = Ends; chain = refl })
  runs_done w Stopped u = record { events = []; path = Stops; chain = refl }

  pub runs_gives : {A : Type 0} {h : S} (a : A) → Behaves rules step says h (gives a) (Gave a) h
  runs_gives a = record { events = []; path = Ends; chain = refl }

  pub runs_stopped : {A : Type 0} {h : S} (t : Tree s A) → Behaves rules step says h t Stopped h
  runs_stopped t = record { events = []; path = Stops; chain = refl }

  -- sequencing after a value
  pub runs_on : {A B : Type 0} {old mid new : S} (t : Tree s A) (go : A → Tree s B) {a : A} {o : Outcome s.Refusal B}
      → Behaves rules step says old t (Gave a) mid → Behaves rules step says mid (go a) o new → Behaves rules step says old (bind t go) o new
  runs_on t go r q =
      record { events = r.events ++ q.events; path = path_on go r.path q.path; chain = chain_append step says _ _ r.events q.events _ r.chain q.chain }

  -- an end without a value
  pub runs_ends : {A B : Type 0} {old new : S} (t : Tree s A) (go : A → Tree s B) (e : Option s.Refusal) → Behaves rules step says old t (without_value e) new
      → Behaves rules step says old (bind t go) (without_value e) new
  runs_ends t go e r = record { events = r.events; path = path_ends go e r.path; chain = r.chain }

  pub runs_ask : {A : Type 0} {old mid new : S} (q : s.Question) (next : s.Answer → Tree s A) (a : s.Answer) {o : Outcome s.Refusal A} → step old q a mid
      → Behaves rules step says mid (next a) o new → Behaves rules step says old (ask q next) o new
  runs_ask q next a s r = record { events = Asked q a ∷ r.events; path = Asks r.path; chain = (_, s, r.chain) }

  -- a note that the rules allow, and one that they refuse
  pub runs_note : {A : Type 0} {old new : S} {x : s.Note} {t : Tree s A} {o : Outcome s.Refusal A} → rules x ≡ None → Behaves rules step says old t o new
      → Behaves rules step says old (note x t) o new
  runs_note {x = x} e r = record { events = Noted x ∷ r.events; path = Notes e r.path; chain = r.chain }

  pub runs_shut : {A : Type 0} {h : S} {x : s.Note} {t : Tree s A} {r : s.Refusal} → rules x ≡ Some r → Behaves rules step says h (note x t) (Refused r) h
  runs_shut e = record { events = []; path = Shuts e; chain = refl }

  -- the first branch, or the second
  pub runs_then : {A : Type 0} {old new : S} {o : Outcome s.Refusal A} (b : Bool) (x y : Tree s A) → b ≡ true → Behaves rules step says old x o new
      → Behaves rules step says old (if b then x else y) o new
  runs_then {old = old} {new = new} {o = o} b x y e r = subst (λ t. Behaves rules step says old (if t then x else y) o new) (sym e) r

  pub runs_else : {A : Type 0} {old new : S} {o : Outcome s.Refusal A} (b : Bool) (x y : Tree s A) → b ≡ false → Behaves rules step says old y o new
      → Behaves rules step says old (if b then x else y) o new
  runs_else {old = old} {new = new} {o = o} b x y e r = subst (λ t. Behaves rules step says old (if t then x else y) o new) (sym e) r

  -- one check, and the outcome for its verdict
  pub runs_check : {A : Type 0} {h : S} (p : s.Subject) (v : s.Value) (a : s.Verdict) (next : s.Verdict → Outcome s.Refusal A) → says p v a
      → Behaves rules step says h (check p v (λ b. done (next b))) (next a) h
  runs_check p v a next given = record { events = Checked p v a ∷ []; path = Checks Ends; chain = (given, refl) }

  -- a run that checks nothing
  pub runs_checked : {A : Type 0} {old new : S} {t : Tree s A} {o : Outcome s.Refusal A} → Behaves rules step (unchecked s) old t o new
      → Behaves rules step says old t o new
  runs_checked {old = old} {new = new} r = record { events = r.events; path = r.path; chain = chain_checked step says old new r.events r.chain }

  pub answers_of : {A : Type 0} {old new : S} {t : Tree s A} {o : Outcome s.Refusal A} → Behaves rules step says old t o new → GoesByAnswers s step old new
  answers_of {old = old} {new = new} r = chain_answers step says old new r.events r.chain
