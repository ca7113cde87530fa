-- Under the const rules nothing is asked, and few refusals occur.
use Rattle.std.proofs.Common.{◌≡◌, ℕ, Bool, true, false, List, if◌then◌else◌, Option, Some, None, refl, sym, subst}
use Rattle.just_syntax.specs.Plain.{Text, Token, Expr}
use Rattle.just_value.specs.ConstEval.{IsConstEval}
use Rattle.just_value.specs.ConstRefusal as constants
use Rattle.just_value.specs.ConstRefusal.{ConstRefusal}
use Rattle.just_value.specs.Value.{Value, Names}
use Rattle.just_value.specs.Refusal.{Refusal, Const}
use Rattle.just_value.specs.Outcome.{Outcome, Gave, Refused, Stopped, UnlessStopped}
use Rattle.just_host.specs.Interaction.{Note, Event, Read, Entered, Command, Tree, done, ask, note, check, bind, Path, Ends, Stops, Asks, Notes, Checks, Shuts}
use Rattle.just_host.specs.Interaction.{Chain, Step, Behaves, unchecked}
use Rattle.just_meaning.specs.Constant.{constant, constantly, unless_refused}
use Rattle.just_meaning.specs.Internal.{IfRefused}
use Rattle.just_syntax.specs.Occurrences.{CallOf, CommandOf, Mention, VariableOf}
use Rattle.just_meaning.specs.Reaches.{Occurs}
use Rattle.just_meaning.specs.Meaning.{Program, Situation, Deeper, eval, named, variable}
use Rattle.just_meaning.specs.Module.{or_override}
use Rattle.just_soundness.proofs.Forms.{IsCongruence, OfForms, related_eval}

-- Under the const rules the tree reaches no question and no check, and each of its refusals has this property.
abbrev pub AllConst : {A : Type 0} → (Refusal → Type 0) → (ℕ → Bool) → Tree A → Type 0
AllConst P is_open (done o) = IfRefused P o
AllConst P is_open (ask q next) = ⊥
AllConst P is_open (check p v next) = ⊥
AllConst P is_open (note x rest) = constantly is_open x ≡ None → AllConst P is_open rest

-- the refusals of a variable with no value have this property
abbrev pub Fine : (Refusal → Type 0) → (ℕ → Bool) → Names → Mention → Type 0
Fine P is_open names (CommandOf text) = Unit {0}
Fine P is_open names (VariableOf number) = (t : Token) → AllConst P is_open (variable t number names)
Fine P is_open names (CallOf f n) = Unit {0}

module _ (P : Refusal → Type 0) (is_open : ℕ → Bool) where
  pub const_bind : {A B : Type 0} (t : Tree A) (go : A → Tree B) → AllConst P is_open t → ((a : A) → AllConst P is_open (go a)) → AllConst P is_open (bind t go)
  const_bind (done (Gave a)) go h k = k a
  const_bind (done (Refused r)) go h k = h
  const_bind (done Stopped) go h k = tt
  const_bind (ask q next) go h k = absurd h
  const_bind (check p v next) go h k = absurd h
  const_bind (note x rest) go h k = λ e. const_bind rest go (h e) k

  pub const_congruence : IsCongruence (λ A t u. AllConst P is_open t)
  const_congruence = record { gave = λ A a. tt; bound = λ A B t u go on h k. const_bind t go h k }

  module _ (allows : OfForms P) where
    module _ (c : Program) (d : Deeper) (s : Situation) where
      -- a call and a command are refused before any of their parts is evaluated
      pub const_eval : (e : Expr) → ((x : Mention) → Occurs e x → Fine P is_open s.names x) → AllConst P is_open (eval c d s e)
      const_eval = related_eval (λ A t u. AllConst P is_open t) const_congruence allows
          c c d d s s refl (Fine P is_open s.names) (λ text t. λ e. absurd (cc)) (λ t es fine row. λ e. absurd (cc)) (λ number fine t. fine t)

  pub const_override : (o : Option Text) (t : Tree Value) → AllConst P is_open t → AllConst P is_open (or_override o t)
  const_override (Some text) t h = tt
  const_override None t h = h

  -- the outcome of such a tree has this property, or is a refusal of the const rules
  const_unless : {A : Type 0} (r : Option Refusal) (o : Outcome A) → ((s : Refusal) → r ≡ Some s → P s) → (r ≡ None → IfRefused P o)
      → IfRefused P (unless_refused r o)
  const_unless (Some r) o h k = h r refl
  const_unless None o h k = k refl

  pub const_refused : {A : Type 0} (t : Tree A) → ((x : Note) (s : Refusal) → constantly is_open x ≡ Some s → P s) → AllConst P is_open t
      → IfRefused P (constant is_open t)
  const_refused (done o) shut h = h
  const_refused (ask q next) shut h = absurd h
  const_refused (check p v next) shut h = absurd h
  const_refused (note x rest) shut h = const_unless (constantly is_open x) (constant is_open rest) (shut x) (λ e. const_refused rest shut (h e))

  -- unless it is stopped, a trace of such a tree ends with the tree's outcome and asks nothing
  pub const_path : {A : Type 0} (t : Tree A) {es : List Event} {o : Outcome A} → AllConst P is_open t → Path (constantly is_open) t es o
      → UnlessStopped o (constant is_open t)
  const_path (done (Gave a)) h Ends = refl
  const_path (done (Refused r)) h Ends = refl
  const_path (done Stopped) h Ends = tt
  const_path t h Stops = tt
  const_path (ask q next) h (Asks p) = absurd h
  const_path (check p v next) h (Checks q) = absurd h
  const_path (note x rest) {o = o} h (Notes e p) = subst (λ r. UnlessStopped o (unless_refused r (constant is_open rest))) (sym e) (const_path rest (h e) p)
  const_path (note x rest) h (Shuts {r = r} e) = subst (λ s. UnlessStopped (Refused r) (unless_refused s (constant is_open rest))) (sym e) refl

  pub const_asks_nothing : {A S : Type 0} (step : Step S) (old new : S) (t : Tree A) {es : List Event} {o : Outcome A} → AllConst P is_open t
      → Path (constantly is_open) t es o → Chain step unchecked old es new → old ≡ new
  const_asks_nothing step old new t h Ends chain = chain
  const_asks_nothing step old new t h Stops chain = chain
  const_asks_nothing step old new (ask q next) h (Asks p) chain = absurd h
  const_asks_nothing step old new (check p v next) h (Checks q) chain = absurd h
  const_asks_nothing step old new (note x rest) h (Notes e p) chain = const_asks_nothing step old new rest (h e) p chain
  const_asks_nothing step old new (note x rest) h (Shuts e) chain = chain

-- ---- constant evaluation has few refusals

-- the refusal, if there is one, has this property
abbrev pub OfSome : (Refusal → Type 0) → Option Refusal → Type 0
OfSome P (Some r) = P r
OfSome P None = Unit {0}

allows_all : OfForms IsConstEval
allows_all = record { assertion = λ message t. tt; operation = λ l o r t. tt; regex = λ t. tt }

-- the refusals of the const rules themselves
pub shut_such : (P : Refusal → Type 0) → ((c : ConstRefusal) → P (Const c)) → (is_open : ℕ → Bool) (x : Note) (s : Refusal)
    → constantly is_open x ≡ Some s → P s
shut_such P const is_open (Read t n) s e = by (is_open n) e
  where
    by : (b : Bool) → (if b then Some (Const (constants.Variable t)) else None) ≡ Some s → P s
    by true e = subst (OfSome P) e (const (constants.Variable t))
    by false e = absurd (cc)
shut_such P const is_open (Entered t) s e = subst (OfSome P) e (const (constants.FunctionCall t))
shut_such P const is_open (Command t) s e = subst (OfSome P) e (const (constants.Backtick t))
shut_such P const is_open _ s e = absurd (cc)

named_alike : (is_open : ℕ → Bool) (t : Token) (o : Option Value) → AllConst IsConstEval is_open (done (named t o))
named_alike is_open t None = tt
named_alike is_open t (Some v) = tt

fine_alike : (is_open : ℕ → Bool) (names : Names) (x : Mention) → Fine IsConstEval is_open names x
fine_alike is_open names (CommandOf text) = tt
fine_alike is_open names (VariableOf None) = λ t. tt
fine_alike is_open names (VariableOf (Some n)) = λ t e. named_alike is_open t (names n)
fine_alike is_open names (CallOf f n) = tt

pub eval_alike : (is_open : ℕ → Bool) (c : Program) (d : Deeper) (s : Situation) (e : Expr) → AllConst IsConstEval is_open (eval c d s e)
eval_alike is_open c d s e = const_eval IsConstEval is_open allows_all c d s e (λ x h. fine_alike is_open s.names x)

-- each run of a tree that asks nothing determines the tree's outcome
pub record HasConstOutcome {S A : Type 0} (is_open : ℕ → Bool) (t : Tree A) (o : Outcome A) (old new : S) : Type 0 where
  pub determined : UnlessStopped o (constant is_open t)
  pub still : old ≡ new
  pub few : IfRefused IsConstEval o

-- an outcome that equals the expected one has no further refusals
pub unless_such : {A : Type 0} (P : Refusal → Type 0) (o w : Outcome A) → UnlessStopped o w → IfRefused P w → IfRefused P o
unless_such P (Gave a) w e h = tt
unless_such P (Refused r) w e h = subst (IfRefused P) (sym e) h
unless_such P Stopped w e h = tt

pub const_outcome : {S A : Type 0} {step : Step S} {old new : S} (is_open : ℕ → Bool) (t : Tree A) (o : Outcome A) → AllConst IsConstEval is_open t
    → Behaves (constantly is_open) step unchecked old t o new → HasConstOutcome is_open t o old new
const_outcome {step = step} {old = old} {new = new} is_open t o h r =
    let determined = const_path IsConstEval is_open t h r.path in
    record {
      determined = determined;
      still = const_asks_nothing IsConstEval is_open step old new t h r.path r.chain;
      few = unless_such IsConstEval o _ determined (const_refused IsConstEval is_open t (shut_such IsConstEval (λ c. tt) is_open) h);
    }
