-- Progress: a resolved module meets no refusal that is Internal.
use Rattle.std.proofs.Common.{◌≡◌, inl, inr, ◌⊎◌, ℕ, zero, suc, ◌-◌, Bool, true, false, List, [], ◌∷◌, length, map, nat_eq, if◌then◌else◌, Option, Some, None}
use Rattle.std.proofs.Common.{refl, sym, ◌∙◌, subst, arith}
use Rattle.std.proofs.lemmas.Bool.Decides.{nat_tests}
use Rattle.just_syntax.specs.Plain.{Text, Token, Assignment, Function, Expr, count}
use Rattle.just_syntax.specs.Lists.{IsIn}
use Rattle.just_value.specs.Value.{Value, Names}
use Rattle.just_value.specs.Frames.{Frame, Frames, value_in}
use Rattle.just_value.specs.Refusal.{Internal}
use Rattle.just_value.specs.Outcome.{Outcome}
use Rattle.just_host.specs.Interaction.{Tree, bind, refuses}
use Rattle.just_builtins.specs.Table.{function_named, is_left_out}
use Rattle.just_builtins.specs.declared.function.Function as built_in
use Rattle.just_meaning.specs.Callee.{Defined, BuiltIn, LeftOut, Accepts, accepts, built_in_or_unknown, callee, defined_or, undefined}
use Rattle.just_syntax.specs.Occurrences.{CallOf, CommandOf, Mention, VariableOf}
use Rattle.just_meaning.specs.Reaches.{function_at, IsAmong, Occurs, Reaches, Here, Reads, ReadsBeyond}
use Rattle.just_meaning.specs.Resolved.{IsKnown, AllKnown, HasValue, AreAssignments, AreInOrder}
use Rattle.just_meaning.specs.Messages.{miscounted_text}
use Rattle.just_meaning.specs.Meaning.{Program, Situation, Deeper, AtLimit, WithinLimit, Row, as_it_is, built_in_call, called, eval, named, texts_of}
use Rattle.just_meaning.specs.Closings.{inside, lexical}
use Rattle.just_meaning.specs.Blocks.{Block}
use Rattle.just_meaning.specs.Module.{IsResolvedModule, Module, assigned, bound_in, lexically, situation_at}
use Rattle.just_meaning.specs.Internal.{IsNotInternal}
use Rattle.just_meaning.proofs.Callees.{callable}
use Rattle.just_interaction.proofs.Ends.{AllEnd, ends_path}
use Rattle.just_soundness.proofs.Counts.{HasCount}
use Rattle.just_soundness.proofs.Bound.{bound_value}
use Rattle.just_soundness.proofs.Running.{Running, Finished, Stops, Unknown, Passes, Skips, Binds, Breaks, Halts}
use Rattle.just_soundness.proofs.ConstInternal.{IsOther}
use Rattle.just_soundness.proofs.Overlays.{parameters_have}
use Rattle.just_soundness.proofs.Taken.{AllHave, have_more, have_put, none_taken, order_on}
use Rattle.just_meaning.proofs.Reached.{reaches_on}
use Rattle.just_soundness.proofs.Reached.{known_found}
use Rattle.just_soundness.proofs.Refused.{IsRowRefused, MentionFits, Permits, refused_built_in, refused_eval, refused_override, refused_such}

-- ---- trees

-- no outcome of the tree is such a refusal
abbrev pub IsNeverInternal : {A : Type 0} → Tree A → Type 0
IsNeverInternal t = AllEnd IsNotInternal t

permits_others : Permits IsOther
permits_others = record {
  forms = record { assertion = λ message t none. none; operation = λ l o r t none. none; regex = λ t none. none };
  command = λ t f none. none;
  function = λ t message none. none;
  list = λ context v none. none;
}

-- ---- expressions

-- a call of one of these functions, with this many values, is never refused so
abbrev AreCallsSound : (Text → Type 0) → List Function → Situation → Deeper → Type 0
AreCallsSound C functions s AtLimit = Unit {0}
AreCallsSound C functions s (WithinLimit run) = (name : Text) (f : Function) (vs : List Value) → C name → function_at functions name ≡ Some f
    → length f.parameters ≡ length vs → IsNeverInternal (run f s vs)

-- what is read has a value, and what is called is one of these functions and takes the arguments
abbrev Holds : (Text → Type 0) → List Function → Names → Mention → Type 0
Holds C functions names (CommandOf text) = Unit {0}
Holds C functions names (VariableOf None) = ⊥
Holds C functions names (VariableOf (Some n)) = HasValue names n
Holds C functions names (CallOf f n) = C f × Accepts (callee functions f) n

module _ (c : Program) (d : Deeper) (s : Situation) (C : Text → Type 0) (sound : AreCallsSound C c.functions s d) where
  -- the name is one of these functions and takes this many arguments
  abbrev IsCallable : Text → ℕ → Type 0
  IsCallable f n = C f × Accepts (callee c.functions f) n

  defined_never : (t : Token) (n : ℕ) (row : Row) → C t.lexeme → AllEnd (HasCount n) (row as_it_is) → IsRowRefused IsOther row →
      (f : Function) → function_at c.functions t.lexeme ≡ Some f → n ≡ length f.parameters → (d' : Deeper) → AreCallsSound C c.functions s d'
      → IsNeverInternal (called c t (Defined f) d' s n row)
  defined_never t n row reached counted h f e count AtLimit sound' = λ none. none
  defined_never t n row reached counted h f e count (WithinLimit run) sound' =
      let yes' : nat_eq n (length f.parameters) ≡ true = grind (arith, nat_tests) in
      subst (λ b. IsNeverInternal (if b then bind (row as_it_is) (run f s) else refuses (Internal (miscounted_text t.lexeme) t))) (sym yes')
      (refused_such IsOther (HasCount n) (row as_it_is) (run f s) counted (h as_it_is (λ i v. tt)) (λ vs l. sound' t.lexeme f vs reached e (sym count ∙ sym l)))

  undefined_never : (t : Token) (n : ℕ) (row : Row) → IsRowRefused IsOther row → (out : Bool) (found : Option built_in.Function) → let other =
      if out then LeftOut else built_in_or_unknown found in Accepts other n → IsNeverInternal (called c t other d s n row)
  undefined_never t n row h true found fits = λ none. none
  undefined_never t n row h false None fits = absurd fits
  undefined_never t n row h false (Some f) fits =
      let yes' : accepts (BuiltIn f) n ≡ true = (callable (BuiltIn f) n).1 fits in
      subst (λ b. IsNeverInternal (if b then bind (row (texts_of f t)) (built_in_call c s t f) else refuses (Internal (miscounted_text t.lexeme) t))) (sym yes')
      (refused_built_in IsOther permits_others c s t f row h)

  called_never : (t : Token) (n : ℕ) (row : Row) → C t.lexeme → AllEnd (HasCount n) (row as_it_is) → IsRowRefused IsOther row →
      (found : Option Function) → function_at c.functions t.lexeme ≡ found → Accepts (defined_or found (undefined t.lexeme)) n
      → IsNeverInternal (called c t (defined_or found (undefined t.lexeme)) d s n row)
  called_never t n row reached counted h None e fits = undefined_never t n row h (is_left_out t.lexeme) (function_named t.lexeme) fits
  called_never t n row reached counted h (Some f) e fits = defined_never t n row reached counted h f e fits d sound

  holds_fit : (x : Mention) → Holds C c.functions s.names x → MentionFits IsOther IsCallable s.names x
  holds_fit (CommandOf text) h = tt
  holds_fit (VariableOf None) h = absurd h
  holds_fit (VariableOf (Some n)) h = λ t. subst (λ o. IsNotInternal (named t o)) (sym h.1) tt
  holds_fit (CallOf f n) h = h

  -- if everything that occurs in it satisfies this
  eval_never : (e : Expr) → ((x : Mention) → Occurs e x → Holds C c.functions s.names x) → IsNeverInternal (eval c d s e)
  eval_never e has =
      refused_eval IsOther permits_others c d s IsCallable
      (λ t n row call counted h. called_never t n row call.0 counted h (function_at c.functions t.lexeme) refl call.1)
      e (λ x occurs. holds_fit x (has x occurs))

-- ---- by the number of calls left

module _ (c : Program) (base : Names) (C : Text → Type 0) (known : AllKnown c.functions (map (λ f. f.body) c.functions))
    (closed : (name further : Text) (f : Function) (n : ℕ) → C name → function_at c.functions name ≡ Some f → Occurs f.body (CallOf further n) → C further)
    (held : (name : Text) (f : Function) (n : ℕ) → C name → function_at c.functions name ≡ Some f → Occurs f.body (VariableOf (Some n))
    → (IsAmong f.parameters n → ⊥) → HasValue base n) where
  -- under lexical scope every called function may be called
  lexical_sound : (k : ℕ) (s : Situation) → AreCallsSound C c.functions s (lexical c base k)
  lexical_sound zero s = tt
  lexical_sound (suc k) s = λ name f vs reached found fits.
      let inner = inside base s f vs in
      eval_never c (lexical c base k) inner C (lexical_sound k inner) f.body
      (λ x h. of_mention name f vs reached found fits x h (known_found c.functions (λ f. f.name.lexeme) (λ f. f.body) name c.functions f known found x h))
    where
      of_mention : (name : Text) (f : Function) (vs : List Value) → C name → function_at c.functions name ≡ Some f → length f.parameters ≡ length vs →
          (x : Mention) → Occurs f.body x → IsKnown c.functions x → Holds C c.functions (inside base s f vs).names x
      of_mention name f vs reached found fits (CommandOf text) h is = tt
      of_mention name f vs reached found fits (VariableOf None) h is = is
      of_mention name f vs reached found fits (VariableOf (Some n)) h is =
          parameters_have f.parameters vs base n fits (λ beyond. held name f n reached found h beyond)
      of_mention name f vs reached found fits (CallOf further n) h is = (closed name further f n reached found h, is)

-- if an expression reads by itself only what has a value, and through functions only what has one in the base
pub expression_never : (c : Program) (base : Names) (k : ℕ) (s : Situation) (e : Expr) → AllKnown c.functions (map (λ f. f.body) c.functions)
    → ((x : Mention) → Occurs e x → IsKnown c.functions x) →
    ((n : ℕ) → Occurs e (VariableOf (Some n)) → HasValue s.names n) → ((n : ℕ) → ReadsBeyond c.functions e n → HasValue base n)
    → IsNeverInternal (eval c (lexical c base k) s e)
expression_never c base k s e bodies known own beyond = eval_never c (lexical c base k) s (Reaches c.functions e) sound e (λ x h. of_mention x h (known x h))
  where
    sound : AreCallsSound (Reaches c.functions e) c.functions s (lexical c base k)
    sound = lexical_sound c base (Reaches c.functions e) bodies
        (λ name further f n reached found occurs. reaches_on c.functions f n reached found occurs)
        (λ name f n reached found occurs out. beyond n (record { name = name; function = f; reached = reached; found = found; occurs = occurs; beyond = out }))
        k s

    of_mention : (x : Mention) → Occurs e x → IsKnown c.functions x → Holds (Reaches c.functions e) c.functions s.names x
    of_mention (CommandOf text) h is = tt
    of_mention (VariableOf None) h is = is
    of_mention (VariableOf (Some n)) h is = own n h
    of_mention (CallOf f n) h is = (Here n h, is)

-- ---- runs

module _ (m : Module) (outer : Frames) (resolved : IsResolvedModule m outer) where
  assigned_never : (frame : Frame) (taken : List ℕ) (a : Assignment) → AllHave outer frame taken
      → ((x : Mention) → Occurs a.value x → IsKnown m.program.functions x) →
      ((n : ℕ) → Reads m.program.functions a.value n → IsIn taken n ⊎ HasValue (value_in outer) n) → IsNeverInternal (assigned lexically m (frame ∷ outer) a)
  assigned_never frame taken a have known reads =
      refused_override IsOther (m.overrides a.number) _
      (expression_never m.program (value_in (frame ∷ outer)) (m.limit - 1) (situation_at m.program.fixed.settings.lists (frame ∷ outer)) a.value
      resolved.bodies known
      (λ n h. have n (reads n (inl h))) (λ n h. have n (reads n (inr h))))

  run_not : (frame : Frame) (taken : List ℕ) {left : List Token} {bs : List Block} {o : Outcome Frames} → AreAssignments m.assignments left
      → AreInOrder m.program.functions m.assignments outer taken left → AllHave outer frame taken → Running lexically m (frame ∷ outer) left bs o
      → IsNotInternal o
  run_not frame taken named h have Finished = tt
  run_not frame taken named h have Stops = tt
  run_not frame taken named h have (Unknown f) = let some = named.0.1 in absurd (cc)
  run_not frame taken {left = t ∷ left} named h have (Passes a f e r) =
      run_not frame taken named.1 (order_on m.program.functions m.assignments outer taken t left a false f e h) have r
  run_not frame taken {left = t ∷ left} named h have (Skips a b f e g r) =
      run_not frame (a.number ∷ taken) named.1 (order_on m.program.functions m.assignments outer taken t left a true f e h)
      (have_more outer frame taken a.number (b.value, bound_value a.number (frame ∷ outer) b g) have) r
  run_not frame taken {left = t ∷ left} named h have (Binds a es v k p r) =
      run_not _ (a.number ∷ taken) named.1 (order_on m.program.functions m.assignments outer taken t left a true k.found k.referenced h)
      (have_put outer frame taken (bound_in m a v) have) r
  run_not frame taken {left = t ∷ left} named h have (Breaks a es s k p) =
      ends_path IsNotInternal tt (assigned lexically m (frame ∷ outer) a)
      (assigned_never frame taken a have (known_found m.program.functions (λ a. a.name.lexeme) (λ a. a.value) t.lexeme m.assignments.all a resolved.values
      k.found) (h.0 a k.found k.referenced)) p
  run_not frame taken named h have (Halts a es k p) = tt

-- a run of a resolved module is not refused as Internal
pub lexical_run_is_never_internal : (m : Module) (outer : Frames) (bs : List Block) (o : Outcome Frames) → IsResolvedModule m outer
    → Running lexically m ([] ∷ outer) m.assignments.order bs o → IsNotInternal o
lexical_run_is_never_internal m outer bs o resolved r =
    run_not m outer resolved [] [] resolved.named resolved.in_order (none_taken (HasValue (value_in ([] ∷ outer))) outer (λ n has. has)) r
