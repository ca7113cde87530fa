-- Each event of an evaluation comes from a member that is reached: one recursion over the number of calls that may be
-- pending.
use Rattle.std.proofs.Common.{◌≡◌, ℕ, zero, suc, Bool, true, false, List, [], ◌∷◌, ◌++◌, if◌then◌else◌, Option, Some, None, refl, ap}
use Rattle.std.proofs.Common.{subst, nat_eq, length}
use Rattle.just_syntax.proofs.Lists.{all_in, each_in}
use Rattle.just_syntax.specs.Plain.{Expr, Exprs, Function, Text, Token, count}
use Rattle.just_syntax.specs.Plain as plain
use Rattle.just_syntax.specs.Lists.{IsIn}
use Rattle.just_value.specs.Value.{Names, Value}
use Rattle.just_value.specs.Frames.{value_in}
use Rattle.just_host.specs.Interaction.{Asked, Checked, Event, Noted, Tree, ask, bind, done, gives}
use Rattle.just_host.specs.Interaction as note
use Rattle.just_host.specs.Question.{Answer, command_question}
use Rattle.just_builtins.specs.Shape.{builtin_of, is_text}
use Rattle.just_builtins.specs.declared.function.Function as built_in
use Rattle.just_meaning.specs.Callee.{Callee, Defined, LeftOut, accepts, callee}
use Rattle.just_meaning.specs.Callee as callee
use Rattle.just_meaning.specs.Closings.{dynamic, inside, lexical}
use Rattle.just_meaning.specs.Meaning.{AtLimit, Deeper, Program, Row, Situation, WithinLimit, answered, as_it_is, built_in_call, called}
use Rattle.just_meaning.specs.Meaning.{command}
use Rattle.just_meaning.specs.Meaning.{eval, eval_row, one_text, texts_of, variable}
use Rattle.just_meaning.specs.Reaches.{function_at}
use Rattle.just_soundness.proofs.Forms.{holds_each}
use Rattle.just_reach.specs.Law.{ByBuiltIn, ByCommand, ComesFrom, IsAskedIn, IsScoped, Lexically, Dynamically}
use Rattle.just_reach.specs.Member.{PlainMember, BuiltIn, Call, Command, Unknown, Variable, called_member, member_of}
use Rattle.just_reach.specs.Reached.{OccursAt}
use Rattle.just_reach.proofs.Asking.{IsAskedBy, IsQuestion, built_in_asks}
use Rattle.just_reach.proofs.Calls.{defined_is}
use Rattle.just_interaction.proofs.Events.{AllEvents, events_bind, events_if, events_path, events_traces}

-- ---- expressions

-- what occurs in the body of a called function is reached
abbrev pub IsClosed : List Function → (PlainMember → Type 0) → Type 0
IsClosed functions reached = (t : Token) (f : Function) → reached (Call t) → function_at functions t.lexeme ≡ Some f → (x : PlainMember)
    → OccursAt functions f.body x → reached x

module _ (c : Program) (environment : List (Text × Text)) (reached : PlainMember → Type 0) where
  abbrev Covers : {A : Type 0} → Tree A → Type 0
  Covers t = AllEvents (ComesFrom c environment reached) t

  -- what occurs is reached
  abbrev AllReached : (PlainMember → Type 0) → Type 0
  AllReached occurs = (x : PlainMember) → occurs x → reached x

  covers_bind : {A B : Type 0} (t : Tree A) (go : A → Tree B) → Covers t → ((a : A) → Covers (go a)) → Covers (bind t go)
  covers_bind t go h k = events_bind (ComesFrom c environment reached) t go h k

  covers_if : {A : Type 0} (b : Bool) (t u : Tree A) → Covers t → Covers u → Covers (if b then t else u)
  covers_if b t u h k = events_if (ComesFrom c environment reached) b t u h k

  -- the bodies of called functions are covered
  abbrev RunsCovered : Deeper → Type 0
  RunsCovered AtLimit = Unit {0}
  RunsCovered (WithinLimit run) = (t : Token) (f : Function) (s : Situation) (vs : List Value) → reached (Call t) → function_at c.functions t.lexeme ≡ Some f
      → s.environment ≡ environment → Covers (run f s vs)

  -- a value is passed to a covered tree
  abbrev IsRowCovered : Row → Type 0
  IsRowCovered row = (look : ℕ → Value → Tree Value) → ((i : ℕ) (v : Value) → Covers (look i v)) → Covers (row look)

  one_text_covered : (t : Token) (v : Value) → Covers (one_text t v)
  one_text_covered t [] = tt
  one_text_covered t (text ∷ []) = tt
  one_text_covered t (text ∷ further ∷ rest) = tt

  module _ (d : Deeper) (runs : RunsCovered d) (s : Situation) (same : s.environment ≡ environment) where
    command_covered : (text : Text) (t : Token) → reached (Command t text) → Covers (command c.fixed s text t)
    command_covered text t fit = ((Command t text, fit, refl), by c.fixed.config.dry_run refl)
      where
        by : (b : Bool) → c.fixed.config.dry_run ≡ b → Covers (if b then gives (((96 ∷ text) ++ 96 ∷ []) ∷ [])
            else ask (command_question c.fixed s.environment s.shown text None) (λ a. done (answered t a)))
        by true on = tt
        by false off = λ a. (
          (Command t text, fit, ByCommand t text s.shown off (ap (λ (e : List (Text × Text)). command_question c.fixed e s.shown text None) same)),
          tt,
        )

    variable_covered : (t : Token) (number : Option ℕ) → reached (Variable t number) → Covers (variable t number s.names)
    variable_covered t None fit = tt
    variable_covered t (Some n) fit = ((Variable t (Some n), fit, refl), tt)

    built_in_covered : (t : Token) (f : built_in.Function) (vs : List Value) → reached (BuiltIn t f) → Covers (built_in_call c s t f vs)
    built_in_covered t f vs fit =
        let asks = IsQuestion (IsAskedBy (builtin_of f)) in
        events_traces (ComesFrom c environment reached) (built_in_call c s t f vs) (λ es o p. all_in (ComesFrom c environment reached) es
        (λ x i. by x (each_in asks es (events_path asks p (built_in_asks c s t f vs)) x i)
        (λ q a is. record { events = es; outcome = o; path = p; answer = a; asked = subst (IsIn es) is i })))
      where
        by : (x : Event) → IsQuestion (IsAskedBy (builtin_of f)) x → ((q : _) (a : Answer) → x ≡ Asked q a → IsAskedIn (built_in_call c s t f vs) q)
            → ComesFrom c environment reached x
        by (Asked q a) asks from = (BuiltIn t f, fit, ByBuiltIn t f s vs same (from q a refl))
        by (Noted n) asks from = absurd asks
        by (Checked p v a) asks from = absurd asks

    defined_covered : (t : Token) (f : Function) (n : ℕ) (row : Row) → reached (Call t) → function_at c.functions t.lexeme ≡ Some f → IsRowCovered row
        → Covers (called c t (Defined f) d s n row)
    defined_covered t f n row fit found rows = by d runs
      where
        by : (e : Deeper) → RunsCovered e → Covers (called c t (Defined f) e s n row)
        by AtLimit covered = tt
        by (WithinLimit run) covered = covers_if (nat_eq n (length f.parameters)) _ _
            (covers_bind (row as_it_is) (run f s) (rows as_it_is (λ i v. tt)) (λ vs. covered t f s vs fit found same)) tt

    call_covered : (t : Token) (n : ℕ) (row : Row) (k : Callee) → callee c.functions t.lexeme ≡ k → reached (called_member k t) → IsRowCovered row
        → Covers (called c t k d s n row)
    call_covered t n row (Defined f) is fit rows = defined_covered t f n row fit (defined_is c.functions t.lexeme f is) rows
    call_covered t n row (callee.BuiltIn f) is fit rows = covers_if (accepts (callee.BuiltIn f) n) _ _
        (covers_bind (row (texts_of f t)) (built_in_call c s t f)
        (rows (texts_of f t) (λ i v. covers_if (is_text f i) (one_text t v) (gives v) (one_text_covered t v) tt)) (λ vs. built_in_covered t f vs fit)) tt
    call_covered t n row LeftOut is fit rows = tt
    call_covered t n row callee.Unknown is fit rows = tt

    -- the note of a call
    entered : (t : Token) (k : Callee) → reached (called_member k t) → ComesFrom c environment reached (Noted (note.Entered t))
    entered t (Defined f) fit = (Call t, fit, refl)
    entered t (callee.BuiltIn f) fit = (BuiltIn t f, fit, refl)
    entered t LeftOut fit = (Unknown t, fit, refl)
    entered t callee.Unknown fit = (Unknown t, fit, refl)

    pub expression_covered : (e : Expr) → AllReached (OccursAt c.functions e) → Covers (eval c d s e)
    expression_covered e fit =
        holds_each (λ A t. Covers t) (λ A a. tt) (λ A B t go h k. covers_bind t go h k)
        (record { assertion = λ message t. tt; operation = λ l o r t. tt; regex = λ t. tt }) c d s
        (λ x o. member_of c.functions o ≡ x) reached (λ text t fit. command_covered text t (fit (Command t text) refl)) calls
        (λ number t fit. variable_covered t number (fit (Variable t number) refl)) e fit
      where
        calls : (t : Token) (es : Exprs) → AllReached (λ x. called_member (callee c.functions t.lexeme) t ≡ x) → IsRowCovered (eval_row c d s 0 es)
            → Covers (eval c d s (plain.Call t es))
        calls t es fit rows =
            let k = callee c.functions t.lexeme in
            let here = fit (called_member k t) refl in
            (entered t k here, call_covered t (count es) (eval_row c d s 0 es) k refl here rows)

  -- ---- bodies

  module _ (closed : IsClosed c.functions reached) where
    lexically_covered : (base : Names) (n : ℕ) → RunsCovered (lexical c base n)
    lexically_covered base zero = tt
    lexically_covered base (suc n) = λ t f s vs fit found same.
        expression_covered (lexical c base n) (lexically_covered base n) (inside base s f vs) same f.body (closed t f fit found)

    dynamically_covered : (n : ℕ) → RunsCovered (dynamic c n)
    dynamically_covered zero = tt
    dynamically_covered (suc n) = λ t f s vs fit found same.
        expression_covered (dynamic c n) (dynamically_covered n) (inside (value_in s.below) s f vs) same f.body (closed t f fit found)

    pub scoped_covered : (d : Deeper) → IsScoped c d → (s : Situation) → s.environment ≡ environment → (e : Expr) → AllReached (OccursAt c.functions e)
        → Covers (eval c d s e)
    scoped_covered d (Lexically base n) s same e fit = expression_covered (lexical c base n) (lexically_covered base n) s same e fit
    scoped_covered d (Dynamically n) s same e fit = expression_covered (dynamic c n) (dynamically_covered n) s same e fit
