-- The marks in a run's trace are those of its turns: no expression makes one. So its blocks follow the rules of a run.
use Rattle.std.proofs.Common.{◌≡◌, ⊎_elim, inl, inr, ℕ, zero, suc, ◌-◌, Bool, true, false, List, [], ◌∷◌, ◌++◌, length, nat_eq, Option, Some, None}
use Rattle.std.proofs.Common.{refl, sym, ap, ◌∙◌, subst}
use Rattle.std.proofs.lemmas.List.{append-nil}
use Rattle.std.specs.List.{AllByRecursion}
use Rattle.just_interaction.proofs.Events.{AllEvents, events_bind, events_if, events_path}
use Rattle.just_syntax.specs.Plain.{Text, Token, Assignment, Expr, Function, count}
use Rattle.just_syntax.specs.Lists.{IsIn}
use Rattle.just_syntax.proofs.Lists.{in_append}
use Rattle.just_value.specs.Value.{Value, Names}
use Rattle.just_value.specs.Frames.{Frames, value_in}
use Rattle.just_value.specs.Outcome.{Outcome, Gave, Refused, Stopped}
use Rattle.just_host.specs.Interaction as interaction
use Rattle.just_host.specs.Interaction.{Begins, Event, Noted, Path, Tree, freely}
use Rattle.just_builtins.specs.Called.{Called, Returned, Said, tree}
use Rattle.just_builtins.specs.Meaning.{reply}
use Rattle.just_builtins.specs.Reply as replies
use Rattle.just_builtins.specs.Reply.{FunctionReply}
use Rattle.just_builtins.specs.Shape.{builtin_of, is_text}
use Rattle.just_meaning.specs.Blocks.{Block, blocks_of, ending, events_of, up_to_mark}
use Rattle.just_meaning.specs.Callee.{Callee, Defined, BuiltIn, LeftOut, Unknown, accepts, callee}
use Rattle.just_meaning.specs.Closings.{dynamic, inside, lexical}
use Rattle.just_meaning.specs.Meaning.{Program, Situation, Deeper, AtLimit, WithinLimit, Row, argument, as_it_is, built_in_call, built_in_context, called}
use Rattle.just_meaning.specs.Meaning.{eval, eval_row, returned, texts_of, variable}
use Rattle.just_meaning.specs.Module.{Module, Closing, assigned, dynamically, lexically, or_override, run, situation_at}
use Rattle.just_soundness.proofs.Forms.{holds_eval}
use Rattle.just_soundness.proofs.Running.{Running, Finished, Passes, Skips, Binds, Breaks, Halts, by_rules, marked}
use Rattle.just_soundness.proofs.Running as running

-- the event is no mark
abbrev pub IsNoMark : Event → Type 0
IsNoMark (Noted (Begins n)) = ⊥
IsNoMark (Noted (interaction.Binds n v)) = ⊥
IsNoMark _ = Unit {0}

-- ---- trees without marks

-- each event of each trace is plain
abbrev pub IsUnmarked : {A : Type 0} → Tree A → Type 0
IsUnmarked t = AllEvents IsNoMark t

-- ---- expressions

unmarked_reply : (shown : Frames) (r : FunctionReply) → IsUnmarked (tree shown r)
unmarked_reply shown (replies.Answers v) = tt
unmarked_reply shown (replies.Fails message) = tt
unmarked_reply shown (replies.Asks q next) = λ a. (tt, unmarked_reply shown (next a))
unmarked_reply shown replies.Stops = tt

unmarked_returned : (t : Token) (r : Called) → IsUnmarked (returned t r)
unmarked_returned t (Returned v) = tt
unmarked_returned t (Said message) = tt

unmarked_argument : (is_text : Bool) (t : Token) (v : Value) → IsUnmarked (argument is_text t v)
unmarked_argument false t v = tt
unmarked_argument true t [] = tt
unmarked_argument true t (text ∷ []) = tt
unmarked_argument true t (text ∷ next ∷ texts) = tt

abbrev IsUnmarkedDeeper : Deeper → Type 0
IsUnmarkedDeeper AtLimit = Unit {0}
IsUnmarkedDeeper (WithinLimit go) = (f : Function) (s : Situation) (vs : List Value) → IsUnmarked (go f s vs)

-- each look at a value is unmarked, and so is the row
abbrev IsUnmarkedRow : Row → Type 0
IsUnmarkedRow row = (look : ℕ → Value → Tree Value) → ((i : ℕ) (v : Value) → IsUnmarked (look i v)) → IsUnmarked (row look)

unmarked_called : (c : Program) (t : Token) (what : Callee) (d : Deeper) (s : Situation) (n : ℕ) (row : Row) → IsUnmarkedDeeper d → IsUnmarkedRow row
    → IsUnmarked (called c t what d s n row)
unmarked_called c t (Defined f) AtLimit s n row h k = tt
unmarked_called c t (Defined f) (WithinLimit go) s n row h k =
    events_if IsNoMark (nat_eq n (length f.parameters)) _ _ (events_bind IsNoMark (row as_it_is) (go f s) (k as_it_is (λ i v. tt)) (h f s)) tt
unmarked_called c t (BuiltIn f) d s n row h k =
    events_if IsNoMark (accepts (BuiltIn f) n) _ _
    (events_bind IsNoMark (row (texts_of f t)) (built_in_call c s t f) (k (texts_of f t) (λ i v. unmarked_argument (is_text f i) t v))
    (λ vs. let r = reply (builtin_of f) (built_in_context c s t) vs in
    events_bind IsNoMark (tree s.shown r) (returned t) (unmarked_reply s.shown r) (unmarked_returned t)))
    tt
unmarked_called c t LeftOut d s n row h k = tt
unmarked_called c t Unknown d s n row h k = tt

unmarked_variable : (s : Situation) (number : Option ℕ) → Unit {0} → (t : Token) → IsUnmarked (variable t number s.names)
unmarked_variable s None fit t = tt
unmarked_variable s (Some n) fit t = (tt, tt)

unmarked_eval : (c : Program) (d : Deeper) → IsUnmarkedDeeper d → (s : Situation) (e : Expr) → IsUnmarked (eval c d s e)
unmarked_eval c d h s e =
    holds_eval (λ A t. IsUnmarked t) (λ A a. tt) (λ A B t go h k. events_bind IsNoMark t go h k)
    (record { assertion = λ message t. tt; operation = λ l o r t. tt; regex = λ t. tt }) c d s (λ x. Unit {0})
    (λ text t. (tt, events_if IsNoMark c.fixed.config.dry_run _ _ tt (λ a. (tt, tt))))
    (λ t es fit row. (tt, unmarked_called c t (callee c.functions t.lexeme) d s (count es) (eval_row c d s 0 es) h row)) (unmarked_variable s) e (λ x y. tt)

unmarked_lexical : (c : Program) (base : Names) (k : ℕ) → IsUnmarkedDeeper (lexical c base k)
unmarked_lexical c base zero = tt
unmarked_lexical c base (suc k) = λ f s vs. unmarked_eval c (lexical c base k) (unmarked_lexical c base k) (inside base s f vs) f.body

unmarked_dynamic : (c : Program) (k : ℕ) → IsUnmarkedDeeper (dynamic c k)
unmarked_dynamic c zero = tt
unmarked_dynamic c (suc k) = λ f s vs. unmarked_eval c (dynamic c k) (unmarked_dynamic c k) (inside (value_in s.below) s f vs) f.body

-- ---- assignments

unmarked_override : (o : Option Text) (t : Tree Value) → IsUnmarked t → IsUnmarked (or_override o t)
unmarked_override (Some text) t h = tt
unmarked_override None t h = h

-- the values of assignments are unmarked
abbrev pub IsUnmarkedClosing : Closing → Type 0
IsUnmarkedClosing closing = (m : Module) (frames : Frames) (a : Assignment) → IsUnmarked (assigned closing m frames a)

pub unmarked_lexically : IsUnmarkedClosing lexically
unmarked_lexically m frames a =
    unmarked_override (m.overrides a.number) _ (unmarked_eval m.program (lexically m frames)
    (unmarked_lexical m.program (value_in frames) (m.limit - 1)) (situation_at m.program.fixed.settings.lists frames) a.value)

pub unmarked_dynamically : IsUnmarkedClosing dynamically
unmarked_dynamically m frames a =
    unmarked_override (m.overrides a.number) _ (unmarked_eval m.program (dynamically m frames)
    (unmarked_dynamic m.program (m.limit - 1)) (situation_at m.program.fixed.settings.lists frames) a.value)

-- ---- the blocks of marked events

up_after : (es fs : List Event) → AllByRecursion IsNoMark es → up_to_mark (es ++ fs) ≡ es ++ up_to_mark fs
up_after [] fs h = refl
up_after (Noted (Begins n) ∷ es) fs h = absurd h.0
up_after (Noted (interaction.Binds n v) ∷ es) fs h = absurd h.0
up_after (e ∷ es) fs h = ap (λ gs. e ∷ gs) (up_after es fs h.1)

ending_after : (es fs : List Event) (o : Outcome Frames) → AllByRecursion IsNoMark es → ending (es ++ fs) o ≡ ending fs o
ending_after [] fs o h = refl
ending_after (Noted (Begins n) ∷ es) fs o h = absurd h.0
ending_after (Noted (interaction.Binds n v) ∷ es) fs o h = absurd h.0
ending_after (e ∷ es) fs o h = ending_after es fs o h.1

blocks_after : (es fs : List Event) (o : Outcome Frames) → AllByRecursion IsNoMark es → blocks_of (es ++ fs) o ≡ blocks_of fs o
blocks_after [] fs o h = refl
blocks_after (Noted (Begins n) ∷ es) fs o h = absurd h.0
blocks_after (Noted (interaction.Binds n v) ∷ es) fs o h = absurd h.0
blocks_after (e ∷ es) fs o h = blocks_after es fs o h.1

-- the first block, if nothing but plain events is before its end
first_block : (n : ℕ) (es fs : List Event) (o : Outcome Frames) → AllByRecursion IsNoMark es → up_to_mark fs ≡ []
    → blocks_of (Noted (Begins n) ∷ (es ++ fs)) o ≡ record { number = n; events = es; outcome = ending fs o } ∷ blocks_of fs o
first_block n es fs o h none = λ i.
    record {
      number = n;
      events = (up_after es fs h ∙ ap (λ gs. es ++ gs) none ∙ append-nil es) i;
      outcome = ending_after es fs o h i;
    } ∷ blocks_after es fs o h i

module _ (closing : Closing) (unmarked : IsUnmarkedClosing closing) (m : Module) where
  -- the blocks of what follows the rules, with the marks, are its blocks
  blocks_marked : {frames : Frames} {left : List Token} {bs : List Block} {o : Outcome Frames} → Running closing m frames left bs o
      → blocks_of (marked bs) o ≡ bs
  blocks_marked Finished = refl
  blocks_marked running.Stops = refl
  blocks_marked (running.Unknown f) = refl
  blocks_marked (Passes a f e r) = blocks_marked r
  blocks_marked (Skips a b f e g r) = blocks_marked r
  blocks_marked {frames = frames} {o = o} (Binds {bs = bs} a es v k p r) =
      first_block a.number es (Noted (interaction.Binds a.number v) ∷ marked bs) o (events_path IsNoMark p (unmarked m frames a)) refl
      ∙ ap (λ cs. record { number = a.number; events = es; outcome = Gave v } ∷ cs) (blocks_marked r)
  blocks_marked {frames = frames} (Breaks a es s k p) =
      first_block a.number es [] (Refused s) (events_path IsNoMark p (unmarked m frames a)) refl
  blocks_marked {frames = frames} (Halts a es k p) =
      first_block a.number es [] Stopped (events_path IsNoMark p (unmarked m frames a)) refl

  -- the blocks of a trace follow the rules
  pub blocks_run : (frames : Frames) (names : List Token) {es : List Event} {o : Outcome Frames} → Path freely (run closing m frames names) es o
      → Running closing m frames names (blocks_of es o) o
  blocks_run frames names {o = o} path =
      let k = by_rules closing m frames names path in
      subst (λ bs. Running closing m frames names bs o) (sym (blocks_marked k.rules) ∙ ap (λ es. blocks_of es o) k.same) k.rules

-- ---- the events of blocks

up_within : (es : List Event) (e : Event) → IsIn (up_to_mark es) e → IsIn es e
up_within [] e h = h
up_within (Noted (Begins n) ∷ es) e h = absurd h
up_within (Noted (interaction.Binds n v) ∷ es) e h = absurd h
up_within (x ∷ es) e (inl same) = inl same
up_within (x ∷ es) e (inr later) = inr (up_within es e later)

-- an event of a block is one of the trace
pub events_within : (es : List Event) (o : Outcome Frames) (e : Event) → IsIn (events_of (blocks_of es o)) e → IsIn es e
events_within [] o e h = h
events_within (Noted (Begins n) ∷ es) o e h =
    inr (⊎_elim (λ k. up_within es e k) (λ k. events_within es o e k) ((in_append (up_to_mark es) (events_of (blocks_of es o)) e).0 h))
events_within (x ∷ es) o e h = inr (events_within es o e h)
