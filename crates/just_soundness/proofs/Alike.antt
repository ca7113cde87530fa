-- Non-interference of frames: trees that ask the same, frames aside, to the end or up to some notes.
use Rattle.std.proofs.Common.{◌≡◌, ◌≢◌, inl, inr, ℕ, zero, suc, Bool, true, false, List, [], ◌∷◌, length, Option, Some, None, nat_eq, if◌then◌else◌, refl, sym}
use Rattle.std.proofs.Common.{◌∙◌, subst, arith}
use Rattle.std.proofs.lemmas.Bool.Decides.{nat_tests}
use Rattle.just_syntax.specs.Plain.{Text, Token, Parameter, Function, Expr, Backtick, Call, Exprs, count}
use Rattle.just_value.specs.Value.{Value, Names}
use Rattle.just_value.specs.Frames.{Frames, over}
use Rattle.just_value.specs.Refusal.{Internal}
use Rattle.just_value.specs.Outcome.{Outcome, Gave, Refused, Stopped}
use Rattle.just_host.specs.Fixed.{Fixed}
use Rattle.just_host.specs.Question.{Question, Answer}
use Rattle.just_host.specs.Interaction as interaction
use Rattle.just_host.specs.Interaction.{Note, Event, Read, Tree, Verdict, done, ask, note, check, bind, refuses, Path, Ends, Stops, Notes, Checks, Shuts}
use Rattle.just_host.specs.Interaction.{freely}
use Rattle.just_builtins.specs.Called.{tree}
use Rattle.just_builtins.specs.Meaning.{reply}
use Rattle.just_builtins.specs.Reply as replies
use Rattle.just_builtins.specs.Reply.{FunctionReply}
use Rattle.just_builtins.specs.Shape.{builtin_of}
use Rattle.just_builtins.specs.Table.{function_named, is_left_out}
use Rattle.just_builtins.specs.declared.function.Function as built_in
use Rattle.just_meaning.specs.Callee.{Defined, BuiltIn, LeftOut, accepts, built_in_or_unknown, callee, defined_or, undefined}
use Rattle.just_syntax.specs.Occurrences.{CallOf, CommandOf, Mention, VariableOf}
use Rattle.just_meaning.specs.Reaches.{function_at, IsAmong, Occurs, Reaches, Here, ReadsBeyond}
use Rattle.just_meaning.specs.Meaning.{Program, Situation, Deeper, AtLimit, WithinLimit, Row, as_it_is, built_in_context, called, eval, eval_row, named}
use Rattle.just_meaning.specs.Meaning.{returned, texts_of, variable}
use Rattle.just_meaning.specs.Messages.{miscounted_text}
use Rattle.just_meaning.specs.Closings.{lexical, inside, with_parameters}
use Rattle.just_meaning.specs.Module.{or_override}
use Rattle.just_meaning.proofs.Reached.{reaches_on}
use Rattle.just_soundness.specs.Laws.{AreAnsweredAlike, AreSame, FramesDoNotMatter}
use Rattle.just_interaction.proofs.Ends.{AllEnd, ends_any}
use Rattle.just_soundness.proofs.Counts.{HasCount, row_counts}
use Rattle.just_soundness.proofs.Forms.{AreRowsRelated, related_eval}
use Rattle.just_soundness.proofs.Overlays.{parameters_same}

-- How far two trees are compared: to the end, or up to the first note at which they are closed. The closing notes of
-- each tree are given.
pub data Sight : Type 0 where
  Whole : Sight
  UpTo : (Note → Bool) → (Note → Bool) → Sight

abbrev pub IsWholeSight : Sight → Type 0
IsWholeSight Whole = Unit {0}
IsWholeSight (UpTo one other) = ⊥

abbrev pub ends_at : Sight → Note → Bool
ends_at Whole x = false
ends_at (UpTo one other) x = one x

-- what closes the one closes the other
abbrev pub IsSteady : Sight → Note → Type 0
IsSteady Whole x = Unit {0}
IsSteady (UpTo one other) x = one x ≡ other x

-- the same questions, frames aside, and the same outcomes
pub data Alike {A : Type 0} (m : Sight) : Tree A → Tree A → Type 0 where
  Done : {o : Outcome A} → Alike m (done o) (done o)
  Both : {q r : Question} {k l : Answer → Tree A} → IsWholeSight m → q.blind ≡ r.blind → ((a : Answer) → Alike m (k a) (l a)) → Alike m (ask q k) (ask r l)
  Same : {x : Note} {t u : Tree A} → IsSteady m x → (ends_at m x ≡ false → Alike m t u) → Alike m (note x t) (note x u)
  SameCheck : {p : Parameter} {v : Value} {k l : Verdict → Tree A} → IsWholeSight m → ((a : Verdict) → Alike m (k a) (l a))
      → Alike m (check p v k) (check p v l)

-- continues with the values that have this property
alike_such : {A B : Type 0} {m : Sight} (P : Outcome A → Type 0) {t u : Tree A} {k l : A → Tree B} → AllEnd P t → Alike m t u
    → ((v : A) → P (Gave v) → Alike m (k v) (l v)) → Alike m (bind t k) (bind u l)
alike_such P p (Done {o = Gave v}) h = h v p
alike_such P p (Done {o = Refused r}) h = Done
alike_such P p (Done {o = Stopped}) h = Done
alike_such P p (Both w e f) h = Both w e (λ a. alike_such P (p a) (f a) h)
alike_such P p (Same s f) h = Same s (λ e. alike_such P p (f e) h)
alike_such P p (SameCheck w f) h = SameCheck w (λ a. alike_such P (p a) (f a) h)

alike_bind : {A B : Type 0} {m : Sight} {t u : Tree A} {k l : A → Tree B} → Alike m t u → ((v : A) → Alike m (k v) (l v)) → Alike m (bind t k) (bind u l)
alike_bind {t = t} h k = alike_such (λ o. Unit {0}) (ends_any t) h (λ v such. k v)

alike_if : {A : Type 0} {m : Sight} (b : Bool) {t u t' u' : Tree A} → Alike m t t' → Alike m u u' → Alike m (if b then t else u) (if b then t' else u')
alike_if true h k = h
alike_if false h k = k

alike_itself : {A : Type 0} (t : Tree A) → Alike Whole t t
alike_itself (done o) = Done
alike_itself (ask q k) = Both tt refl (λ a. alike_itself (k a))
alike_itself (note x t) = Same tt (λ e. alike_itself t)
alike_itself (check p v k) = SameCheck tt (λ a. alike_itself (k a))

pub alike_override : {m : Sight} (o : Option Text) {t u : Tree Value} → (o ≡ None → Alike m t u) → Alike m (or_override o t) (or_override o u)
alike_override (Some text) h = Done
alike_override None h = h refl

-- ---- expressions

-- a situation with other names and frames
abbrev pub moved : Names → Frames → Frames → Situation → Situation
moved names shown below s =
    record { names = names; environment = s.environment; recipe = s.recipe; is_dependency = s.is_dependency; lists = s.lists; shown = shown; below = below }

-- the condition on what occurs in an expression: a variable that is not refused has one value, and a call is one of
-- these
abbrev pub ReadsAlike : Sight → (Text → Type 0) → Names → Names → Mention → Type 0
ReadsAlike m C names others (CommandOf text) = Unit {0}
ReadsAlike m C names others (VariableOf None) = Unit {0}
ReadsAlike m C names others (VariableOf (Some n)) = (t : Token) → IsSteady m (Read t n) × (ends_at m (Read t n) ≡ false → names n ≡ others n)
ReadsAlike m C names others (CallOf f n) = C f

module _ (m : Sight) (c c' : Program) (d d' : Deeper) (s s' : Situation) (lists : s.lists ≡ s'.lists) (C : Text → Type 0)
    (commands : (text : Text) (t : Token) → Alike m (eval c d s (Backtick text t)) (eval c' d' s' (Backtick text t)))
    (calls : (t : Token) (es : Exprs) → C t.lexeme → AreRowsRelated (λ A t u. Alike m t u) (eval_row c d s 0 es) (eval_row c' d' s' 0 es)
    → Alike m (eval c d s (Call t es)) (eval c' d' s' (Call t es))) where
  alike_variable : (number : Option ℕ) → ReadsAlike m C s.names s'.names (VariableOf number) → (t : Token)
      → Alike m (variable t number s.names) (variable t number s'.names)
  alike_variable None h t = Done
  alike_variable (Some n) h t = Same (h t).0 (λ e. subst (λ o. Alike m (done (named t (s.names n))) (done (named t o))) ((h t).1 e) Done)

  pub alike_eval : (e : Expr) → ((x : Mention) → Occurs e x → ReadsAlike m C s.names s'.names x) → Alike m (eval c d s e) (eval c' d' s' e)
  alike_eval =
      related_eval (λ A t u. Alike m t u) (record { gave = λ A a. Done; bound = λ A B t u go on h k. alike_bind h k })
      (record { assertion = λ message t. Done; operation = λ l o r t. Done; regex = λ t. Done })
      c c' d d' s s' lists (ReadsAlike m C s.names s'.names) commands calls alike_variable

-- ---- to the end, by the number of calls left

alike_reply : (shown other : Frames) (r : FunctionReply) → Alike Whole (tree shown r) (tree other r)
alike_reply shown other (replies.Answers v) = Done
alike_reply shown other (replies.Fails message) = Done
alike_reply shown other (replies.Asks q next) = Both tt refl (λ a. alike_reply shown other (next a))
alike_reply shown other replies.Stops = Done

-- Two files define the same functions for some names, closed under what these call. What the bodies read beyond their
-- own parameters has one value in two bases.
module _ (fixed : Fixed) (functions others : List Function) (base other : Names) (C : Text → Type 0)
    (same : (name : Text) → C name → function_at functions name ≡ function_at others name)
    (closed : (name further : Text) (f : Function) (n : ℕ) → C name → function_at functions name ≡ Some f → Occurs f.body (CallOf further n) → C further)
    (held : (name : Text) (f : Function) (n : ℕ) → C name → function_at functions name ≡ Some f → Occurs f.body (VariableOf (Some n))
    → (IsAmong f.parameters n → ⊥) → base n ≡ other n) where
  abbrev pub one_program : Program
  one_program = record { fixed = fixed; functions = functions }

  abbrev pub other_program : Program
  other_program = record { fixed = fixed; functions = others }

  -- calls of these functions, with this many values, are alike
  abbrev AreDeeperAlike : Deeper → Deeper → Type 0
  AreDeeperAlike AtLimit AtLimit = Unit {0}
  AreDeeperAlike (WithinLimit run) (WithinLimit run') =
      (name : Text) (f : Function) (s : Situation) (names : Names) (shown below : Frames) (vs : List Value) → C name → function_at functions name ≡ Some f
      → length f.parameters ≡ length vs → Alike Whole (run f s vs) (run' f (moved names shown below s) vs)
  AreDeeperAlike _ _ = ⊥

  module _ (s : Situation) (names : Names) (shown below : Frames) where
    module _ (t : Token) (n : ℕ) (row row' : Row) (counted : AllEnd (HasCount n) (row as_it_is)) (h : AreRowsRelated (λ A t u. Alike Whole t u) row row') where
      defined_alike : (f : Function) (d d' : Deeper) → AreDeeperAlike d d' → C t.lexeme → function_at functions t.lexeme ≡ Some f
          → Alike Whole (called one_program t (Defined f) d s n row) (called other_program t (Defined f) d' (moved names shown below s) n row')
      defined_alike f AtLimit AtLimit deep reached found = Done
      defined_alike f (WithinLimit run) (WithinLimit run') deep reached found = counted_alike (nat_eq n (length f.parameters)) refl
        where
          counted_alike : (b : Bool) → nat_eq n (length f.parameters) ≡ b → let refused : Tree Value = refuses (Internal (miscounted_text t.lexeme) t) in
              Alike Whole (if b then bind (row as_it_is) (run f s) else refused) (if b then bind (row' as_it_is) (run' f (moved names shown below s))
              else refused)
          counted_alike true e = alike_such (HasCount n) counted (h as_it_is (λ i v. Done))
              (λ vs l. deep t.lexeme f s names shown below vs reached found (let same : n ≡ length f.parameters = grind (arith, nat_tests) in sym same ∙ sym l))
          counted_alike false e = Done
      defined_alike f AtLimit (WithinLimit run') deep reached found = absurd deep
      defined_alike f (WithinLimit run) AtLimit deep reached found = absurd deep

      undefined_alike : (d d' : Deeper) (out : Bool) (found : Option built_in.Function) →
          let callee = if out then LeftOut else built_in_or_unknown found in
          Alike Whole (called one_program t callee d s n row) (called other_program t callee d' (moved names shown below s) n row')
      undefined_alike d d' true found = Done
      undefined_alike d d' false None = Done
      undefined_alike d d' false (Some f) =
          alike_if (accepts (BuiltIn f) n)
          (alike_bind (h (texts_of f t) (λ i v. alike_itself (texts_of f t i v)))
          (λ vs. alike_bind (alike_reply s.shown shown (reply (builtin_of f) (built_in_context one_program s t) vs)) (λ r. alike_itself (returned t r)))) Done

      called_alike : (d d' : Deeper) → AreDeeperAlike d d' → C t.lexeme → (found : Option Function) → function_at functions t.lexeme ≡ found
          → Alike Whole (called one_program t (defined_or found (undefined t.lexeme)) d s n row)
          (called other_program t (defined_or found (undefined t.lexeme)) d' (moved names shown below s) n row')
      called_alike d d' deep reached None e = undefined_alike d d' (is_left_out t.lexeme) (function_named t.lexeme)
      called_alike d d' deep reached (Some f) e = defined_alike f d d' deep reached e

      whole_call : (d d' : Deeper) → AreDeeperAlike d d' → C t.lexeme
          → Alike Whole (called one_program t (callee functions t.lexeme) d s n row)
          (called other_program t (callee others t.lexeme) d' (moved names shown below s) n row')
      whole_call d d' deep reached =
          subst (λ found. Alike Whole (called one_program t (callee functions t.lexeme) d s n row)
          (called other_program t (defined_or found (undefined t.lexeme)) d' (moved names shown below s) n row')) (same t.lexeme reached)
          (called_alike d d' deep reached (function_at functions t.lexeme) refl)

    whole_eval : (d d' : Deeper) → AreDeeperAlike d d' → (e : Expr) → ((x : Mention) → Occurs e x → ReadsAlike Whole C s.names names x)
        → Alike Whole (eval one_program d s e) (eval other_program d' (moved names shown below s) e)
    whole_eval d d' deep =
        alike_eval Whole one_program other_program d d' s (moved names shown below s) refl C
        (λ text t. Same tt (λ e. alike_if fixed.config.dry_run Done (Both tt refl (λ a. Done))))
        (λ t es reached h. Same tt (λ e. whole_call t (count es) (eval_row one_program d s 0 es) (eval_row other_program d' (moved names shown below s) 0 es)
        (row_counts one_program d s 0 es as_it_is) h d d' deep reached))

  deeper_alike : (k : ℕ) → AreDeeperAlike (lexical one_program base k) (lexical other_program other k)
  deeper_alike zero = tt
  deeper_alike (suc k) = λ name f s names shown below vs reached found fits.
      let frame = with_parameters [] f.parameters vs in
      whole_eval (inside base s f vs) (over frame other) (frame ∷ below) (frame ∷ below) (lexical one_program base k) (lexical other_program other k)
      (deeper_alike k) f.body
      (same_reads name f vs reached found fits s)
    where
      same_reads : (name : Text) (f : Function) (vs : List Value) → C name → function_at functions name ≡ Some f → length f.parameters ≡ length vs
          → (s : Situation) (x : Mention) → Occurs f.body x
          → ReadsAlike Whole C (inside base s f vs).names (over (with_parameters [] f.parameters vs) other) x
      same_reads name f vs reached found fits s (CommandOf text) h = tt
      same_reads name f vs reached found fits s (VariableOf None) h = tt
      same_reads name f vs reached found fits s (VariableOf (Some n)) h =
          λ t. (tt, λ e. parameters_same f.parameters vs base n fits other (λ beyond. held name f n reached found h beyond))
      same_reads name f vs reached found fits s (CallOf further n) h = closed name further f n reached found h

-- If two files define the same for what an expression reaches, and it reads the same, its meanings are alike.
pub alike_lexical : (fixed : Fixed) (functions others : List Function) (base other : Names) (k : ℕ) (s : Situation) (names : Names)
    (shown below : Frames) (e : Expr)
    → ((name : Text) → Reaches functions e name → function_at functions name ≡ function_at others name)
    → ((n : ℕ) → Occurs e (VariableOf (Some n)) → s.names n ≡ names n) → ((n : ℕ) → ReadsBeyond functions e n → base n ≡ other n)
    → let c : Program = record { fixed = fixed; functions = functions } in let c' : Program = record { fixed = fixed; functions = others } in
    Alike Whole (eval c (lexical c base k) s e) (eval c' (lexical c' other k) (moved names shown below s) e)
alike_lexical fixed functions others base other k s names shown below e same own beyond =
    whole_eval fixed functions others base other (Reaches functions e) same closed held s names shown below _ _
    (deeper_alike fixed functions others base other (Reaches functions e) same closed held k) e same_reads
  where
    closed : (name further : Text) (f : Function) (n : ℕ) → Reaches functions e name → function_at functions name ≡ Some f → Occurs f.body (CallOf further n)
        → Reaches functions e further
    closed name further f n reached found occurs = reaches_on functions f n reached found occurs

    held : (name : Text) (f : Function) (n : ℕ) → Reaches functions e name → function_at functions name ≡ Some f → Occurs f.body (VariableOf (Some n))
        → (IsAmong f.parameters n → ⊥) → base n ≡ other n
    held name f n reached found occurs out = beyond n (record { name = name; function = f; reached = reached; found = found; occurs = occurs; beyond = out })

    same_reads : (x : Mention) → Occurs e x → ReadsAlike Whole (Reaches functions e) s.names names x
    same_reads (CommandOf text) h = tt
    same_reads (VariableOf None) h = tt
    same_reads (VariableOf (Some n)) h = λ t. (tt, λ e. own n h)
    same_reads (CallOf f n) h = Here n h

-- ---- traces

-- two traces of trees that are alike, neither stopped, and both answered alike
pub alike_paths : {A : Type 0} {t u : Tree A} {es fs : List Event} {o p : Outcome A} → Alike Whole t u → Path freely t es o → Path freely u fs p → o ≢ Stopped
    → p ≢ Stopped → AreAnsweredAlike es fs → (o ≡ p) × AreSame es fs
alike_paths Done Ends Ends here there h = (refl, tt)
alike_paths (Both w blind k) (interaction.Asks {a = a} {es = es} p) (interaction.Asks {next = l} {a = b} {es = fs} {o = end} q) here there h =
    let answer : a ≡ b = h _ _ (inl refl) (inl refl) blind in
    let rest = alike_paths (k a) p (subst (λ x. Path freely (l x) fs end) (sym answer) q) here there (λ x y i j. h x y (inr i) (inr j)) in
    (rest.0, (blind, answer, rest.1))
alike_paths (Same s k) (Notes e p) (Notes f q) here there h = let rest =
    alike_paths (k refl) p q here there (λ x y i j. h x y (inr i) (inr j)) in (rest.0, (refl, rest.1))
alike_paths (SameCheck w k) (Checks {a = a} {es = es} p) (Checks {next = l} {a = b} {es = fs} {o = end} q) here there h =
    let verdict : a ≡ b = h _ _ (inl refl) (inl refl) refl refl in
    let rest = alike_paths (k a) p (subst (λ x. Path freely (l x) fs end) (sym verdict) q) here there (λ x y i j. h x y (inr i) (inr j)) in
    (rest.0, (refl, refl, verdict, rest.1))
alike_paths same Stops q here there h = absurd (here refl)
alike_paths same p Stops here there h = absurd (there refl)
alike_paths same (Shuts e) q here there h = absurd (cc)
alike_paths same p (Shuts e) here there h = absurd (cc)

pub frames_do_not_matter : FramesDoNotMatter
frames_do_not_matter c base calls s shown below e es fs o p i j here there h =
    alike_paths (alike_lexical c.fixed c.functions c.functions base base calls s s.names shown below e (λ name reached. refl) (λ n own. refl)
    (λ n beyond. refl)) i j here there h
