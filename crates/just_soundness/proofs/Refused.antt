-- The refusals of an expression, given those of its variables and calls.
use Rattle.std.proofs.Common.{ℕ, Bool, true, false, [], ◌∷◌, if◌then◌else◌, Option, Some, None, refl}
use Rattle.just_syntax.specs.Plain.{Text, Token, Expr, count}
use Rattle.just_syntax.specs.StringContext.{StringContext}
use Rattle.just_syntax.specs.StringContext as contexts
use Rattle.just_value.specs.Value.{Value, Names}
use Rattle.just_value.specs.Frames.{Frames}
use Rattle.just_value.specs.Refusal as refusal
use Rattle.just_value.specs.Refusal.{Refusal, Fault, Code, Message, NoMemory}
use Rattle.just_value.specs.Outcome.{Outcome, Gave, Refused, Stopped}
use Rattle.just_host.specs.Question.{Answer, Replied, Failed}
use Rattle.just_host.specs.Interaction.{Tree, done, bind}
use Rattle.just_builtins.specs.Called.{Called, Returned, Said, tree}
use Rattle.just_builtins.specs.Meaning.{reply}
use Rattle.just_builtins.specs.Reply as replies
use Rattle.just_builtins.specs.Reply.{FunctionReply}
use Rattle.just_builtins.specs.Shape.{builtin_of, is_text}
use Rattle.just_builtins.specs.declared.function.Function as built_in
use Rattle.just_meaning.specs.Callee.{callee}
use Rattle.just_meaning.specs.Internal.{IfRefused}
use Rattle.just_meaning.specs.Meaning.{Program, Situation, Deeper, Row, answered, argument, as_it_is, built_in_call, built_in_context, called, eval, eval_row}
use Rattle.just_meaning.specs.Meaning.{returned, texts_of, variable}
use Rattle.just_meaning.specs.Module.{or_override}
use Rattle.just_syntax.specs.Occurrences.{CallOf, CommandOf, Mention, VariableOf}
use Rattle.just_meaning.specs.Reaches.{Occurs}
use Rattle.just_meaning.specs.Settings.{text_in}
use Rattle.just_interaction.proofs.Ends.{AllEnd, ends_bind, ends_both}
use Rattle.just_soundness.proofs.Counts.{HasCount, row_counts}
use Rattle.just_soundness.proofs.Forms.{AreRowsRelated, IsCongruence, OfForms, related_eval}

-- each refusal at which the tree may end has this property
abbrev pub AllRefused : {A : Type 0} → (Refusal → Type 0) → Tree A → Type 0
AllRefused P t = AllEnd (IfRefused P) t

-- the same whatever function the values are passed to, if the function's own refusals have the property
abbrev pub IsRowRefused : (Refusal → Type 0) → Row → Type 0
IsRowRefused P row = AreRowsRelated (λ A t u. AllRefused P t) row row

-- the refusals of reading a variable have this property, and a call is one of these, with this many arguments
abbrev pub MentionFits : (Refusal → Type 0) → (Text → ℕ → Type 0) → Names → Mention → Type 0
MentionFits P C names (CommandOf text) = Unit {0}
MentionFits P C names (VariableOf number) = (t : Token) → AllRefused P (variable t number names)
MentionFits P C names (CallOf f n) = C f n

-- the refusals of forms, commands and built-in functions, whatever their inputs
pub record Permits (P : Refusal → Type 0) : Type 0 where
  pub forms : OfForms P
  pub command : (t : Token) (f : Fault) → P (refusal.Backtick t f)
  pub function : (t : Token) (message : Text) → P (refusal.FunctionCall t message)
  pub list : (context : StringContext) (v : Value) → P (refusal.ListInStringContext context v)

module _ (P : Refusal → Type 0) where
  -- continues with values that satisfy more
  pub refused_such : {A B : Type 0} (Q : Outcome A → Type 0) (t : Tree A) (go : A → Tree B) → AllEnd Q t → AllRefused P t
      → ((a : A) → Q (Gave a) → AllRefused P (go a)) → AllRefused P (bind t go)
  refused_such {A = A} Q t go q h k = ends_bind (λ o. Q o × IfRefused P o) (IfRefused P) t go (ends_both Q (IfRefused P) t q h) on
    where
      on : (o : Outcome A) → Q o × IfRefused P o → AllRefused P (bind (done o) go)
      on (Gave a) h = k a h.0
      on (Refused r) h = h.1
      on Stopped h = tt

  pub refused_bind : {A B : Type 0} (t : Tree A) (go : A → Tree B) → AllRefused P t → ((a : A) → AllRefused P (go a)) → AllRefused P (bind t go)
  refused_bind t go h k = refused_such (IfRefused P) t go h h (λ a such. k a)

  pub refused_congruence : IsCongruence (λ A t u. AllRefused P t)
  refused_congruence = record { gave = λ A a. tt; bound = λ A B t u go on h k. refused_bind t go h k }

  pub refused_override : (o : Option Text) (t : Tree Value) → AllRefused P t → AllRefused P (or_override o t)
  refused_override (Some text) t h = tt
  refused_override None t h = h

  -- a list is refused if a single text is required
  pub refused_text : ((context : StringContext) (v : Value) → P (refusal.ListInStringContext context v)) → (context : StringContext) (v : Value)
      → IfRefused P (text_in context v)
  refused_text list context [] = list context []
  refused_text list context (text ∷ []) = tt
  refused_text list context (text ∷ next ∷ texts) = list context (text ∷ next ∷ texts)

  pub refused_if : {A : Type 0} (b : Bool) (x y : Tree A) → AllRefused P x → AllRefused P y → AllRefused P (if b then x else y)
  refused_if true x y h k = h
  refused_if false x y h k = k

  refused_reply : (shown : Frames) (r : FunctionReply) → AllRefused P (tree shown r)
  refused_reply shown (replies.Answers v) = tt
  refused_reply shown (replies.Fails message) = tt
  refused_reply shown (replies.Asks q next) = λ a. refused_reply shown (next a)
  refused_reply shown replies.Stops = tt

  module _ (permits : Permits P) where
    refused_answer : (t : Token) (a : Answer) → IfRefused P (answered t a)
    refused_answer t (Replied text) = tt
    refused_answer t (Failed (Code n)) = permits.command t (Code n)
    refused_answer t (Failed (Message text)) = permits.command t (Message text)
    refused_answer t (Failed NoMemory) = tt
    refused_answer t _ = tt

    refused_returned : (t : Token) (r : Called) → AllRefused P (returned t r)
    refused_returned t (Returned v) = tt
    refused_returned t (Said message) = permits.function t message

    refused_argument : (is_text : Bool) (t : Token) (v : Value) → AllRefused P (argument is_text t v)
    refused_argument false t v = tt
    refused_argument true t [] = permits.list (contexts.Function t) []
    refused_argument true t (text ∷ []) = tt
    refused_argument true t (text ∷ next ∷ texts) = permits.list (contexts.Function t) (text ∷ next ∷ texts)

    -- a built-in function's arguments, and then its result
    pub refused_built_in : (c : Program) (s : Situation) (t : Token) (f : built_in.Function) (row : Row) → IsRowRefused P row
        → AllRefused P (bind (row (texts_of f t)) (built_in_call c s t f))
    refused_built_in c s t f row h =
        refused_bind (row (texts_of f t)) _ (h (texts_of f t) (λ i v. refused_argument (is_text f i) t v))
        (λ vs. let r = reply (builtin_of f) (built_in_context c s t) vs in
        refused_bind (tree s.shown r) (returned t) (refused_reply s.shown r) (λ r. refused_returned t r))

    module _ (c : Program) (d : Deeper) (s : Situation) (C : Text → ℕ → Type 0)
        (calls : (t : Token) (n : ℕ) (row : Row) → C t.lexeme n → AllEnd (HasCount n) (row as_it_is) → IsRowRefused P row
        → AllRefused P (called c t (callee c.functions t.lexeme) d s n row)) where
      pub refused_eval : (e : Expr) → ((x : Mention) → Occurs e x → MentionFits P C s.names x) → AllRefused P (eval c d s e)
      refused_eval = related_eval (λ A t u. AllRefused P t) refused_congruence permits.forms
          c c d d s s refl (MentionFits P C s.names) (λ text t. refused_if c.fixed.config.dry_run _ _ tt (λ a. refused_answer t a))
          (λ t es fit row. calls t (count es) (eval_row c d s 0 es) fit (row_counts c d s 0 es as_it_is) row) (λ number fit t. fit t)
