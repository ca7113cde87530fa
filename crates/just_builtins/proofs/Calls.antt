-- Calls, and the interaction trees of their replies.
use Rattle.std.proofs.Common.{◌≡◌, ◌≢◌, ℕ, refl, sym, List, [], ◌∷◌, Option, Some, None, Result, Ok, Err, string_bytes, subst, inl, inr}
use Rattle.std.specs.List.{AllByRecursion}
use Rattle.just_builtins.specs.Prelude.{Answer, Asked, AskedBy, AskedOr, Asks, AsksOnce, Called, Context, Frames, Gave, GivesOr, Internal, IsExpected, IsReply}
use Rattle.just_builtins.specs.Prelude.{Behaves, FunctionReply, IsUnnamed, Replies, RepliesAmong, Returned, Step, Text, TextOf, Value, asks_text, builtin_of}
use Rattle.just_builtins.specs.Prelude.{frameless, unchecked}
use Rattle.just_builtins.specs.Prelude.{frames_view, freely, function_context_view, outcome, reply, text_answered, tree}
use Rattle.just_value.specs.Refusal.{NoMemory}
use Rattle.just_host.specs.Question.{Blind, Failed, TextQuestion}
use Rattle.just_host.specs.Interaction.{Asked as answered, Tree, Path, Ends, Stops, Asks as asks}
use Rattle.just_builtins.specs.declared.builtin.Builtin.{Builtin}
use Rattle.just_builtins.specs.declared.call_fault.CallFault.{CallFault}
use Rattle.just_builtins.specs.declared.call_fault.CallFault.TheVariants.{Message, OutOfMemory}
use Rattle.just_builtins.specs.declared.function.Function.{Function}
use Rattle.just_host.specs.declared.function.Context as declared
use Rattle.just_builtins.specs.Called.{Said, frames_for}

-- a reply without a question has a path without events
path : (shown : Frames) (reply : FunctionReply) (result : Result Value CallFault) → IsReply reply result → Path freely (tree shown reply) [] (outcome result)
path shown reply (Ok v) is = subst (λ r. Path freely (tree shown r) [] (Gave (Returned v))) (sym is) Ends
path shown reply (Err (Message message)) is = subst (λ r. Path freely (tree shown r) [] (Gave (Said (string_bytes message)))) (sym is) Ends
path shown reply (Err OutOfMemory) is = Stops
path shown reply (Err Internal) is = absurd is

-- a given result is not `Internal`
named : (reply : FunctionReply) (result : Result Value CallFault) → IsReply reply result → result ≡ Err Internal → ⊥
named reply (Ok v) is e = absurd (cc)
named reply (Err (Message message)) is e = absurd (cc)
named reply (Err OutOfMemory) is e = absurd (cc)
named reply (Err Internal) is e = absurd is

-- an error is the same, whatever the rest would be
gives_err : (next : FunctionReply → FunctionReply) (e : CallFault) → GivesOr next (Err e) → (rest : FunctionReply) → IsReply (next rest) (Err e)
gives_err next (Message message) is rest = is rest
gives_err next OutOfMemory is rest = tt
gives_err next Internal is rest = absurd is

-- a call of the same function with the same arguments
pub same_call : (f g : Function) (c : Context) (vs ws : List Value) (result : Result Value CallFault) → f ≡ g → vs ≡ ws
    → Replies g (reply (builtin_of g) c ws) result → Replies f (reply (builtin_of f) c vs) result
same_call f g c vs ws result same alike is = rw (same, alike) is

-- equal functions expect the same number of arguments
pub expected : (f g : Function) (n : ℕ) → f ≡ g → IsExpected f n → IsExpected g n
expected f g n same is = subst (λ h. IsExpected h n) same is

module _ {S : Type 0} {step : Step S} where
  -- ---- functions that ask nothing: the host's state is unchanged

  pub unasked : {h : S} (shown : Frames) (reply : FunctionReply) (result : Result Value CallFault) → IsReply reply result → Asked step h shown reply result h
  unasked shown reply result is = (record { events = []; path = path shown reply result is; chain = refl }, named reply result is)

  -- memory runs out before the first question
  pub at_once : {h : S} {t : Tree Called} (result : Result Value CallFault) → result ≡ Err OutOfMemory → Behaves freely step unchecked h t (outcome result) h
      × (result ≢ Err Internal)
  at_once {h = h} {t = t} result is =
      (subst (λ r. Behaves freely step unchecked h t (outcome r) h) (sym is) (record { events = []; path = Stops; chain = refl }), λ e. absurd (cc))

  pub unasked_by : {h : S} (f : Function) (shown : Frames) (reply : FunctionReply) (result : Result Value CallFault) → Replies f reply result
      → AskedBy f step h shown reply result h
  unasked_by f shown reply (Ok v) is = (record { events = []; path = path shown reply (Ok v) is; chain = refl }, λ e. absurd (cc))
  unasked_by f shown reply (Err (Message message)) is =
      (record { events = []; path = path shown reply (Err (Message message)) is; chain = refl }, λ e. absurd (cc))
  unasked_by f shown reply (Err OutOfMemory) is = (record { events = []; path = Stops; chain = refl }, λ e. absurd (cc))
  unasked_by f shown reply (Err Internal) is = (record { events = []; path = Stops; chain = refl }, λ e. (is, refl))

  -- the same for the functions of a shape that ask nothing
  pub unasked_among : {h : S} (f : Function) (those : List Builtin) (b : Builtin) (shown : Frames) (reply : FunctionReply) (result : Result Value CallFault)
      → RepliesAmong those b reply result → (AllByRecursion (λ other. other ≢ b) those → IsUnnamed f) → AskedBy f step h shown reply result h
  unasked_among f those b shown reply (Ok v) is unnamed = unasked_by f shown reply (Ok v) is
  unasked_among f those b shown reply (Err (Message message)) is unnamed = unasked_by f shown reply (Err (Message message)) is
  unasked_among f those b shown reply (Err OutOfMemory) is unnamed = unasked_by f shown reply (Err OutOfMemory) tt
  unasked_among f those b shown reply (Err Internal) is unnamed = unasked_by f shown reply (Err Internal) (unnamed is)

  -- ---- functions that ask

  -- a question, and the result for its answer
  pub asked : {old new : S} (shown : Frames) (q : Blind) (next : Answer → FunctionReply) (a : Answer) (result : Result Value CallFault)
      → step old (record { blind = q; shown = frames_for q shown }) a new → IsReply (next a) result → Asked step old shown (Asks q next) result new
  asked shown q next a result taken is =
      (record { events = answered _ a ∷ []; path = asks (path shown (next a) result is); chain = (_, taken, refl) }, named (next a) result is)

  -- the same for a text
  pub asked_text : {old new : S} (shown : Frames) (q wanted : TextQuestion) (absent : FunctionReply) (odd faulty : Text → Text) (a : Answer)
      (result : Result Value CallFault) → q ≡ wanted → step old (frameless (TextOf q)) a new → IsReply (text_answered absent odd faulty a) result
      → Asked step old shown (asks_text wanted absent odd faulty) result new
  asked_text {old = old} {new = new} shown q wanted absent odd faulty a result same taken is =
      asked shown (TextOf wanted) (text_answered absent odd faulty) a result (subst (λ x. step old (frameless (TextOf x)) a new) same taken) is

  -- the same, if memory may run out before the question is asked
  pub asked_once : {old new : S} (shown : Frames) (q : Blind) (next : Answer → FunctionReply) (a : Answer) (result : Result Value CallFault)
      → AsksOnce step old (record { blind = q; shown = frames_for q shown }) a new → IsReply (next a) result → (a ≡ Failed NoMemory → result ≡ Err OutOfMemory)
      → Asked step old shown (Asks q next) result new
  asked_once shown q next a result (inl taken) is wanting = asked shown q next a result taken is
  asked_once {old = old} {new = new} shown q next a result (inr without) is wanting =
      subst (λ h. Asked step old shown (Asks q next) result h) without.1 (at_once result (wanting without.0))

  -- ---- by the shapes of arguments

  -- a built-in function that has the shape
  pub of_builtin : {old new : S} (f : Function) (b other : Builtin) (c : Context) (vs : List Value) (shown : Frames) (result : Result Value CallFault)
      → b ≡ other → Asked step old shown (reply other c vs) result new → AskedBy f step old shown (reply b c vs) result new
  of_builtin {old = old} {new = new} f b other c vs shown result is (run, not_internal) =
      (subst (λ x. Behaves freely step unchecked old (tree shown (reply x c vs)) (outcome result) new) (sym is) run, λ e. absurd (not_internal e))

  -- a function without a name
  pub internal : {h : S} (f : Function) (shown : Frames) (reply : FunctionReply) → IsUnnamed f → AskedBy f step h shown reply (Err Internal) h
  internal f shown reply unnamed = unasked_by f shown reply (Err Internal) unnamed

  -- a call of the same function with the same arguments
  module _ (context : declared.Context) (f g : Function) (vs ws : List Value) (result : Result Value CallFault) (same : f ≡ g) (alike : vs ≡ ws) where
    pub same_asked : {old new : S} → AskedBy g step old (frames_view context.scope.now) (reply (builtin_of g) (function_context_view context) ws) result new
        → AskedBy f step old (frames_view context.scope.now) (reply (builtin_of f) (function_context_view context) vs) result new
    same_asked is = rw (same, alike) is

    -- the same, if it asks nothing
    pub same_unasked : {h : S} → Replies g (reply (builtin_of g) (function_context_view context) ws) result
        → AskedBy f step h (frames_view context.scope.now) (reply (builtin_of f) (function_context_view context) vs) result h
    same_unasked is = unasked_by f (frames_view context.scope.now) (reply (builtin_of f) (function_context_view context) vs) result
        (same_call f g (function_context_view context) vs ws result same alike is)

module _ {S : Type 0} (step : Step S) where
  -- a question whose answer gives a result, or leaves it to the rest
  pub asked_or : {old new : S} (shown : Frames) (q : Blind) (next : FunctionReply → Answer → FunctionReply) (a : Answer)
      (result : Result (Option Value) CallFault)
      → step old (record { blind = q; shown = frames_for q shown }) a new → GivesOr (λ rest. next rest a) result
      → AskedOr step old shown (λ rest. Asks q (next rest)) result new
  asked_or shown q next a (Ok (Some v)) taken is = λ rest. (asked shown q (next rest) a (Ok v) taken (is rest)).0
  asked_or shown q next a (Ok None) taken is = λ rest o last r.
      record {
        events = answered _ a ∷ r.events;
        path = asks (subst (λ t. Path freely (tree shown t) r.events o) (sym (is rest)) r.path);
        chain = (_, taken, r.chain);
      }
  asked_or shown q next a (Err e) taken is = λ rest. asked shown q (next rest) a (Err e) taken (gives_err (λ other. next other a) e is rest)
