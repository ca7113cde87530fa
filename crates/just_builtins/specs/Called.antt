-- The result of a call of a built-in function, and the interaction tree of its questions.
use Rattle.std.specs.Prelude.{◌≡◌, ◌≢◌, ⊤, Option, Some, None, Result, Ok, Err, List, [], string_bytes}
use Rattle.std.specs.List.{AllByRecursion}
use Rattle.just_syntax.specs.Plain.{Text}
use Rattle.just_value.specs.Value.{Value}
use Rattle.just_value.specs.Frames.{Frames}
use Rattle.just_value.specs.Outcome.{Outcome, Gave, Stopped}
use Rattle.just_host.specs.Question.{Blind, CommandOf}
use Rattle.just_host.specs.Interaction.{Tree, done, ask, gives, freely, Step, Behaves, unchecked}
use Rattle.just_builtins.specs.declared.builtin.Builtin.{Builtin}
use Rattle.just_builtins.specs.declared.call_fault.CallFault.{CallFault}
use Rattle.just_builtins.specs.declared.call_fault.CallFault.TheVariants.{Internal, Message, OutOfMemory}
use Rattle.just_builtins.specs.declared.function.Function.{Function}
use Rattle.just_builtins.specs.Reply.{FunctionReply, Answers, Fails, Asks, Stops}
use Rattle.just_builtins.specs.Table.{IsUnnamed}

-- the function returned a value, or a message why there is none
pub data Called : Type 0 where
  Returned : Value → Called
  Said : Text → Called

-- the frames that a question shows: the visible ones for a command, none for the others
abbrev pub frames_for : Blind → Frames → Frames
frames_for (CommandOf c) shown = shown
frames_for _ shown = []

-- the interaction tree of a reply, whose questions show the frames
abbrev pub tree : Frames → FunctionReply → Tree Called
tree shown (Answers v) = gives (Returned v)
tree shown (Fails message) = gives (Said message)
tree shown (Asks q next) = ask (record { blind = q; shown = frames_for q shown }) (λ a. tree shown (next a))
tree shown Stops = done Stopped

-- the outcome of a call; a function whose tag does not belong to its shape is stopped before it asks anything
abbrev pub outcome : Result Value CallFault → Outcome Called
outcome (Ok v) = Gave (Returned v)
outcome (Err (Message message)) = Gave (Said (string_bytes message))
outcome (Err OutOfMemory) = Stopped
outcome (Err Internal) = Stopped

-- the result is the reply, which asks nothing, unless memory runs out
abbrev pub IsReply : FunctionReply → Result Value CallFault → Type 0
IsReply reply (Ok v) = reply ≡ Answers v
IsReply reply (Err (Message message)) = reply ≡ Fails (string_bytes message)
IsReply reply (Err OutOfMemory) = ⊤
IsReply reply (Err Internal) = ⊥

-- the same, but it is `Internal` if the function has no name
abbrev pub Replies : Function → FunctionReply → Result Value CallFault → Type 0
Replies f reply (Ok v) = reply ≡ Answers v
Replies f reply (Err (Message message)) = reply ≡ Fails (string_bytes message)
Replies f reply (Err OutOfMemory) = ⊤
Replies f reply (Err Internal) = IsUnnamed f

-- the same, but it is `Internal` if the built-in function is none of these
abbrev pub RepliesAmong : List Builtin → Builtin → FunctionReply → Result Value CallFault → Type 0
RepliesAmong those builtin reply (Ok v) = reply ≡ Answers v
RepliesAmong those builtin reply (Err (Message message)) = reply ≡ Fails (string_bytes message)
RepliesAmong those builtin reply (Err OutOfMemory) = ⊤
RepliesAmong those builtin reply (Err Internal) = AllByRecursion (λ other. other ≢ builtin) those

-- the result is the reply's, or there is none yet and the reply is `rest`, unless memory runs out
abbrev pub GivesOr : (FunctionReply → FunctionReply) → Result (Option Value) CallFault → Type 0
GivesOr reply (Ok (Some v)) = (rest : FunctionReply) → reply rest ≡ Answers v
GivesOr reply (Ok None) = (rest : FunctionReply) → reply rest ≡ rest
GivesOr reply (Err (Message message)) = (rest : FunctionReply) → reply rest ≡ Fails (string_bytes message)
GivesOr reply (Err OutOfMemory) = ⊤
GivesOr reply (Err Internal) = ⊥

-- ---- functions that ask: the questions to the host, and then their replies

-- the call is a run of the reply's interaction tree, and its result is not `Internal`
abbrev pub Asked : {S : Type 0} → Step S → S → Frames → FunctionReply → Result Value CallFault → S → Type 0
Asked step old shown reply result new =
    Behaves freely step unchecked old (tree shown reply) (outcome result) new × (result ≢ Err Internal)

-- the same, but it is `Internal` if the function has no name; then nothing is asked
abbrev pub AskedBy : {S : Type 0} → Function → Step S → S → Frames → FunctionReply → Result Value CallFault → S → Type 0
AskedBy f step old shown reply result new =
    Behaves freely step unchecked old (tree shown reply) (outcome result) new
    × (result ≡ Err Internal → IsUnnamed f × (new ≡ old))

-- If there is a result, it is the reply's. If there is none yet, any run of `rest` from here is a run of the reply.
abbrev pub AskedOr : {S : Type 0} → Step S → S → Frames → (FunctionReply → FunctionReply)
    → Result (Option Value) CallFault → S → Type 0
AskedOr step old shown reply (Ok (Some v)) new =
    (rest : FunctionReply) → Behaves freely step unchecked old (tree shown (reply rest)) (Gave (Returned v)) new
AskedOr {S} step old shown reply (Ok None) new = (rest : FunctionReply) (o : Outcome Called) (last : S)
    → Behaves freely step unchecked new (tree shown rest) o last
    → Behaves freely step unchecked old (tree shown (reply rest)) o last
AskedOr step old shown reply (Err e) new = (rest : FunctionReply) → Asked step old shown (reply rest) (Err e) new
