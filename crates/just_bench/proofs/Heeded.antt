-- A question answered by `NoMemory` stops the one who asked it.
use Rattle.std.proofs.Common.{◌≡◌, ◌≢◌, ◌-◌, ℕ, zero, suc, Bool, true, false, List, [], ◌∷◌, Option, Some, None, Result, Ok, Err, if◌then◌else◌, map}
use Rattle.std.proofs.Common.{length, nat_eq, slice_get, refl, ap, subst, ◌∙◌}
use Rattle.just_bench.specs.Prelude.{Answer, Assignment, Blind, Event, Frames, Gave, Module, NoMemory, Outcome, Refused, Stopped, Text, Token, Value}
use Rattle.just_bench.specs.Prelude.{dynamically}
use Rattle.just_syntax.specs.Plain.{Expr, Function, count}
use Rattle.just_text.specs.Case.{capitalize, lowercase, uppercase}
use Rattle.just_text.specs.Path as path
use Rattle.just_value.specs.Refusal.{Code, Message}
use Rattle.just_host.specs.Function.{Context}
use Rattle.just_host.specs.Interaction as interaction
use Rattle.just_host.specs.Interaction.{Tree, Verdict, done, ask, note, check, bind, gives, Path, Ends, Asks, Notes, Checks, Shuts, freely}
use Rattle.just_host.specs.Question.{Failed, Absent, Found, Numbered, Executable}
use Rattle.just_host.specs.declared.number_question.NumberQuestion.TheVariants.{Cpus}
use Rattle.just_builtins.specs.Argument.{argument_at, text_at, first}
use Rattle.just_builtins.specs.Asking.{asks_environment, asks_existence, asks_number, asks_shell, asks_text, command_answered, entry, existence_answered}
use Rattle.just_builtins.specs.Asking.{first_set, number_answered, or_asks, text_answered, none_set}
use Rattle.just_builtins.specs.Called.{Called, Returned, Said, tree}
use Rattle.just_builtins.specs.Meaning.{has_lists, or_fails, reply, says_truth, truth, value_truth}
use Rattle.just_builtins.specs.Reply as replies
use Rattle.just_builtins.specs.Reply.{FunctionReply, Stops, says}
use Rattle.just_builtins.specs.Shape.{builtin_of, is_text}
use Rattle.just_builtins.specs.declared.builtin.Builtin.{Builtin}
use Rattle.just_builtins.specs.declared.builtin.Builtin.TheVariants as builtin
use Rattle.just_meaning.specs.Callee.{Callee, Defined, BuiltIn, LeftOut, Unknown, accepts, callee}
use Rattle.just_meaning.specs.Closings.{dynamic, inside}
use Rattle.just_meaning.specs.Meaning as reads
use Rattle.just_meaning.specs.Meaning.{Program, Situation, Deeper, AtLimit, WithinLimit, Row, answered, argument, as_it_is, built_in_call, built_in_context}
use Rattle.just_meaning.specs.Meaning.{called, eval, eval_row, returned, texts_of}
use Rattle.just_meaning.specs.Assignments.{assignment_at}
use Rattle.just_meaning.specs.Module.{assigned, evaluated, is_taken, or_override, run, situation_at, turn, turn_of}
use Rattle.just_soundness.proofs.Forms.{holds_eval}

-- no question was answered by `NoMemory`
abbrev pub AllAnswered : List Event → Type 0
AllAnswered [] = Unit {0}
AllAnswered (interaction.Asked q a ∷ es) = (a ≢ Failed NoMemory) × AllAnswered es
AllAnswered (interaction.Noted x ∷ es) = AllAnswered es
AllAnswered (interaction.Checked p v a ∷ es) = AllAnswered es

-- ---- interaction trees

abbrev Heeds : (A : Type 0) → Tree A → Type 0
Heeds A (done o) = Unit {0}
Heeds A (ask q next) = (next (Failed NoMemory) ≡ done Stopped) × ((a : Answer) → Heeds A (next a))
Heeds A (note x rest) = Heeds A rest
Heeds A (check p v next) = (w : Verdict) → Heeds A (next w)

heeds_bind : (A B : Type 0) (t : Tree A) (go : A → Tree B) → Heeds A t → ((a : A) → Heeds B (go a)) → Heeds B (bind t go)
heeds_bind A B (done (Gave a)) go h k = k a
heeds_bind A B (done (Refused r)) go h k = tt
heeds_bind A B (done Stopped) go h k = tt
heeds_bind A B (ask q next) go (stops, h) k = (ap (λ t. bind t go) stops, λ a. heeds_bind A B (next a) go (h a) k)
heeds_bind A B (note x rest) go h k = heeds_bind A B rest go h k
heeds_bind A B (check p v next) go h k = λ w. heeds_bind A B (next w) go (h w) k

stopped : {A : Type 0} {es : List Event} {o : Outcome A} → Path freely (done Stopped) es o → o ≡ Stopped
stopped Ends = refl
stopped interaction.Stops = refl

-- on a path to any other end, no answer is `NoMemory`
all_answered : {A : Type 0} {t : Tree A} {es : List Event} {o : Outcome A} → Path freely t es o → Heeds A t → o ≢ Stopped → AllAnswered es
all_answered Ends h some = tt
all_answered interaction.Stops h some = tt
all_answered {o = o} (Asks {next = next} {a = a} {es = es} p) h some =
    (λ none. some (stopped (subst (λ t. Path freely t es o) (ap next none ∙ h.0) p)), all_answered p (h.1 a) some)
all_answered (Notes e p) h some = all_answered p h some
all_answered (Checks {a = a} p) h some = all_answered p (h a) some
all_answered (Shuts e) h some = tt

-- ---- built-in functions

abbrev HeedsReply : FunctionReply → Type 0
HeedsReply (replies.Asks q next) = (next (Failed NoMemory) ≡ Stops) × ((a : Answer) → HeedsReply (next a))
HeedsReply _ = Unit {0}

heeds_tree : (shown : Frames) (r : FunctionReply) → HeedsReply r → Heeds Called (tree shown r)
heeds_tree shown (replies.Asks q next) (stops, h) = (ap (tree shown) stops, λ a. heeds_tree shown (next a) (h a))
heeds_tree shown (replies.Answers v) h = tt
heeds_tree shown (replies.Fails message) h = tt
heeds_tree shown Stops h = tt

or_heeds : (text : Option Text) (message : Text) (go : Text → FunctionReply) → ((text : Text) → HeedsReply (go text)) → HeedsReply (or_fails text message go)
or_heeds (Some text) message go h = h text
or_heeds None message go h = tt

says_heeds : (text : Option Text) (message : Text) → HeedsReply (or_fails text message says)
says_heeds text message = or_heeds text message says (λ text. tt)

truth_heeds : (lists : Bool) (r : Result Bool Text) → HeedsReply (says_truth lists r)
truth_heeds lists (Ok b) = tt
truth_heeds lists (Err message) = tt

-- the question itself does not matter here
text_heeds : (absent : FunctionReply) (odd faulty : Text → Text) → HeedsReply absent → HeedsReply (asks_text Executable absent odd faulty)
text_heeds absent odd faulty h = (refl, at)
  where
    at : (a : Answer) → HeedsReply (text_answered absent odd faulty a)
    at Absent = h
    at (Failed (Message text)) = tt
    at (Failed (Code n)) = tt
    at (Failed NoMemory) = tt
    at _ = tt

number_heeds : HeedsReply (asks_number Cpus)
number_heeds = (refl, at)
  where
    at : (a : Answer) → HeedsReply (number_answered a)
    at (Numbered n) = tt
    at _ = tt

existence_heeds : (c : Context) (truth : Bool → Value) (path : Text) → HeedsReply (asks_existence c truth path)
existence_heeds c truth [] = tt
existence_heeds c truth (b ∷ bs) = (refl, at)
  where
    at : (a : Answer) → HeedsReply (existence_answered truth a)
    at (Found there) = tt
    at _ = tt

unset_heeds : (keys : List Text) (default : Option Value) → HeedsReply (none_set keys default)
unset_heeds keys (Some v) = tt
unset_heeds keys None = tt

or_asks_heeds : (text : Option Text) (other : FunctionReply) → HeedsReply other → HeedsReply (or_asks text other)
or_asks_heeds (Some text) other h = tt
or_asks_heeds None other h = h

first_set_heeds : (dotenv : List (Text × Text)) (rest : FunctionReply) → HeedsReply rest → (keys : List Text) → HeedsReply (first_set dotenv rest keys)
first_set_heeds dotenv rest h [] = h
first_set_heeds dotenv rest h (key ∷ keys) = or_asks_heeds (entry dotenv key) _ (text_heeds _ _ _ (first_set_heeds dotenv rest h keys))

environment_heeds : (c : Context) (keys : List Text) (default : Option Value) → HeedsReply (asks_environment c keys default)
environment_heeds c keys default = first_set_heeds c.fixed.dotenv (none_set keys default) (unset_heeds keys default) keys

command_heeds : (a : Answer) → HeedsReply (command_answered a)
command_heeds (Failed (Message text)) = tt
command_heeds (Failed (Code n)) = tt
command_heeds (Failed NoMemory) = tt
command_heeds _ = tt

dry_heeds : (dry : Bool) (text : Text) (q : Blind) → HeedsReply (if dry then says text else replies.Asks q command_answered)
dry_heeds true text q = tt
dry_heeds false text q = (refl, command_heeds)

shell_heeds : (c : Context) (words : List Text) → HeedsReply (asks_shell c words)
shell_heeds c [] = tt
shell_heeds c (command ∷ arguments) = dry_heeds c.fixed.config.dry_run _ _

reply_heeds : (b : Builtin) (c : Context) (vs : List Value) → HeedsReply (reply b c vs)
reply_heeds builtin.Arch c vs = text_heeds _ _ _ tt
reply_heeds builtin.Bool c vs = truth_heeds (has_lists c) (value_truth (argument_at vs 0))
reply_heeds builtin.CacheDirectory c vs = text_heeds _ _ _ tt
reply_heeds builtin.Canonicalize c vs = text_heeds _ _ _ tt
reply_heeds builtin.Capitalize c vs = says_heeds (capitalize (text_at vs 0)) _
reply_heeds builtin.ConfigDirectory c vs = text_heeds _ _ _ tt
reply_heeds builtin.ConfigLocalDirectory c vs = text_heeds _ _ _ tt
reply_heeds builtin.DataDirectory c vs = text_heeds _ _ _ tt
reply_heeds builtin.DataLocalDirectory c vs = text_heeds _ _ _ tt
reply_heeds builtin.Env c vs = environment_heeds c (argument_at vs 0) (slice_get vs 1)
reply_heeds builtin.EnvVar c vs = environment_heeds c (argument_at vs 0) None
reply_heeds builtin.EnvVarOrDefault c vs = environment_heeds c (argument_at vs 0) (Some (argument_at vs 1))
reply_heeds builtin.ExecutableDirectory c vs = text_heeds _ _ _ tt
reply_heeds builtin.Extension c vs = says_heeds (path.extension (text_at vs 0)) _
reply_heeds builtin.FileName c vs = says_heeds (path.file_name (text_at vs 0)) _
reply_heeds builtin.FileStem c vs = says_heeds (path.file_stem (text_at vs 0)) _
reply_heeds builtin.HomeDirectory c vs = text_heeds _ _ _ tt
reply_heeds builtin.JustExecutable c vs = text_heeds _ _ _ tt
reply_heeds builtin.JustPid c vs = number_heeds
reply_heeds builtin.JustfileDirectory c vs = says_heeds (path.parent c.fixed.justfile) _
reply_heeds builtin.Lowercase c vs = says_heeds (lowercase (text_at vs 0)) _
reply_heeds builtin.ModuleDirectory c vs = says_heeds (path.parent c.fixed.source) _
reply_heeds builtin.NumCpus c vs = number_heeds
reply_heeds builtin.Os c vs = text_heeds _ _ _ tt
reply_heeds builtin.OsFamily c vs = text_heeds _ _ _ tt
reply_heeds builtin.ParentDirectory c vs = or_heeds (path.parent (text_at vs 0)) _ _ (λ directory. tt)
reply_heeds builtin.PathExists c vs = existence_heeds c (truth (has_lists c)) (text_at vs 0)
reply_heeds builtin.Read c vs = text_heeds _ _ _ tt
reply_heeds builtin.RecipeName c vs = says_heeds c.recipe _
reply_heeds builtin.Require c vs = text_heeds _ _ _ tt
reply_heeds builtin.RuntimeDirectory c vs = text_heeds _ _ _ tt
reply_heeds builtin.Shell c vs = shell_heeds c (map first vs)
reply_heeds builtin.SourceDirectory c vs =
    or_heeds (path.parent c.fixed.justfile) _ _ (λ directory. says_heeds (path.parent (path.joined_paths directory c.name.path)) _)
reply_heeds builtin.SourceFile c vs = or_heeds (path.parent c.fixed.justfile) _ _ (λ directory. tt)
reply_heeds builtin.Uppercase c vs = says_heeds (uppercase (text_at vs 0)) _
reply_heeds builtin.Which c vs = text_heeds _ _ _ tt
reply_heeds builtin.WithoutExtension c vs = or_heeds (path.parent (text_at vs 0)) _ _ (λ directory. or_heeds (path.file_stem (text_at vs 0)) _ _ (λ stem. tt))
reply_heeds _ c vs = tt

-- ---- expressions

abbrev HeedsDeeper : Deeper → Type 0
HeedsDeeper AtLimit = Unit {0}
HeedsDeeper (WithinLimit run) = (f : Function) (s : Situation) (vs : List Value) → Heeds Value (run f s vs)

returned_heeds : (t : Token) (r : Called) → Heeds Value (returned t r)
returned_heeds t (Returned v) = tt
returned_heeds t (Said message) = tt

argument_heeds : (is_text : Bool) (t : Token) (v : Value) → Heeds Value (argument is_text t v)
argument_heeds false t v = tt
argument_heeds true t [] = tt
argument_heeds true t (text ∷ []) = tt
argument_heeds true t (text ∷ next ∷ texts) = tt

-- each look at a value heeds `NoMemory`, and so does the row
abbrev HeedsRow : Row → Type 0
HeedsRow row = (look : ℕ → Value → Tree Value) → ((i : ℕ) (v : Value) → Heeds Value (look i v)) → Heeds (List Value) (row look)

if_heeds : (b : Bool) (x y : Tree Value) → Heeds Value x → Heeds Value y → Heeds Value (if b then x else y)
if_heeds true x y h k = h
if_heeds false x y h k = k

called_heeds : (c : Program) (t : Token) (what : Callee) (d : Deeper) (s : Situation) (n : ℕ) (row : Row) → HeedsDeeper d → HeedsRow row
    → Heeds Value (called c t what d s n row)
called_heeds c t (Defined f) AtLimit s n row h k = tt
called_heeds c t (Defined f) (WithinLimit run) s n row h k =
    if_heeds (nat_eq n (length f.parameters)) _ _ (heeds_bind _ _ (row as_it_is) (run f s) (k as_it_is (λ i v. tt)) (h f s)) tt
called_heeds c t (BuiltIn f) d s n row h k =
    if_heeds (accepts (BuiltIn f) n) _ _
    (heeds_bind _ _ (row (texts_of f t)) (built_in_call c s t f) (k (texts_of f t) (λ i v. argument_heeds (is_text f i) t v))
    (λ vs. heeds_bind _ _ (tree s.shown (reply (builtin_of f) (built_in_context c s t) vs)) (returned t)
    (heeds_tree s.shown _ (reply_heeds (builtin_of f) (built_in_context c s t) vs)) (returned_heeds t)))
    tt
called_heeds c t LeftOut d s n row h k = tt
called_heeds c t Unknown d s n row h k = tt

variable_heeds : (s : Situation) (number : Option ℕ) → Unit {0} → (t : Token) → Heeds Value (reads.variable t number s.names)
variable_heeds s None fit t = tt
variable_heeds s (Some n) fit t = tt

eval_heeds : (c : Program) (d : Deeper) → HeedsDeeper d → (s : Situation) (e : Expr) → Heeds Value (eval c d s e)
eval_heeds c d h s e =
    holds_eval Heeds (λ A a. tt) heeds_bind (record { assertion = λ message t. tt; operation = λ l o r t. tt; regex = λ t. tt })
    c d s (λ x. Unit {0}) (λ text t. if_heeds c.fixed.config.dry_run _ _ tt (refl, λ a. tt))
    (λ t es fit row. called_heeds c t (callee c.functions t.lexeme) d s (count es) (eval_row c d s 0 es) h row) (variable_heeds s) e (λ x y. tt)

dynamic_heeds : (c : Program) (k : ℕ) → HeedsDeeper (dynamic c k)
dynamic_heeds c zero = tt
dynamic_heeds c (suc k) = λ f s vs. eval_heeds c (dynamic c k) (dynamic_heeds c k) (inside _ s f vs) f.body

-- ---- runs

assigned_heeds : (m : Module) (frames : Frames) (a : Assignment) → Heeds Value (assigned dynamically m frames a)
assigned_heeds m frames a = by (m.overrides a.number)
  where
    by : (text : Option Text)
        → Heeds Value (or_override text (eval m.program (dynamically m frames) (situation_at m.program.fixed.settings.lists frames) a.value))
    by (Some text) = tt
    by None = eval_heeds m.program (dynamically m frames) (dynamic_heeds m.program (m.limit - 1)) (situation_at m.program.fixed.settings.lists frames) a.value

choice_heeds : (m : Module) (frames : Frames) (a : Assignment) (b : Bool)
    → Heeds Frames (if b then evaluated dynamically m frames a else gives frames)
choice_heeds m frames a true = heeds_bind Value Frames (assigned dynamically m frames a) _ (assigned_heeds m frames a) (λ v. tt)
choice_heeds m frames a false = tt

turn_heeds : (m : Module) (frames : Frames) (t : Token) (x : Option Assignment) → Heeds Frames (turn_of dynamically m frames t x)
turn_heeds m frames t None = tt
turn_heeds m frames t (Some a) = choice_heeds m frames a (is_taken m frames a)

run_heeds : (m : Module) (frames : Frames) (names : List Token) → Heeds Frames (run dynamically m frames names)
run_heeds m frames [] = tt
run_heeds m frames (t ∷ left) =
    heeds_bind Frames Frames (turn dynamically m frames t) _ (turn_heeds m frames t (assignment_at m.assignments t.lexeme)) (λ next. run_heeds m next left)

-- in a run that is not stopped, no answer is `NoMemory`
pub run_answered : (m : Module) (frames : Frames) (names : List Token) {es : List Event} {o : Outcome Frames}
    → Path freely (run dynamically m frames names) es o → o ≢ Stopped → AllAnswered es
run_answered m frames names path some = all_answered path (run_heeds m frames names) some
