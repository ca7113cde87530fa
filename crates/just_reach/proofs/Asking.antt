-- Which built-in functions ask the host, and what.
use Rattle.std.proofs.Common.{◌≡◌, Bool, true, false, List, [], ◌∷◌, if◌then◌else◌, codes, map, Option, Some, None, Result, Ok, Err, refl, slice_get}
use Rattle.just_syntax.specs.Plain.{Text, Token}
use Rattle.just_text.specs.Case.{capitalize, lowercase, uppercase}
use Rattle.just_text.specs.Path as path
use Rattle.just_value.specs.Frames.{Frames}
use Rattle.just_value.specs.Refusal.{Code, Message, NoMemory}
use Rattle.just_value.specs.Value.{Value}
use Rattle.just_host.specs.Fixed.{working_directory}
use Rattle.just_host.specs.Function.{Context}
use Rattle.just_host.specs.Interaction.{Asked, Event}
use Rattle.just_host.specs.Printed.{directory_word}
use Rattle.just_host.specs.Question.{Absent, Answer, Arch, Blind, Canonicalize, Directory, Executable, ExistsAt, Failed, Found, NotText, NumberOf, Numbered, Os}
use Rattle.just_host.specs.Question.{OsFamily, Read, Replied, TextOf, TextQuestion, Variable, Which, command_question}
use Rattle.just_host.specs.declared.directory_kind.DirectoryKind.{DirectoryKind}
use Rattle.just_host.specs.declared.directory_kind.DirectoryKind.TheVariants as kinds
use Rattle.just_host.specs.declared.number_question.NumberQuestion.{NumberQuestion}
use Rattle.just_host.specs.declared.number_question.NumberQuestion.TheVariants.{Cpus, ProcessId}
use Rattle.just_builtins.specs.Argument.{argument_at, first, text_at}
use Rattle.just_builtins.specs.Asking.{asks_canonical, asks_contents, asks_directory, asks_environment, asks_executable, asks_existence, asks_number}
use Rattle.just_builtins.specs.Asking.{asks_shell}
use Rattle.just_builtins.specs.Asking.{asks_system, asks_text, asks_which, command_answered, entry, existence_answered, first_set, in_working_directory}
use Rattle.just_builtins.specs.Asking.{none_set}
use Rattle.just_builtins.specs.Asking.{number_answered, or_asks, shell_call, text_answered}
use Rattle.just_builtins.specs.Called.{Called, Returned, Said, tree}
use Rattle.just_builtins.specs.Meaning.{cased, has_lists, or_dot, or_fails, part, reply, says_truth, truth, value_truth, with_parent}
use Rattle.just_builtins.specs.Message.{canonical_not_unicode, directory_not_unicode, directory_unreadable, executable_not_unicode, executable_unknown}
use Rattle.just_builtins.specs.Message.{unanswered}
use Rattle.just_builtins.specs.Message.{no_directory, no_executable, no_justfile_directory, no_parent, not_canonicalized, not_extracted, not_found, not_read}
use Rattle.just_builtins.specs.Message.{outside_recipe, past_ascii, variable_not_unicode, variable_unreadable}
use Rattle.just_builtins.specs.Reply.{Answers, Asks, Fails, FunctionReply, Stops, says}
use Rattle.just_builtins.specs.Shape.{builtin_of}
use Rattle.just_builtins.specs.declared.builtin.Builtin.{Builtin}
use Rattle.just_builtins.specs.declared.builtin.Builtin.TheVariants as builtin
use Rattle.just_builtins.specs.declared.function.Function as built_in
use Rattle.just_meaning.specs.Meaning.{Program, Situation, built_in_call, built_in_context, returned}
use Rattle.just_reach.specs.Asking.{IsCommand, asks, is_shell}
use Rattle.just_interaction.proofs.Events.{AllEvents, events_bind}

-- ---- replies

-- each question of the reply has the property
abbrev pub OnlyAsks : (Blind → Type 0) → FunctionReply → Type 0
OnlyAsks P (Answers v) = Unit {0}
OnlyAsks P (Fails message) = Unit {0}
OnlyAsks P (Asks q next) = P q × ((a : Answer) → OnlyAsks P (next a))
OnlyAsks P Stops = Unit {0}

module _ (P : Blind → Type 0) where
  asks_or_fails : (o : Option Text) (message : Text) (go : Text → FunctionReply) → ((text : Text) → OnlyAsks P (go text)) → OnlyAsks P (or_fails o message go)
  asks_or_fails (Some text) message go h = h text
  asks_or_fails None message go h = tt

  asks_truth : (lists : Bool) (r : Result Bool Text) → OnlyAsks P (says_truth lists r)
  asks_truth lists (Ok b) = tt
  asks_truth lists (Err message) = tt

  text_asked : (q : TextQuestion) (absent : FunctionReply) (odd faulty : Text → Text) → P (TextOf q) → OnlyAsks P absent
      → OnlyAsks P (asks_text q absent odd faulty)
  text_asked q absent odd faulty h k = (h, by)
    where
      by : (a : Answer) → OnlyAsks P (text_answered absent odd faulty a)
      by (Replied text) = tt
      by (Failed (Code n)) = tt
      by (Failed (Message text)) = tt
      by (Failed NoMemory) = tt
      by Absent = k
      by (NotText text) = tt
      by (Found there) = tt
      by (Numbered n) = tt

  system_asked : (name : Text) (q : TextQuestion) → P (TextOf q) → OnlyAsks P (asks_system name q)
  system_asked name q h = text_asked q (Fails (unanswered name)) (λ text. unanswered name) (λ text. unanswered name) h tt

  executable_asked : P (TextOf Executable) → OnlyAsks P asks_executable
  executable_asked h = text_asked Executable (Fails (executable_unknown not_found)) executable_not_unicode executable_unknown h tt

  directory_asked : (kind : DirectoryKind) → P (TextOf (Directory kind)) → OnlyAsks P (asks_directory kind)
  directory_asked kind h =
      text_asked (Directory kind) (Fails (no_directory (directory_word kind))) (directory_not_unicode (directory_word kind))
      (directory_unreadable (directory_word kind)) h tt

  canonical_asked : (c : Context) (p : Text) → ((q : TextQuestion) → P (TextOf q)) → OnlyAsks P (asks_canonical c p)
  canonical_asked c p h =
      text_asked (Canonicalize (in_working_directory c p)) (Fails (not_canonicalized p not_found)) canonical_not_unicode (not_canonicalized p) (h _) tt

  contents_asked : (c : Context) (p : Text) → ((q : TextQuestion) → P (TextOf q)) → OnlyAsks P (asks_contents c p)
  contents_asked c p h = text_asked (Read (in_working_directory c p)) (Fails (not_read p not_found)) (not_read p) (not_read p) (h _) tt

  which_asked : (c : Context) (name : Text) (absent : FunctionReply) → ((q : TextQuestion) → P (TextOf q)) → OnlyAsks P absent
      → OnlyAsks P (asks_which c name absent)
  which_asked c name absent h k = text_asked (Which name (working_directory c.fixed)) absent (λ text. text) (λ text. text) (h _) k

  cased_asked : (change : Text → Option Text) (text : Text) → OnlyAsks P (cased change text)
  cased_asked change text = asks_or_fails (change text) (past_ascii text) says (λ t. tt)

  parent_asked : (p : Text) (go : Text → FunctionReply) → ((text : Text) → OnlyAsks P (go text)) → OnlyAsks P (with_parent p go)
  parent_asked p go h = asks_or_fails (path.parent p) (no_parent p) go h

  part_asked : (name : Text) (of : Text → Option Text) (p : Text) → OnlyAsks P (part name of p)
  part_asked name of p = asks_or_fails (of p) (not_extracted name p) says (λ t. tt)

  number_asked : (q : NumberQuestion) → P (NumberOf q) → OnlyAsks P (asks_number q)
  number_asked q h = (h, by)
    where
      by : (a : Answer) → OnlyAsks P (number_answered a)
      by (Replied text) = tt
      by (Failed fault) = tt
      by Absent = tt
      by (NotText text) = tt
      by (Found there) = tt
      by (Numbered n) = tt

  existence_asked : (c : Context) (truth : Bool → Value) (text : Text) → ((p : Text) → P (ExistsAt p)) → OnlyAsks P (asks_existence c truth text)
  existence_asked c truth [] h = tt
  existence_asked c truth (b ∷ bs) h = (h (in_working_directory c (b ∷ bs)), by)
    where
      by : (a : Answer) → OnlyAsks P (existence_answered truth a)
      by (Replied text) = tt
      by (Failed fault) = tt
      by Absent = tt
      by (NotText text) = tt
      by (Found there) = tt
      by (Numbered n) = tt

  or_asked : (o : Option Text) (other : FunctionReply) → OnlyAsks P other → OnlyAsks P (or_asks o other)
  or_asked (Some text) other h = tt
  or_asked None other h = h

  variables_asked : (dotenv : List (Text × Text)) (none : FunctionReply) (keys : List Text) → ((q : TextQuestion) → P (TextOf q)) → OnlyAsks P none
      → OnlyAsks P (first_set dotenv none keys)
  variables_asked dotenv none [] h k = k
  variables_asked dotenv none (key ∷ keys) h k =
      or_asked (entry dotenv key)
      (asks_text (Variable key) (first_set dotenv none keys) (variable_not_unicode key) (variable_unreadable key))
      (text_asked (Variable key) (first_set dotenv none keys) (variable_not_unicode key) (variable_unreadable key) (h (Variable key))
      (variables_asked dotenv none keys h k))

  none_asked : (keys : List Text) (default : Option Value) → OnlyAsks P (none_set keys default)
  none_asked keys (Some v) = tt
  none_asked keys None = tt

  environment_asked : (c : Context) (keys : List Text) (default : Option Value) → ((q : TextQuestion) → P (TextOf q))
      → OnlyAsks P (asks_environment c keys default)
  environment_asked c keys default h = variables_asked c.fixed.dotenv (none_set keys default) keys h (none_asked keys default)

  shell_asked : (c : Context) (texts : List Text) → ((q : Blind) → P q) → OnlyAsks P (asks_shell c texts)
  shell_asked c [] h = tt
  shell_asked c (command ∷ arguments) h = by c.fixed.config.dry_run
    where
      fault : (a : Answer) → OnlyAsks P (command_answered a)
      fault (Replied text) = tt
      fault (Failed (Code n)) = tt
      fault (Failed (Message text)) = tt
      fault (Failed NoMemory) = tt
      fault Absent = tt
      fault (NotText text) = tt
      fault (Found there) = tt
      fault (Numbered n) = tt

      by : (b : Bool) → OnlyAsks P (if b then says (shell_call (command ∷ arguments))
          else Asks (command_question c.fixed c.environment [] command (Some arguments)).blind command_answered)
      by true = tt
      by false = (h (command_question c.fixed c.environment [] command (Some arguments)).blind, fault)

-- ---- built-in functions

-- the built-in function is one that asks and, if it asks to run a command, it is `shell`
abbrev pub IsAskedBy : Builtin → Blind → Type 0
IsAskedBy b q = (asks b ≡ true) × (IsCommand q → is_shell b ≡ true)

-- a question for a text runs no command
no_command : (b : Builtin) → asks b ≡ true → (q : TextQuestion) → IsAskedBy b (TextOf q)
no_command b on q = (on, λ bad. absurd bad)

replies : (b : Builtin) (c : Context) (vs : List Value) → OnlyAsks (IsAskedBy b) (reply b c vs)
replies builtin.Arch c vs = system_asked (IsAskedBy builtin.Arch) (codes "arch") Arch (no_command builtin.Arch refl Arch)
replies builtin.Bool c vs = asks_truth (IsAskedBy builtin.Bool) (has_lists c) (value_truth (argument_at vs 0))
replies builtin.CacheDirectory c vs =
    directory_asked (IsAskedBy builtin.CacheDirectory) kinds.Cache (no_command builtin.CacheDirectory refl (Directory kinds.Cache))
replies builtin.Canonicalize c vs = canonical_asked (IsAskedBy builtin.Canonicalize) c (text_at vs 0) (no_command builtin.Canonicalize refl)
replies builtin.Capitalize c vs = cased_asked (IsAskedBy builtin.Capitalize) capitalize (text_at vs 0)
replies builtin.ConfigDirectory c vs =
    directory_asked (IsAskedBy builtin.ConfigDirectory) kinds.Config (no_command builtin.ConfigDirectory refl (Directory kinds.Config))
replies builtin.ConfigLocalDirectory c vs =
    directory_asked (IsAskedBy builtin.ConfigLocalDirectory) kinds.ConfigLocal (no_command builtin.ConfigLocalDirectory refl (Directory kinds.ConfigLocal))
replies builtin.DataDirectory c vs = directory_asked (IsAskedBy builtin.DataDirectory) kinds.Data (no_command builtin.DataDirectory refl (Directory kinds.Data))
replies builtin.DataLocalDirectory c vs =
    directory_asked (IsAskedBy builtin.DataLocalDirectory) kinds.DataLocal (no_command builtin.DataLocalDirectory refl (Directory kinds.DataLocal))
replies builtin.Env c vs = environment_asked (IsAskedBy builtin.Env) c (argument_at vs 0) (slice_get vs 1) (no_command builtin.Env refl)
replies builtin.EnvVar c vs = environment_asked (IsAskedBy builtin.EnvVar) c (argument_at vs 0) None (no_command builtin.EnvVar refl)
replies builtin.EnvVarOrDefault c vs =
    environment_asked (IsAskedBy builtin.EnvVarOrDefault) c (argument_at vs 0) (Some (argument_at vs 1)) (no_command builtin.EnvVarOrDefault refl)
replies builtin.ExecutableDirectory c vs =
    directory_asked (IsAskedBy builtin.ExecutableDirectory) kinds.Executable (no_command builtin.ExecutableDirectory refl (Directory kinds.Executable))
replies builtin.Extension c vs = part_asked (IsAskedBy builtin.Extension) (codes "extension") path.extension (text_at vs 0)
replies builtin.FileName c vs = part_asked (IsAskedBy builtin.FileName) (codes "file name") path.file_name (text_at vs 0)
replies builtin.FileStem c vs = part_asked (IsAskedBy builtin.FileStem) (codes "file stem") path.file_stem (text_at vs 0)
replies builtin.HomeDirectory c vs = directory_asked (IsAskedBy builtin.HomeDirectory) kinds.Home (no_command builtin.HomeDirectory refl (Directory kinds.Home))
replies builtin.JustExecutable c vs = executable_asked (IsAskedBy builtin.JustExecutable) (no_command builtin.JustExecutable refl Executable)
replies builtin.JustPid c vs = number_asked (IsAskedBy builtin.JustPid) ProcessId (refl, λ bad. absurd bad)
replies builtin.JustfileDirectory c vs =
    asks_or_fails (IsAskedBy builtin.JustfileDirectory) (path.parent c.fixed.justfile) (no_justfile_directory c.fixed.justfile) says (λ text. tt)
replies builtin.Lowercase c vs = cased_asked (IsAskedBy builtin.Lowercase) lowercase (text_at vs 0)
replies builtin.ModuleDirectory c vs = parent_asked (IsAskedBy builtin.ModuleDirectory) c.fixed.source says (λ text. tt)
replies builtin.NumCpus c vs = number_asked (IsAskedBy builtin.NumCpus) Cpus (refl, λ bad. absurd bad)
replies builtin.Os c vs = system_asked (IsAskedBy builtin.Os) (codes "os") Os (no_command builtin.Os refl Os)
replies builtin.OsFamily c vs = system_asked (IsAskedBy builtin.OsFamily) (codes "os_family") OsFamily (no_command builtin.OsFamily refl OsFamily)
replies builtin.ParentDirectory c vs =
    asks_or_fails (IsAskedBy builtin.ParentDirectory) (path.parent (text_at vs 0)) (not_extracted (codes "parent directory") (text_at vs 0))
    (λ directory. says (or_dot directory)) (λ text. tt)
replies builtin.PathExists c vs = existence_asked (IsAskedBy builtin.PathExists) c (truth (has_lists c)) (text_at vs 0) (λ p. (refl, λ bad. absurd bad))
replies builtin.Read c vs = contents_asked (IsAskedBy builtin.Read) c (text_at vs 0) (no_command builtin.Read refl)
replies builtin.RecipeName c vs = asks_or_fails (IsAskedBy builtin.RecipeName) c.recipe outside_recipe says (λ text. tt)
replies builtin.Require c vs =
    which_asked (IsAskedBy builtin.Require) c (text_at vs 0) (Fails (no_executable (text_at vs 0))) (no_command builtin.Require refl) tt
replies builtin.RuntimeDirectory c vs =
    directory_asked (IsAskedBy builtin.RuntimeDirectory) kinds.Runtime (no_command builtin.RuntimeDirectory refl (Directory kinds.Runtime))
replies builtin.Shell c vs = shell_asked (IsAskedBy builtin.Shell) c (map first vs) (λ q. (refl, λ is. refl))
replies builtin.SourceDirectory c vs =
    parent_asked (IsAskedBy builtin.SourceDirectory) c.fixed.justfile (λ directory. with_parent (path.joined_paths directory c.name.path) says)
    (λ directory. parent_asked (IsAskedBy builtin.SourceDirectory) (path.joined_paths directory c.name.path) says (λ text. tt))
replies builtin.SourceFile c vs =
    parent_asked (IsAskedBy builtin.SourceFile) c.fixed.justfile (λ directory. says (path.joined_paths directory c.name.path)) (λ text. tt)
replies builtin.Uppercase c vs = cased_asked (IsAskedBy builtin.Uppercase) uppercase (text_at vs 0)
replies builtin.Which c vs = which_asked (IsAskedBy builtin.Which) c (text_at vs 0) (Answers []) (no_command builtin.Which refl) tt
replies builtin.WithoutExtension c vs =
    asks_or_fails (IsAskedBy builtin.WithoutExtension) (path.parent (text_at vs 0)) (not_extracted (codes "parent") (text_at vs 0))
    (λ directory. or_fails (path.file_stem (text_at vs 0)) (not_extracted (codes "file stem") (text_at vs 0))
    (λ stem. says (path.joined_paths directory stem)))
    (λ directory. asks_or_fails (IsAskedBy builtin.WithoutExtension) (path.file_stem (text_at vs 0)) (not_extracted (codes "file stem") (text_at vs 0))
    (λ stem. says (path.joined_paths directory stem)) (λ text. tt))
-- the others ask nothing
replies _ c vs = tt

-- ---- interaction trees

-- the event is a question with the property
abbrev pub IsQuestion : (Blind → Type 0) → Event → Type 0
IsQuestion P (Asked q a) = P q.blind
IsQuestion P _ = ⊥

tree_asks : (P : Blind → Type 0) (shown : Frames) (r : FunctionReply) → OnlyAsks P r → AllEvents (IsQuestion P) (tree shown r)
tree_asks P shown (Answers v) h = tt
tree_asks P shown (Fails message) h = tt
tree_asks P shown (Asks q next) h = λ a. (h.0, tree_asks P shown (next a) (h.1 a))
tree_asks P shown Stops h = tt

asks_nothing : (P : Blind → Type 0) (t : Token) (r : Called) → AllEvents (IsQuestion P) (returned t r)
asks_nothing P t (Returned v) = tt
asks_nothing P t (Said message) = tt

-- a call of a built-in function makes no note, and asks only what is allowed
pub built_in_asks : (c : Program) (s : Situation) (t : Token) (f : built_in.Function) (vs : List Value)
    → AllEvents (IsQuestion (IsAskedBy (builtin_of f))) (built_in_call c s t f vs)
built_in_asks c s t f vs =
    let P = IsAskedBy (builtin_of f) in
    let answer = reply (builtin_of f) (built_in_context c s t) vs in
    events_bind (IsQuestion P) (tree s.shown answer) (returned t) (tree_asks P s.shown answer (replies (builtin_of f) (built_in_context c s t) vs))
    (asks_nothing P t)
