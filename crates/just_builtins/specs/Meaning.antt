-- The reply of each built-in function: its value, message or questions. One line per function.
use Rattle.std.specs.Prelude.{ℕ, ◌++◌, Bool, true, false, ◌||◌, List, [], ◌∷◌, Option, Some, None, Result, Ok, Err}
use Rattle.std.specs.Prelude.{unwrap_or, if◌then◌else◌, bytes_eq, codes, decimal, length, map, slice_get}
use Rattle.std.specs.List.{join_by}
use Rattle.std.specs.Str.{trim, trim_start, trim_end}
use Rattle.just_syntax.specs.Plain.{Text}
use Rattle.just_text.specs.Case.{capitalize, lowercase, uppercase}
use Rattle.just_text.specs.Path as path
use Rattle.just_text.specs.Pattern.{without_start, without_end, without_starts, without_ends}
use Rattle.just_text.specs.Quote.{single_quoted}
use Rattle.just_text.specs.Replace.{replaced}
use Rattle.just_text.specs.Split.{words, split}
use Rattle.just_text.specs.Uri.{encoded}
use Rattle.just_value.specs.Shown.{shown}
use Rattle.just_value.specs.Value.{Value, from_condition, joined}
use Rattle.just_host.specs.Function.{Context}
use Rattle.just_host.specs.Question.{Arch, Os, OsFamily}
use Rattle.just_host.specs.declared.directory_kind.DirectoryKind.TheVariants as kinds
use Rattle.just_host.specs.declared.number_question.NumberQuestion.TheVariants.{ProcessId, Cpus}
use Rattle.just_builtins.specs.Argument.{argument_at, text_at, text_given, first}
use Rattle.just_builtins.specs.Asking.{asks_canonical, asks_contents, asks_directory, asks_environment, asks_executable}
use Rattle.just_builtins.specs.Asking.{asks_existence, asks_number, asks_shell, asks_system, asks_which}
use Rattle.just_builtins.specs.Message.{not_extracted, no_parent, no_justfile_directory, not_boolean, many_for_boolean}
use Rattle.just_builtins.specs.Message.{past_ascii, outside_recipe, no_executable}
use Rattle.just_builtins.specs.Reply.{FunctionReply, Answers, Fails, says}
use Rattle.just_builtins.specs.declared.builtin.Builtin.{Builtin}
use Rattle.just_builtins.specs.declared.builtin.Builtin.TheVariants as builtin

-- the reply for a text, or the message if there is none
abbrev pub or_fails : Option Text → Text → (Text → FunctionReply) → FunctionReply
or_fails (Some text) message go = go text
or_fails None message go = Fails message

-- whether the module has lists enabled
abbrev pub has_lists : Context → Bool
has_lists c = c.fixed.settings.lists

-- a boolean as a value: with lists one text or the empty list, otherwise `true` or `false`
abbrev pub truth : Bool → Bool → Value
truth true b = from_condition b
truth false true = codes "true" ∷ []
truth false false = codes "false" ∷ []

abbrev pub is_false : Text → Bool
is_false text = bytes_eq text [] || bytes_eq text (codes "0") || bytes_eq text (codes "false")

abbrev pub is_true : Text → Bool
is_true text = bytes_eq text (codes "1") || bytes_eq text (codes "true")

-- a text as a boolean, or why it is not one
abbrev pub text_truth : Text → Result Bool Text
text_truth text = if is_false text then Ok false else (if is_true text then Ok true else Err (not_boolean text))

-- a value as a boolean, or why it is not one
abbrev pub value_truth : Value → Result Bool Text
value_truth [] = Ok false
value_truth (text ∷ []) = text_truth text
value_truth (text ∷ next ∷ texts) = Err many_for_boolean

abbrev pub says_truth : Bool → Result Bool Text → FunctionReply
says_truth lists (Ok b) = Answers (truth lists b)
says_truth lists (Err message) = Fails message

-- A function applied to each element. Without lists, to each word of the joined text; the words are joined by spaces
-- again.
abbrev pub each : Bool → (Text → Text) → Value → Value
each true change v = map change v
each false change v = joined (map change (words (joined v))) ∷ []

-- the text in another case, if it is ASCII
abbrev pub cased : (Text → Option Text) → Text → FunctionReply
cased change text = or_fails (change text) (past_ascii text) says

-- a part of a path, if it has that part
abbrev pub part : Text → (Text → Option Text) → Text → FunctionReply
part name of p = or_fails (of p) (not_extracted name p) says

-- `.` instead of the empty path
abbrev pub or_dot : Text → Text
or_dot [] = codes "."
or_dot (b ∷ bs) = b ∷ bs

abbrev pub parent_directory : Text → FunctionReply
parent_directory p =
    or_fails (path.parent p) (not_extracted (codes "parent directory") p) (λ directory. says (or_dot directory))

abbrev pub without_extension : Text → FunctionReply
without_extension p =
    or_fails (path.parent p) (not_extracted (codes "parent") p) (λ directory.
    or_fails (path.file_stem p) (not_extracted (codes "file stem") p) (λ stem.
    says (path.joined_paths directory stem)))

-- paths joined from left to right
abbrev pub all_joined : Text → List Value → Text
all_joined base [] = base
all_joined base (v ∷ vs) = all_joined (path.joined_paths base (first v)) vs

-- the reply for the parent of a path, which must have one
abbrev pub with_parent : Text → (Text → FunctionReply) → FunctionReply
with_parent p go = or_fails (path.parent p) (no_parent p) go

-- the reply for the path of the file that contains the call
abbrev pub with_source : Context → (Text → FunctionReply) → FunctionReply
with_source c go = with_parent c.fixed.justfile (λ directory. go (path.joined_paths directory c.name.path))

abbrev pub justfile_directory : Text → FunctionReply
justfile_directory justfile = or_fails (path.parent justfile) (no_justfile_directory justfile) says

abbrev pub jobs : Option ℕ → Value
jobs (Some n) = decimal n ∷ []
jobs None = []

-- split at white space, or at the occurrences of a separator
abbrev pub split_at : Text → Option Text → Value
split_at text None = words text
split_at text (Some separator) = split text separator

abbrev pub reply : Builtin → Context → List Value → FunctionReply
reply builtin.Append c vs = Answers (each (has_lists c) (λ text. text ++ text_at vs 0) (argument_at vs 1))
reply builtin.Arch c vs = asks_system (codes "arch") Arch
reply builtin.Bool c vs = says_truth (has_lists c) (value_truth (argument_at vs 0))
reply builtin.CacheDirectory c vs = asks_directory kinds.Cache
reply builtin.Canonicalize c vs = asks_canonical c (text_at vs 0)
reply builtin.Capitalize c vs = cased capitalize (text_at vs 0)
reply builtin.ConfigDirectory c vs = asks_directory kinds.Config
reply builtin.ConfigLocalDirectory c vs = asks_directory kinds.ConfigLocal
reply builtin.DataDirectory c vs = asks_directory kinds.Data
reply builtin.DataLocalDirectory c vs = asks_directory kinds.DataLocal
reply builtin.EncodeUriComponent c vs = says (encoded (text_at vs 0))
reply builtin.Env c vs = asks_environment c (argument_at vs 0) (slice_get vs 1)
reply builtin.EnvVar c vs = asks_environment c (argument_at vs 0) None
reply builtin.EnvVarOrDefault c vs = asks_environment c (argument_at vs 0) (Some (argument_at vs 1))
reply builtin.Error c vs = Fails (text_at vs 0)
reply builtin.ExecutableDirectory c vs = asks_directory kinds.Executable
reply builtin.Extension c vs = part (codes "extension") path.extension (text_at vs 0)
reply builtin.FileName c vs = part (codes "file name") path.file_name (text_at vs 0)
reply builtin.FileStem c vs = part (codes "file stem") path.file_stem (text_at vs 0)
reply builtin.HomeDirectory c vs = asks_directory kinds.Home
reply builtin.InvocationDirectory c vs = says c.fixed.config.invocation_directory
reply builtin.InvocationDirectoryNative c vs = says c.fixed.config.invocation_directory
reply builtin.IsDependency c vs = Answers (truth (has_lists c) c.is_dependency)
reply builtin.Join c vs = says (all_joined [] vs)
reply builtin.JoinList c vs = says (join_by (λ text. text) (unwrap_or (text_given vs 1) (codes " ")) (argument_at vs 0))
reply builtin.JustExecutable c vs = asks_executable
reply builtin.JustPid c vs = asks_number ProcessId
reply builtin.JustVersion c vs = says (codes "1.58.0")
reply builtin.Justfile c vs = says c.fixed.justfile
reply builtin.JustfileDirectory c vs = justfile_directory c.fixed.justfile
reply builtin.Len c vs = says (decimal (length (argument_at vs 0)))
reply builtin.Lowercase c vs = cased lowercase (text_at vs 0)
reply builtin.ModuleDirectory c vs = with_parent c.fixed.source says
reply builtin.ModuleFile c vs = says c.fixed.source
reply builtin.ModulePath c vs = says c.fixed.module_path
reply builtin.NumCpus c vs = asks_number Cpus
reply builtin.NumJobs c vs = Answers (jobs c.fixed.config.jobs)
reply builtin.Os c vs = asks_system (codes "os") Os
reply builtin.OsFamily c vs = asks_system (codes "os_family") OsFamily
reply builtin.ParentDirectory c vs = parent_directory (text_at vs 0)
reply builtin.PathExists c vs = asks_existence c (truth (has_lists c)) (text_at vs 0)
reply builtin.Prepend c vs = Answers (each (has_lists c) (λ text. text_at vs 0 ++ text) (argument_at vs 1))
reply builtin.Quote c vs = Answers (map single_quoted (argument_at vs 0))
reply builtin.Read c vs = asks_contents c (text_at vs 0)
reply builtin.RecipeName c vs = or_fails c.recipe outside_recipe says
reply builtin.Replace c vs = says (replaced (text_at vs 0) (text_at vs 1) (text_at vs 2))
reply builtin.Require c vs = asks_which c (text_at vs 0) (Fails (no_executable (text_at vs 0)))
reply builtin.RuntimeDirectory c vs = asks_directory kinds.Runtime
reply builtin.Shell c vs = asks_shell c (map first vs)
reply builtin.Show c vs = says (shown (argument_at vs 0))
reply builtin.SourceDirectory c vs = with_source c (λ file. with_parent file says)
reply builtin.SourceFile c vs = with_source c says
reply builtin.Split c vs = Answers (split_at (text_at vs 0) (text_given vs 1))
reply builtin.Trim c vs = says (trim (text_at vs 0))
reply builtin.TrimEnd c vs = says (trim_end (text_at vs 0))
reply builtin.TrimEndMatch c vs = says (without_end (text_at vs 1) (text_at vs 0))
reply builtin.TrimEndMatches c vs = says (without_ends (text_at vs 1) (text_at vs 0))
reply builtin.TrimStart c vs = says (trim_start (text_at vs 0))
reply builtin.TrimStartMatch c vs = says (without_start (text_at vs 1) (text_at vs 0))
reply builtin.TrimStartMatches c vs = says (without_starts (text_at vs 1) (text_at vs 0))
reply builtin.Uppercase c vs = cased uppercase (text_at vs 0)
reply builtin.Which c vs = asks_which c (text_at vs 0) (Answers [])
reply builtin.WithoutExtension c vs = without_extension (text_at vs 0)
