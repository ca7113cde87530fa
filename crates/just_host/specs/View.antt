-- Contexts, questions and answers as plain data.
use Rattle.std.specs.Prelude.{ℕ, Bool, List, map, string_bytes, Result, Ok, Err, Vec}
use Rattle.std.specs.Borrow.{Bor}
use Rattle.std.specs.Option.{option_map}
use Rattle.std.specs.declared.string.String.{String}
use Rattle.just_syntax.specs.Plain.{Text, Interpreter}
use Rattle.just_syntax.specs.declared.out_of_memory.OutOfMemory.{OutOfMemory}
use Rattle.just_syntax.specs.View.{assignment_view, function_view, interpreter_view, name_view, pairs_view}
use Rattle.just_value.specs.Refusal.{Message, NoMemory}
use Rattle.just_value.specs.View.{frames_view, fault_view}
use Rattle.just_value.specs.declared.error.CommandFault.{CommandFault}
use Rattle.just_host.specs.declared.config.Config.{Config}
use Rattle.just_host.specs.declared.justfile.Justfile.{Justfile}
use Rattle.just_host.specs.declared.search.Search.{Search}
use Rattle.just_host.specs.declared.settings.Settings.{Settings}
use Rattle.just_host.specs.declared.execution_context.ExecutionContext.{ExecutionContext}
use Rattle.just_host.specs.declared.command_question.CommandQuestion.{CommandQuestion}
use Rattle.just_host.specs.declared.exports.EnvironmentChange.{EnvironmentChange}
use Rattle.just_host.specs.declared.exports.EnvironmentChange.TheVariants as changes
use Rattle.just_host.specs.declared.function.Context as declared_function
use Rattle.just_host.specs.declared.number_question.NumberQuestion.{NumberQuestion}
use Rattle.just_host.specs.declared.text_answer.TextAnswer.{TextAnswer}
use Rattle.just_host.specs.declared.text_answer.TextAnswer.TheVariants as answers
use Rattle.just_host.specs.declared.text_question.TextQuestion.{TextQuestion}
use Rattle.just_host.specs.declared.text_question.TextQuestion.TheVariants as texts
use Rattle.just_host.specs.declared.recorded.Recorded.{Recorded}
use Rattle.just_host.specs.declared.recorded.Recorded.TheVariants as recorded
use Rattle.just_host.specs.declared.recorder.Recorder.{Recorder}
use Rattle.just_host.specs.Exports.{Change, Sets, Removes}
use Rattle.just_host.specs.Recorded.{Kept, KeptCommand, KeptText, KeptExistence, KeptNumber}
use Rattle.just_host.specs.Settings as plain
use Rattle.just_host.specs.Justfile as modules
use Rattle.just_host.specs.Question as questions
use Rattle.just_host.specs.Fixed.{Fixed}
use Rattle.just_host.specs.Function as functions
use Rattle.just_host.specs.Question.{BlindCommand, Question, CommandOf, TextOf, ExistsAt, NumberOf, frameless, Answer}
use Rattle.just_host.specs.Question.{Replied, Failed, Absent, NotText, Found, Numbered}

abbrev pub config_view : Config → plain.Config
config_view c = record {
  dry_run = c.dry_run;
  invocation_directory = string_bytes c.invocation_directory;
  jobs = c.jobs;
  quiet = c.quiet;
  shell = option_map string_bytes c.shell;
  shell_args = option_map (λ words. map string_bytes words.items) c.shell_args;
  shell_command = c.shell_command;
}

-- a shell and its arguments, borrowed
abbrev pub shell_view : {A : Type 0} → Bor Text × Vec (Bor Text) A → Interpreter Text
shell_view shell = record { command = shell.0.now; arguments = map (λ word. word.now) shell.1.items }

abbrev pub settings_view : Settings → plain.Settings
settings_view s = record {
  allow_duplicate_recipes = s.allow_duplicate_recipes;
  allow_duplicate_variables = s.allow_duplicate_variables;
  default_list = s.default_list;
  default_script = s.default_script;
  dotenv_command = s.dotenv_command;
  dotenv_filename = s.dotenv_filename;
  dotenv_load = s.dotenv_load;
  dotenv_override = s.dotenv_override;
  dotenv_path = s.dotenv_path;
  dotenv_required = s.dotenv_required;
  export = s.export;
  fallback = s.fallback;
  guards = s.guards;
  ignore_comments = s.ignore_comments;
  indentation = s.indentation;
  lazy = s.lazy;
  lists = s.lists;
  no_cd = s.no_cd;
  no_exit_message = s.no_exit_message;
  positional_arguments = s.positional_arguments;
  quiet = s.quiet;
  script_interpreter = option_map interpreter_view s.script_interpreter;
  shell = option_map interpreter_view s.shell;
  tempdir = option_map string_bytes s.tempdir;
  unstable = s.unstable;
  windows_powershell = s.windows_powershell;
  windows_shell = option_map interpreter_view s.windows_shell;
  working_directory = option_map string_bytes s.working_directory;
}

abbrev pub search_view : Search → modules.Search
search_view s = record { justfile = string_bytes s.justfile; working_directory = string_bytes s.working_directory }

abbrev pub justfile_view : Justfile → modules.Justfile
justfile_view j = record {
  assignments = map assignment_view j.assignments;
  evaluation_order = map name_view j.evaluation_order.items;
  functions = map function_view j.functions;
  module_path = string_bytes j.module_path;
  settings = settings_view j.settings;
  source = string_bytes j.source;
  submodule = j.submodule;
  unexports = map string_bytes j.unexports.items;
  working_directory = string_bytes j.working_directory;
}

abbrev pub fixed_view : ExecutionContext → Fixed
fixed_view c = record {
  config = config_view c.config.now;
  dotenv = pairs_view c.dotenv.now;
  justfile = string_bytes c.search.now.justfile;
  search_directory = string_bytes c.search.now.working_directory;
  settings = settings_view c.module.now.settings;
  unexports = map string_bytes c.module.now.unexports.items;
  source = string_bytes c.module.now.source;
  module_path = string_bytes c.module.now.module_path;
  module_directory = string_bytes c.module.now.working_directory;
  is_submodule = c.module.now.submodule;
}

-- the context of a call of a built-in function, without the visible frames
abbrev pub function_context_view : declared_function.Context → functions.Context
function_context_view c = record {
  environment = pairs_view c.env.now;
  fixed = fixed_view c.execution_context.now;
  is_dependency = c.is_dependency;
  name = name_view c.name;
  recipe = option_map (λ name. name.token.lexeme.now) c.recipe;
}

-- a command, without the frames that it can read
abbrev pub command_view : CommandQuestion → BlindCommand
command_view q = record {
  command = q.command.now;
  arguments = option_map (λ words. map string_bytes words.now) q.arguments;
  environment = pairs_view q.env.now;
  config = config_view q.config.now;
  dotenv = pairs_view q.dotenv.now;
  settings = settings_view q.settings.now;
  unexports = map string_bytes q.unexports.now;
  working_directory = q.working_directory.now;
}

abbrev pub question_view : CommandQuestion → Question
question_view q = record { blind = CommandOf (command_view q); shown = frames_view q.scope.now }

-- a change of an environment
abbrev pub change_view : EnvironmentChange → Change
change_view (changes.Set name text) = Sets name.now (string_bytes text)
change_view (changes.Remove name) = Removes name.now

-- a command's text or fault, as an answer
abbrev pub replied : {A : Type 0} → Result (String A) CommandFault → Answer
replied (Ok text) = Replied (string_bytes text)
replied (Err fault) = Failed (fault_view fault)

abbrev pub text_question_view : TextQuestion → questions.TextQuestion
text_question_view (texts.Variable key) = questions.Variable key.now
text_question_view (texts.Directory kind) = questions.Directory kind
text_question_view (texts.Canonicalize path) = questions.Canonicalize path.now
text_question_view (texts.Read path) = questions.Read path.now
text_question_view (texts.Which name directory) = questions.Which name.now directory.now
text_question_view texts.Executable = questions.Executable
text_question_view texts.Arch = questions.Arch
text_question_view texts.Os = questions.Os
text_question_view texts.OsFamily = questions.OsFamily

abbrev pub text_question : TextQuestion → Question
text_question q = frameless (TextOf (text_question_view q))

abbrev pub text_replied : TextAnswer → Answer
text_replied (answers.Text text) = Replied (string_bytes text)
text_replied answers.Absent = Absent
text_replied (answers.NotText text) = NotText (string_bytes text)
text_replied (answers.Fault text) = Failed (Message (string_bytes text))
text_replied answers.OutOfMemory = Failed NoMemory

-- whether something exists at a path
abbrev pub existence_question : Text → Question
existence_question path = frameless (ExistsAt path)

-- whether it exists, or `OutOfMemory`, as an answer
abbrev pub existence_answer : Result Bool OutOfMemory → Answer
existence_answer (Ok there) = Found there
existence_answer (Err e) = Failed NoMemory

abbrev pub number_question : NumberQuestion → Question
number_question q = frameless (NumberOf q)

-- a number, or `OutOfMemory`, as an answer
abbrev pub number_answer : Result ℕ OutOfMemory → Answer
number_answer (Ok n) = Numbered n
number_answer (Err e) = Failed NoMemory

-- ---- recorders

abbrev pub recorded_view : Recorded → Kept
recorded_view (recorded.Command command arguments env) =
    KeptCommand command (option_map (λ words. map string_bytes words.items) arguments) (pairs_view env)
recorded_view (recorded.Text kind text directory) = KeptText kind text directory
recorded_view (recorded.Exists path) = KeptExistence path
recorded_view (recorded.Number question) = KeptNumber question

-- the records of the questions so far
abbrev pub records_view : {H : Type 0} → Recorder H → List Kept
records_view recorder = map recorded_view recorder.questions.items

-- the inner host
abbrev pub inner_host : {H : Type 0} → Recorder H → H
inner_host recorder = recorder.host
