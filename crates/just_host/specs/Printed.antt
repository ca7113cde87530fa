-- How questions are printed.
use Rattle.std.specs.Prelude.{◌++◌, List, Option, Some, None, codes}
use Rattle.std.specs.List.{flat_map}
use Rattle.just_syntax.specs.Plain.{Text}
use Rattle.just_value.specs.Shown.{quoted}
use Rattle.just_host.specs.Question.{Blind}
use Rattle.just_host.specs.Recorded.{Kept, KeptCommand, KeptText, KeptExistence, KeptNumber, recorded}
use Rattle.just_host.specs.declared.directory_kind.DirectoryKind.{DirectoryKind}
use Rattle.just_host.specs.declared.directory_kind.DirectoryKind.TheVariants as directories
use Rattle.just_host.specs.declared.number_question.NumberQuestion.{NumberQuestion}
use Rattle.just_host.specs.declared.number_question.NumberQuestion.TheVariants.{ProcessId, Cpus}
use Rattle.just_host.specs.declared.recorded.TextKind.{TextKind}
use Rattle.just_host.specs.declared.recorded.TextKind.TheVariants as kinds

-- the word for a kind of directory
abbrev pub directory_word : DirectoryKind → Text
directory_word directories.Cache = codes "cache"
directory_word directories.Config = codes "config"
directory_word directories.ConfigLocal = codes "local config"
directory_word directories.Data = codes "data"
directory_word directories.DataLocal = codes "local data"
directory_word directories.Executable = codes "executable"
directory_word directories.Home = codes "home"
directory_word directories.Runtime = codes "runtime"

-- texts in quotes, each after a space
abbrev pub spaced : List Text → Text
spaced texts = flat_map (λ text. codes " " ++ quoted text) texts

-- the same for an optional list of texts
abbrev pub spaced_given : Option (List Text) → Text
spaced_given (Some texts) = spaced texts
spaced_given None = codes ""

-- a question for a text, by its kind and its subject
abbrev pub text_printed : TextKind → Text → Text
text_printed kinds.Variable about = codes "variable " ++ quoted about
text_printed (kinds.Directory kind) about = codes "directory " ++ directory_word kind
text_printed kinds.Canonicalize about = codes "canonicalize " ++ quoted about
text_printed kinds.Read about = codes "read " ++ quoted about
text_printed kinds.Which about = codes "which " ++ quoted about
text_printed kinds.Executable about = codes "executable"
text_printed kinds.Arch about = codes "arch"
text_printed kinds.Os about = codes "os"
text_printed kinds.OsFamily about = codes "os_family"

abbrev pub number_printed : NumberQuestion → Text
number_printed ProcessId = codes "number process_id"
number_printed Cpus = codes "number cpus"

-- a command and its arguments
abbrev pub command_printed : Text → Option (List Text) → Text
command_printed command arguments = codes "command " ++ (quoted command ++ spaced_given arguments)

-- a recorded question: its kind, and what it asks for, texts in quotes
abbrev pub kept_printed : Kept → Text
kept_printed (KeptCommand command arguments environment) = command_printed command arguments
kept_printed (KeptText kind about directory) = text_printed kind about
kept_printed (KeptExistence path) = codes "exists " ++ quoted path
kept_printed (KeptNumber q) = number_printed q

-- a question is printed as its record
abbrev pub printed_question : Blind → Text
printed_question q = kept_printed (recorded q)
