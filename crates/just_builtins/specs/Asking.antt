-- The questions of built-in functions to the host, and the reply for each answer.
use Rattle.std.specs.Prelude.{Bool, false, ◌++◌, List, [], ◌∷◌, Option, Some, None, option_map, if◌then◌else◌, bytes_eq}
use Rattle.std.specs.Prelude.{codes, decimal, find, map}
use Rattle.std.specs.List.{join_by}
use Rattle.just_syntax.specs.Plain.{Text}
use Rattle.just_text.specs.Path.{joined_paths}
use Rattle.just_value.specs.Refusal.{Fault, Code, Message, NoMemory}
use Rattle.just_value.specs.Shown.{quoted}
use Rattle.just_value.specs.Value.{Value}
use Rattle.just_host.specs.Fault.{fault_text}
use Rattle.just_host.specs.Fixed.{working_directory}
use Rattle.just_host.specs.Function.{Context}
use Rattle.just_host.specs.Printed.{directory_word}
use Rattle.just_host.specs.Question.{Answer, Replied, Failed, Absent, NotText, Found, Numbered, TextQuestion, Variable}
use Rattle.just_host.specs.Question.{Directory, Canonicalize, Read, Which, Executable, TextOf, ExistsAt, NumberOf}
use Rattle.just_host.specs.Question.{command_question}
use Rattle.just_host.specs.declared.directory_kind.DirectoryKind.{DirectoryKind}
use Rattle.just_host.specs.declared.number_question.NumberQuestion.{NumberQuestion}
use Rattle.just_builtins.specs.Message.{unanswered, no_directory, directory_not_unicode, directory_unreadable}
use Rattle.just_builtins.specs.Message.{not_canonicalized, canonical_not_unicode, not_read, executable_unknown}
use Rattle.just_builtins.specs.Message.{executable_not_unicode, variable_not_unicode, variable_unreadable, no_variable}
use Rattle.just_builtins.specs.Message.{not_found}
use Rattle.just_builtins.specs.Reply.{FunctionReply, Answers, Fails, Asks, Stops, says}

-- The reply for an answer to a question for a text: the text; `absent`, if there is none; a message for something that
-- is not text, and one for a fault. Any other answer counts as out of memory.
abbrev pub text_answered : FunctionReply → (Text → Text) → (Text → Text) → Answer → FunctionReply
text_answered absent odd faulty (Replied text) = says text
text_answered absent odd faulty Absent = absent
text_answered absent odd faulty (NotText text) = Fails (odd text)
text_answered absent odd faulty (Failed (Message text)) = Fails (faulty text)
text_answered absent odd faulty _ = Stops

abbrev pub asks_text : TextQuestion → FunctionReply → (Text → Text) → (Text → Text) → FunctionReply
asks_text q absent odd faulty = Asks (TextOf q) (text_answered absent odd faulty)

-- ---- the system

-- the system's name for a part of itself; the message contains the name of the built-in function
abbrev pub asks_system : Text → TextQuestion → FunctionReply
asks_system name q = asks_text q (Fails (unanswered name)) (λ text. unanswered name) (λ text. unanswered name)

-- the path of the running program
abbrev pub asks_executable : FunctionReply
asks_executable = asks_text Executable (Fails (executable_unknown not_found)) executable_not_unicode executable_unknown

-- one of the user's directories
abbrev pub asks_directory : DirectoryKind → FunctionReply
asks_directory kind =
    asks_text (Directory kind) (Fails (no_directory (directory_word kind)))
    (directory_not_unicode (directory_word kind)) (directory_unreadable (directory_word kind))

-- the reply for an answer to a question for a number: its decimal digits
abbrev pub number_answered : Answer → FunctionReply
number_answered (Numbered n) = says (decimal n)
number_answered _ = Stops

abbrev pub asks_number : NumberQuestion → FunctionReply
asks_number q = Asks (NumberOf q) number_answered

-- ---- files, by paths in the working directory

abbrev pub in_working_directory : Context → Text → Text
in_working_directory c path = joined_paths (working_directory c.fixed) path

-- the canonical path, free of links, of the file at a path
abbrev pub asks_canonical : Context → Text → FunctionReply
asks_canonical c path =
    asks_text (Canonicalize (in_working_directory c path)) (Fails (not_canonicalized path not_found))
    canonical_not_unicode (not_canonicalized path)

-- the contents of a file
abbrev pub asks_contents : Context → Text → FunctionReply
asks_contents c path =
    asks_text (Read (in_working_directory c path)) (Fails (not_read path not_found)) (not_read path) (not_read path)

-- the path of the executable with this name, searched for from the working directory
abbrev pub asks_which : Context → Text → FunctionReply → FunctionReply
asks_which c name absent = asks_text (Which name (working_directory c.fixed)) absent (λ text. text) (λ text. text)

-- the reply for an answer on existence
abbrev pub existence_answered : (Bool → Value) → Answer → FunctionReply
existence_answered truth (Found there) = Answers (truth there)
existence_answered truth _ = Stops

-- whether something exists at a path; nothing does at the empty path, for which the host is not asked
abbrev pub asks_existence : Context → (Bool → Value) → Text → FunctionReply
asks_existence c truth [] = Answers (truth false)
asks_existence c truth (b ∷ bs) = Asks (ExistsAt (in_working_directory c (b ∷ bs))) (existence_answered truth)

-- ---- environment variables

-- the text for a key in a list of pairs
abbrev pub entry : List (Text × Text) → Text → Option Text
entry pairs key = option_map (λ pair. pair.1) (find (λ pair. bytes_eq pair.0 key) pairs)

-- the text, if there is one, otherwise the other reply
abbrev pub or_asks : Option Text → FunctionReply → FunctionReply
or_asks (Some text) other = says text
or_asks None other = other

-- the dotenv map's text for a key, otherwise the host's, and `rest` if there is none
abbrev pub variable_reply : List (Text × Text) → Text → FunctionReply → FunctionReply
variable_reply dotenv key rest =
    or_asks (entry dotenv key) (asks_text (Variable key) rest (variable_not_unicode key) (variable_unreadable key))

-- the value of the first of these variables that is set
abbrev pub first_set : List (Text × Text) → FunctionReply → List Text → FunctionReply
first_set dotenv none_set [] = none_set
first_set dotenv none_set (key ∷ keys) = variable_reply dotenv key (first_set dotenv none_set keys)

-- the reply if none is set: the default, or a message
abbrev pub none_set : List Text → Option Value → FunctionReply
none_set keys (Some default) = Answers default
none_set keys None = Fails (no_variable keys)

abbrev pub asks_environment : Context → List Text → Option Value → FunctionReply
asks_environment c keys default = first_set c.fixed.dotenv (none_set keys default) keys

-- ---- commands

abbrev pub fault_reply : Fault → FunctionReply
fault_reply (Code n) = Fails (fault_text (Code n))
fault_reply (Message text) = Fails (fault_text (Message text))
fault_reply NoMemory = Stops

-- the reply for an answer to a command
abbrev pub command_answered : Answer → FunctionReply
command_answered (Replied text) = says text
command_answered (Failed fault) = fault_reply fault
command_answered _ = Stops

-- a call of `shell`, as it is written
abbrev pub shell_call : List Text → Text
shell_call words = codes "shell(" ++ (join_by (λ word. word) (codes ", ") (map quoted words) ++ codes ")")

-- a command with its arguments; in a dry run the call is shown, and the host is not asked
abbrev pub asks_shell : Context → List Text → FunctionReply
asks_shell c [] = Stops
asks_shell c (command ∷ arguments) =
    if c.fixed.config.dry_run then says (shell_call (command ∷ arguments))
    else Asks (command_question c.fixed c.environment [] command (Some arguments)).blind command_answered
