-- The hosts of a case.
use Rattle.std.specs.Prelude.{◌≡◌, List, [], map}
use Rattle.just_syntax.specs.Plain.{Text}
use Rattle.just_host.specs.Question.{Answer, Replied, Failed}
use Rattle.just_case_reader.specs.Case.{Case, CommandReply, Output, Broken}
use Rattle.just_script.specs.Script.{Script}
use Rattle.just_script.specs.View.{script_view}
use Rattle.just_script.specs.declared.scripted_host.ScriptedHost.{ScriptedHost}

-- the answer to a command
abbrev pub answer_of : CommandReply → Answer
answer_of (Output text) = Replied text
answer_of (Broken fault) = Failed fault

-- a host that answers commands and has no answer to any other question
abbrev pub script_of : List (Text × Text) → List CommandReply → Script
script_of always replies =
    record { always = always; replies = map answer_of replies; texts = []; exists = []; numbers = [] }

-- the script of a case
abbrev pub case_script : Case → Script
case_script c = script_of c.always c.replies

-- a case whose answers were taken out
abbrev pub without_answers : Case → Case
without_answers c = record c { always = []; replies = [] }

-- a host built around a host that answers by a script
abbrev pub MadeOf : {S : Type 0} → (ScriptedHost → S → Type 0) → Script → S → Type 0
MadeOf gives script made = (host : ScriptedHost) × (script_view host ≡ script) × gives host made
