-- The answers of a host that looks them up in maps of texts.
use Rattle.std.specs.Prelude.{Option, Some, None, string_bytes, is_some, codes}
use Rattle.std.specs.Option.{option_map}
use Rattle.std.specs.BTreeMap.{BTreeMap, get_by_text}
use Rattle.std.specs.declared.string.String.{String}
use Rattle.just_syntax.specs.Plain.{Text}
use Rattle.just_value.specs.Refusal.{Message}
use Rattle.just_host.specs.Question.{Blind, CommandOf, TextOf, ExistsAt, NumberOf, Variable, Read, Answer, Replied}
use Rattle.just_host.specs.Question.{Failed, Absent, Found, Numbered}

-- the text at a key of a map
abbrev pub text_for_key : {A B : Type 0} → BTreeMap (String A) (String B) → Text → Option Text
text_for_key map key = option_map string_bytes (get_by_text map key)

-- what commands write, what variables hold, what files hold
pub record Texts : Type 0 where
  pub commands : Text → Option Text
  pub variables : Text → Option Text
  pub files : Text → Option Text

abbrev pub or_absent : Option Text → Answer
or_absent (Some text) = Replied text
or_absent None = Absent

abbrev pub or_unknown : Option Text → Answer
or_unknown (Some text) = Replied text
or_unknown None = Failed (Message (codes "unknown command"))

-- what is in no map is not there
abbrev pub answer_to : Texts → Blind → Answer
answer_to t (CommandOf c) = or_unknown (t.commands c.command)
answer_to t (TextOf (Variable key)) = or_absent (t.variables key)
answer_to t (TextOf (Read path)) = or_absent (t.files path)
answer_to t (TextOf _) = Absent
answer_to t (ExistsAt path) = Found (is_some (t.files path))
answer_to t (NumberOf _) = Numbered 1
