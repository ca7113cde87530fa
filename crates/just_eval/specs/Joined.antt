-- The joined lines of a recipe, as plain data.
use Rattle.std.specs.Prelude.{List, map, string_bytes}
use Rattle.std.specs.declared.string.String.{String}
use Rattle.std.specs.declared.vec.Vec.{Vec}
use Rattle.just_syntax.specs.Plain.{Text}
use Rattle.just_eval.specs.Commands as plain
use Rattle.just_eval.specs.declared.joined.Joined.{Joined}

-- texts, in order
abbrev pub texts_view : {A B : Type 0} → Vec (String A) B → List Text
texts_view texts = map string_bytes texts.items

abbrev pub joined_view : Joined → plain.Joined
joined_view j = record {
  commands = texts_view j.commands;
  text = string_bytes j.text;
  continues = j.continues;
}
