use Rattle.std.proofs.Common.{◌≡◌, ◌++◌, length, map, option_map}
use Rattle.just_case_reader.specs.Prelude.{if_names, spaced_pieces}
use Rattle.just_case_reader.proofs.rest.parse_pieces.Given as goal
use denote.Shadow.{shadow}
use denote.Text.{Utf8}

-- the names so far, and those of the rest
abbrev pub invariant-loop-name : goal.invariant-loop-name
invariant-loop-name l = record {
  text : shadow (Utf8 l.rest);
  same : option_map (λ list. map (λ name. name.now) l.names.items ++ list) (if_names (spaced_pieces l.rest)) ≡ if_names (spaced_pieces l.text);
}

abbrev pub decreases-loop-name : goal.decreases-loop-name
decreases-loop-name l = length l.rest
