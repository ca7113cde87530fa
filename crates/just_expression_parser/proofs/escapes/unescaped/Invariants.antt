use Rattle.std.proofs.Common.{◌≡◌, length, string_bytes}
use denote.Text.{Utf8}
use denote.Shadow.{shadow}
use Rattle.just_expression_parser.specs.Literal as spec
use Rattle.just_expression_parser.proofs.escapes.unescaped.Given as goal

-- what was written, before what the remaining text means, is the whole
abbrev pub invariant-loop-before : goal.invariant-loop-before
invariant-loop-before l = record {
  utf8 : shadow (Utf8 l.rest);
  value : spec.after_front (string_bytes l.all) (spec.unescaped spec.NoEscape l.rest) ≡ spec.unescaped spec.NoEscape l.text;
}

abbrev pub decreases-loop-before : goal.decreases-loop-before
decreases-loop-before l = length l.rest
