use Rattle.std.proofs.Common.{◌≡◌, length, None, option_copied}
use denote.Text.{Utf8}
use denote.Shadow.{shadow}
use Rattle.just_syntax.specs.Prelude.{common_indentation, lines}
use Rattle.just_syntax.proofs.unindented.common_width.Given as goal

-- the common indentation so far, combined with the remaining lines, is that of all lines
abbrev pub invariant-loop-line : goal.invariant-loop-line
invariant-loop-line l = record {
  utf8 : shadow (Utf8 l.rest);
  value : common_indentation (option_copied l.common) (lines l.rest) ≡ common_indentation None (lines l.text);
}

abbrev pub decreases-loop-line : goal.decreases-loop-line
decreases-loop-line l = length l.rest
