use Rattle.std.proofs.Common.{◌≡◌, ◌++◌, length, true, string_bytes}
use denote.Text.{Utf8}
use denote.Shadow.{shadow}
use Rattle.just_syntax.specs.Prelude.{lines, unindented_lines}
use Rattle.just_syntax.proofs.Unindenting.{EachLoses}
use Rattle.just_syntax.proofs.unindented.unindent.Given as goal

-- what was written, followed by the remaining lines, is the whole
abbrev pub invariant-loop-line : goal.invariant-loop-line
invariant-loop-line l = record {
  utf8 : shadow (Utf8 l.rest);
  loses : EachLoses l.width (lines l.rest);
  value : string_bytes l.all ++ unindented_lines l.width l.is_first (lines l.rest) ≡ unindented_lines l.width true (lines l.text);
}

abbrev pub decreases-loop-line : goal.decreases-loop-line
decreases-loop-line l = length l.rest
