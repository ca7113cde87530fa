use Rattle.std.proofs.Common.{◌≡◌, ◌-◌, ◌≤◌, List, ℕ, ◌++◌, take, drop, IsCharBoundary, flat_map}
use Rattle.std.specs.Fmt.{HasWrittenStyled, IsFlush}
use Rattle.just_value.proofs.Escapes.{escaped_byte}
use Rattle.just_value.proofs.element.write_quoted.Given as goal

-- the bytes so far are what is written, and then the run
abbrev pub invariant-loop-at : goal.invariant-loop-at
invariant-loop-at g l = record {
  low : l.start ≤ l.at;
  boundary : IsCharBoundary l.fn.text l.start;
  done : List ℕ;
  so_far : flat_map escaped_byte (take l.at l.fn.text) ≡ done ++ take (l.at - l.start) (drop l.start l.fn.text);
  written : IsFlush l.initial.f → HasWrittenStyled g.W.Write.write_str_gives l.initial.f done l.f;
}
