use Rattle.std.proofs.Common.{◌≡◌, ◌+◌, ◌≤◌, drop}
use Rattle.just_syntax.specs.View.{place_view}
use Rattle.just_lexer.specs.Lexes.{place_after}
use Rattle.just_lexer.proofs.changes.place_after.Given as goal

-- the place after the bytes so far, and the place after the others
abbrev pub invariant-loop-byte : goal.invariant-loop-byte
invariant-loop-byte l = record {
  line : l.line ≤ l.offset;
  column : l.column ≤ l.offset;
  offset : l.offset ≡ l.place.offset + l.byte-index;
  same : place_after (record { column = l.column; line = l.line; offset = l.offset; path = l.place.path.now }) (drop l.byte-index l.text)
      ≡ place_after (place_view l.place) l.text;
}
