use Rattle.std.proofs.Common.{◌≡◌, ◌<◌, ◌^◌, drop}
use Rattle.just_expression_parser.specs.Literal as spec
use Rattle.just_expression_parser.proofs.escapes.number.Given as goal

-- the number so far, with the remaining digits
abbrev pub invariant-loop-byte : goal.invariant-loop-byte
invariant-loop-byte l = record {
  value : spec.hexadecimal_after l.value (drop l.byte-index l.digits) ≡ spec.hexadecimal_after 0 l.digits;
  small : l.value < 16 ^ l.byte-index;
}
