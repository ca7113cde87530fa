use Rattle.std.proofs.Common.{◌≡◌, ◌+◌, ◌^◌, ◌≤◌, drop}
use Rattle.just_case_reader.specs.Rest.{decimal_after}
use Rattle.just_case_reader.proofs.rest.parse_number.Given as goal

-- the remaining digits after the number so far give the number of all digits
abbrev pub invariant-loop-digit : goal.invariant-loop-digit
invariant-loop-digit l = record {
  small : l.number + 1 ≤ 10 ^ l.digit-index;
  same : decimal_after l.number (drop l.digit-index l.digits) ≡ decimal_after 0 l.digits;
}
