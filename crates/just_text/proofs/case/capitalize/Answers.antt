use Rattle.std.proofs.Common.{Some, ap, sym}
use Rattle.just_text.proofs.Ascii.{all_ascii, capital_parts}
use Rattle.just_text.proofs.case.capitalize.Goals as goal

pub returns : goal.returns
returns c = rw (
  all_ascii c.args.text.now c.if-not-is_ascii.ensures.cases,
  c.in_ok-push_str.ensures.bytes,
  c.deref.ensures,
  c.in_ok-capitalized.ensures.ok,
  c.in_ok-rest.ensures.ok,
  c.range.ensures.value,
  c.range_from.ensures.value,
) (ap Some (sym (capital_parts c.args.text.now)))
