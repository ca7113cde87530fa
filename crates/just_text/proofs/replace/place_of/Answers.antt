use Rattle.std.proofs.Common.{◌≤◌, ◌∙◌, ap, arith, drop, eqb, get_or-drop, length, length-drop, refl, sym}
use Rattle.just_text.proofs.Runs.{rest_lacks, whole_run}
use Rattle.just_text.proofs.replace.place_of.Goals as goal

pub returns-in-Some : goal.returns-in-Some
returns-in-Some c =
    let text = c.args.text.now in
    let from = c.args.from in
    let byte = c.args.byte in
    let within : from ≤ length c.as_bytes.result.now = omega arith in
    let whole = whole_run c.as_bytes.result.now from (length c.as_bytes.result.now) within refl in
    let first = rw (whole, c.as_bytes.ensures.value) at c.in-Some.ensures in
    record {
      low = omega arith;
      high = omega (arith, first.0.high, length-drop from text);
      lacks = rest_lacks byte text from c.in-Some.at first.0.before;
      found = λ within. ap (λ b. eqb b byte) (sym (get_or-drop from text c.in-Some.at 0)) ∙ first.1;
    }

pub returns-in-None : goal.returns-in-None
returns-in-None c =
    let text = c.args.text.now in
    let from = c.args.from in
    let within : from ≤ length c.as_bytes.result.now = omega arith in
    let whole = whole_run c.as_bytes.result.now from (length c.as_bytes.result.now) within refl in
    let none = rw (whole, c.as_bytes.ensures.value) at c.in-None.ensures in
    record {
      low = omega arith;
      high = omega arith;
      lacks = λ k low high. rest_lacks c.args.byte text from (length (drop from text)) none k low (omega (arith, length-drop from text, high));
      found = λ within. absurd (omega arith);
    }
