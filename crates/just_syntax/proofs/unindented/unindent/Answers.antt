use Rattle.std.proofs.Common.{None, rules, string_bytes}
use Rattle.just_syntax.specs.Prelude.{lines}
use Rattle.just_syntax.proofs.Unindenting.{each_loses, line_on}
use Rattle.just_syntax.proofs.unindented.unindent.Goals as goal

pub loop-line-init : goal.loop-line-init
loop-line-init c = record {
  utf8 = search rules;
  loses = rw c.common_width-width.ensures (each_loses None (lines c.args.text.now));
  value = search rules;
}

pub loop-line-preserved : goal.loop-line-preserved
loop-line-preserved c =
    let loses = rw c.in-Some.ensures.cut at c.loop-line.invariant.loses in
    record {
      utf8 = search rules;
      loses = loses.1;
      value = rw (c.in_ok-push_str.ensures.bytes, c.unindented_line.ensures)
          (line_on (string_bytes c.loop-line.all) c.in-Some.line.now c.in-Some.after.now c.common_width-width.result c.loop-line.is_first c.is_empty.result
          c.loop-line.rest.now _ c.in-Some.ensures.cut c.is_empty.ensures c.loop-line.invariant.value);
    }
