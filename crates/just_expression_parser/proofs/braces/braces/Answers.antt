use Rattle.std.proofs.Common.{rules, string_bytes}
use Rattle.just_expression_parser.proofs.Braced.{cut_once, goes_on, is_done, match_none}
use Rattle.just_expression_parser.proofs.braces.braces.Goals as goal

pub loop-before-preserved : goal.loop-before-preserved
loop-before-preserved c =
    let cut = rw c.in-Some.is at (cut_once c.loop-before.rest.now c.split_once.result c.split_once.ensures.cases) in
    record {
      utf8 = search rules;
      value = rw (c.in_ok-push_str-2.ensures.bytes, c.in_ok-push_str.ensures.bytes)
          (goes_on (string_bytes c.loop-before.all) c.loop-before.rest.now c.in-Some.before.now c.in-Some.after.now _ cut c.loop-before.invariant.value);
    }

pub returns : goal.returns
returns c =
    let same = match_none _ c.split_once.result c.in_default.not-Some (cut_once c.loop-before.rest.now c.split_once.result c.split_once.ensures.cases) in
    rw c.in_ok-push_str-3.ensures.bytes (is_done (string_bytes c.loop-before.all) c.loop-before.rest.now _ same c.loop-before.invariant.value)
