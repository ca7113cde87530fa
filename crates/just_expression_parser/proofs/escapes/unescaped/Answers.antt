use Rattle.std.proofs.Common.{lit<, rules, string_bytes}
use Rattle.std.proofs.lemmas.Str.Pattern.{split_parts}
use Rattle.just_expression_parser.proofs.Braced.{match_none}
use Rattle.just_expression_parser.proofs.Unescaped.{after_nothing, goes_on, is_done, refuses}
use Rattle.just_expression_parser.proofs.escapes.unescaped.Goals as goal

pub loop-before-init : goal.loop-before-init
loop-before-init c = record { utf8 = search rules; value = rw c.in_ok-all.ensures.bytes (after_nothing _) }

pub returns-in_default-escape : goal.returns-in_default-escape
returns-in_default-escape c =
    let l = c.loop-before in
    let parts = rw c.in-Some.is at (split_parts 92 l.rest.now c.split_once.result c.split_once.ensures.cases (lit< tt)) in
    let none = match_none _ c.escape.result c.in_default-escape.not-Some c.escape.ensures.none in
    refuses (string_bytes l.all) c.in-Some.before.now c.in-Some.after.now l.rest.now _ parts none l.invariant.value

pub loop-before-preserved : goal.loop-before-preserved
loop-before-preserved c =
    let l = c.loop-before in
    let parts = rw c.in-Some.is at (split_parts 92 l.rest.now c.split_once.result c.split_once.ensures.cases (lit< tt)) in
    record {
      utf8 = search rules;
      value = rw (c.in_ok-push.ensures, c.in_ok-push_str.ensures.bytes)
          (goes_on (string_bytes l.all) c.in-Some.before.now c.in-Some.after.now l.rest.now _ c.in-Some-escape.next.now _ parts
          (rw c.in-Some-escape.is at (c.escape.ensures.some)) l.invariant.value);
    }

pub returns : goal.returns
returns c =
    let l = c.loop-before in
    let none = match_none _ c.split_once.result c.in_default.not-Some (split_parts 92 l.rest.now c.split_once.result c.split_once.ensures.cases (lit< tt)) in
    rw c.in_ok-push_str-2.ensures.bytes (is_done (string_bytes l.all) l.rest.now _ none l.invariant.value)
