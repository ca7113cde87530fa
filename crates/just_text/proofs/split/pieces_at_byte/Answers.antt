use Rattle.std.proofs.Common.{◌≡◌, ◌<◌, ◌++◌, ◌∙◌, [], length, get_or, refl, ap, sym, arith, eqb, eqb-true, append-nil}
use Rattle.std.proofs.lemmas.Str.{IsCharBoundary-start, IsCharBoundary-after_ascii}
use Rattle.just_text.proofs.Runs.{cut_here, cut_none, one_pushed}
use Rattle.just_text.proofs.split.pieces_at_byte.Goals as goal

pub loop-at-init : goal.loop-at-init
loop-at-init c =
    record {
      low = omega arith;
      high = c.place_of-at.ensures.high;
      boundary = IsCharBoundary-start c.args.text.now c.utf8.text;
      lacks = c.place_of-at.ensures.lacks;
      found = c.place_of-at.ensures.found;
      done = rw c.new-all.ensures.items refl;
    }

pub loop-at-preserved : goal.loop-at-preserved
loop-at-preserved c =
    let l = c.loop-at in
    let bytes = c.args.text.now in
    let within : l.at < length bytes = omega (arith, c.as_bytes-bytes.ensures.len) in
    let byte : get_or bytes l.at 0 ≡ c.args.separator = eqb-true _ _ (l.invariant.found within) in
    let cut = cut_here (λ b. eqb b c.args.separator) bytes l.start l.at l.invariant.low within l.invariant.lacks (l.invariant.found within) in
    record {
      low = c.place_of-at-in-loop-at.ensures.low;
      high = c.place_of-at-in-loop-at.ensures.high;
      boundary = IsCharBoundary-after_ascii bytes l.at c.utf8.text within (omega (arith, byte));
      lacks = c.place_of-at-in-loop-at.ensures.lacks;
      found = c.place_of-at-in-loop-at.ensures.found;
      done = one_pushed _ _ _ _ _ _ c.in_ok-push.ensures.items (c.in_ok-from_str.ensures ∙ c.range.ensures.value)
          (ap (λ ps. l.all.items ++ ps) (sym cut) ∙ l.invariant.done);
    }

pub returns : goal.returns
returns c =
    let l = c.loop-at in
    let bytes = c.args.text.now in
    let end : l.at ≡ length bytes = omega (arith, c.as_bytes-bytes.ensures.len, l.invariant.high) in
    let last = cut_none (λ b. eqb b c.args.separator) bytes l.start l.at l.invariant.low end l.invariant.lacks in
    sym (append-nil _) ∙ one_pushed _ _ _ _ [] _ c.in_ok-push-2.ensures.items (c.in_ok-from_str-2.ensures ∙ c.range_from.ensures.value)
    (ap (λ ps. l.all.items ++ ps) (sym last) ∙ l.invariant.done)
