use Rattle.std.proofs.Common.{◌≡◌, ◌<◌, length, get_or, refl, arith, append_assoc, eqb-true}
use Rattle.std.proofs.lemmas.Grind.{common_steps}
use Rattle.std.proofs.lemmas.Str.{IsCharBoundary-start, IsCharBoundary-after_ascii}
use Rattle.just_text.proofs.Runs.{substituted_here, substituted_none}
use Rattle.just_text.proofs.replace.push_substituted.Goals as goal

pub loop-at-init : goal.loop-at-init
loop-at-init c =
    record {
      low = omega arith;
      high = c.place_of-at.ensures.high;
      boundary = IsCharBoundary-start c.args.text.now c.utf8.text;
      lacks = c.place_of-at.ensures.lacks;
      found = c.place_of-at.ensures.found;
      done = refl;
    }

pub loop-at-preserved : goal.loop-at-preserved
loop-at-preserved c =
    let l = c.loop-at in
    let bytes = c.args.text.now in
    let within : l.at < length bytes = omega (arith, c.as_bytes-bytes.ensures.len) in
    let byte : get_or bytes l.at 0 ≡ c.args.byte = eqb-true _ _ (l.invariant.found within) in
    let step = substituted_here c.args.byte c.args.to.now bytes l.start l.at l.invariant.low within l.invariant.lacks (l.invariant.found within) in
    record {
      low = c.place_of-at-in-loop-at.ensures.low;
      high = c.place_of-at-in-loop-at.ensures.high;
      boundary = IsCharBoundary-after_ascii bytes l.at c.utf8.text within (omega (arith, byte));
      lacks = c.place_of-at-in-loop-at.ensures.lacks;
      found = c.place_of-at-in-loop-at.ensures.found;
      done = grind (arith, common_steps, append_assoc, step, l.invariant.done);
    }

pub returns : goal.returns
returns c =
    let l = c.loop-at in
    let bytes = c.args.text.now in
    let end : l.at ≡ length bytes = omega (arith, c.as_bytes-bytes.ensures.len, l.invariant.high) in
    let last = substituted_none c.args.byte c.args.to.now bytes l.start l.at l.invariant.low end l.invariant.lacks in
    grind (arith, common_steps, last, l.invariant.done)
