use Rattle.std.proofs.Common.{◌<◌, ◌≤◌, ◌++◌, ◌∷◌, ◌∙◌, ◌-◌, length, take, drop, ap, sym, arith, append-nil}
use Rattle.just_text.proofs.Runs.{filled_end, one_pushed, past_first, skipped, taken, words_are_filled}
use Rattle.just_text.proofs.split.ascii_words.Goals as goal

pub loop-start-init : goal.loop-start-init
loop-start-init c =
    let same = c.as_bytes-bytes.ensures.value in
    let bytes = c.args.text.now in
    let start = c.white_or_not-start.result in
    record {
      high = rw same at c.white_or_not-start.ensures.high;
      first = rw same at c.white_or_not-start.ensures.found;
      done = rw c.new-words.ensures.items
          (sym (skipped bytes 0 start (omega arith) (rw same at c.white_or_not-start.ensures.high) (rw same at c.white_or_not-start.ensures.lacks)));
    }

pub loop-start-smaller : goal.loop-start-smaller
loop-start-smaller c =
    let same = c.as_bytes-bytes.ensures.value in
    let l = c.loop-start in
    let end = c.white_or_not-end in
    let within : l.start < length c.args.text.now = omega (arith, c.as_bytes-bytes.ensures.len) in
    let past = past_first c.args.text.now l.start end.result within (l.invariant.first within) end.ensures.low (rw same at end.ensures.found) in
    omega (arith, past, c.white_or_not-start-in-loop-start.ensures.low)

pub loop-start-preserved : goal.loop-start-preserved
loop-start-preserved c =
    let l = c.loop-start in
    let bytes = c.args.text.now in
    let same = c.as_bytes-bytes.ensures.value in
    let end = c.white_or_not-end in
    let next = c.white_or_not-start-in-loop-start in
    let within : l.start < length bytes = omega (arith, c.as_bytes-bytes.ensures.len) in
    let run = take (end.result - l.start) (drop l.start bytes) in
    let word = taken bytes l.start end.result within (l.invariant.first within) end.ensures.low (rw same at end.ensures.high)
    (rw same at end.ensures.lacks) (rw same at end.ensures.found) in
    let gap = skipped bytes end.result next.result next.ensures.low (rw same at next.ensures.high) (rw same at next.ensures.lacks) in
    record {
      high = rw same at next.ensures.high;
      first = rw same at next.ensures.found;
      done = one_pushed _ _ _ _ _ _ c.in_ok-push.ensures.items (c.in_ok-from_str.ensures ∙ c.range.ensures.value)
          (ap (λ ps. l.words.items ++ ps) (ap (λ ws. run ∷ ws) (sym gap) ∙ sym word) ∙ l.invariant.done);
    }

pub returns : goal.returns
returns c =
    let l = c.loop-start in
    let past : length c.args.text.now ≤ l.start = omega (arith, c.as_bytes-bytes.ensures.len) in
    sym (append-nil _) ∙ (ap (λ ws. l.words.items ++ ws) (sym (filled_end c.args.text.now l.start past))
    ∙ (l.invariant.done ∙ words_are_filled c.args.text.now c.requires))
