use Rattle.std.proofs.Common.{◌≡◌, ◌∙◌, ◌+◌, ◌<◌, ◌++◌, ◌==◌, [], refl, length, take, get_or, ap, ap₂, sym, arith, if◌then◌else◌}
use Rattle.std.proofs.lemmas.Bool.{ne_eqb}
use Rattle.std.proofs.lemmas.List.{length-take-le, take_more}
use Rattle.just_text.proofs.Joined.{joined_after, joined_by}
use Rattle.just_text.proofs.join_list.join_list.Goals as goal

pub loop-text-preserved : goal.loop-text-preserved
loop-text-preserved c =
    let texts = c.args.texts.now in
    let separator = c.args.separator.now in
    let i = c.loop-text.text-index in
    let within : i < length texts = omega (arith, c.loop-text-test.true) in
    let front : length (take i texts) ≡ i = length-take-le i texts (omega arith) in
    let between = c.loop-text.invariant.next ∙ ap (λ n. if n == 0 then [] else separator) (sym front) in
    let so_far = c.in_ok-push_short.ensures ∙ ap₂ (λ a b. a ++ b) c.loop-text.invariant.so_far between in
    let text = c.deref.ensures ∙ c.text-item.is in
    record {
      so_far = c.in_ok-push_str.ensures.bytes ∙ (ap₂ (λ a b. a ++ b) so_far text
          ∙ sym (ap (joined_by separator) (take_more texts i _ within) ∙ joined_after separator (take i texts) (get_or texts i _)));
      next = rw (ne_eqb (i + 1) 0 (λ e. absurd (omega arith))) refl;
    }
