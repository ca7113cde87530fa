use Rattle.std.proofs.Common.{◌<◌, get_or, length, slice_set, subst, ◌∙◌, ap, ap₂, add-one}
use Rattle.just_text.specs.Prelude.{exchanged}
use Rattle.just_text.proofs.Exchanged.{exchanged_next}
use Rattle.just_text.proofs.replace.all_exchanged.Goals as goal

pub loop-byte-preserved : goal.loop-byte-preserved
loop-byte-preserved c =
    let i = c.loop-byte.byte-index in
    let f = exchanged c.args.from c.args.to in
    let within = subst (λ bs. i < length bs) c.deref_mut-byte-items.ensures.value c.loop-byte-test.true in
    let byte = c.exchanged.ensures ∙ ap (λ bs. f (get_or bs i 0)) c.loop-byte.invariant in
    rw add-one (ap₂ (λ bs b. slice_set bs i b) c.loop-byte.invariant byte ∙ exchanged_next f c.args.bytes.items i within)
