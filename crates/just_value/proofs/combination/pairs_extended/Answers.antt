use Rattle.std.proofs.Common.{◌≡◌, ◌<◌, ◌+◌, ◌++◌, ◌∷◌, ◌∙◌, [], length, take, drop, ap, ap₂, sym, arith, add-one}
use Rattle.std.proofs.lemmas.List.{length-set, length-take}
use Rattle.just_value.specs.Prelude.{paired}
use Rattle.just_value.proofs.Pairs.{as_it_was, length_paired, next_replaced, paired_more}
use Rattle.just_value.proofs.combination.pairs_extended.Goals as goal

pub loop-i-preserved : goal.loop-i-preserved
loop-i-preserved c =
    let xs = c.loop-i.xs.items in
    let ys = c.args.xs.items in
    let zs = c.args.ys.now in
    let s = c.args.separator.now in
    let i = c.loop-i.i in
    let x = c.index_mut.result.now in
    let z = c.index-ys-i.result in
    let lefts = take i ys in
    let rights = take i zs in
    let done = paired s lefts rights in
    let within : i < length ys = omega (arith, c.len-i-end.ensures, c.args.xs.ok.0) in
    let beside : i < length zs = omega (arith, c.requires) in
    let left : length lefts ≡ i = omega (arith, length-take i ys) in
    let right : length rights ≡ i = omega (arith, length-take i zs) in
    let many = length_paired s lefts rights (left ∙ sym right) ∙ left in
    let same = c.loop-i.invariant.same in
    let so_far = c.loop-i.invariant.so_far in
    let old = c.index_mut.ensures.value ∙ as_it_was xs ys done i x so_far many within in
    let new = c.in_ok-extend.ensures ∙ ap₂ (λ a b. (a ++ s) ++ b) old (c.deref.ensures ∙ c.index-ys-i.is) in
    let more = sym (paired_more s ys zs i x z within beside) in
    record {
      same = length-set xs i c.extend.new.text ∙ same;
      so_far = next_replaced xs ys done i x so_far many within c.extend.new.text
          ∙ ap (λ ts. ts ++ drop (i + 1) ys) (rw (add-one) (ap (λ t. done ++ t ∷ []) new ∙ more));
    }
