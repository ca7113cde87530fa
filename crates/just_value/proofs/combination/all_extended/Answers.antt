use Rattle.std.proofs.Common.{◌≡◌, ◌<◌, ◌+◌, ◌++◌, ◌∷◌, ◌∙◌, [], List, ℕ, length, take, drop, ap, sym, arith, map}
use Rattle.std.proofs.lemmas.List.{length-map, length-set, length-take, map_more}
use Rattle.just_value.proofs.Pairs.{as_it_was, next_replaced}
use Rattle.just_value.proofs.combination.all_extended.Goals as goal

pub loop-i-preserved : goal.loop-i-preserved
loop-i-preserved c =
    let xs = c.loop-i.xs.items in
    let ys = c.args.xs.items in
    let i = c.loop-i.i in
    let x = c.index_mut.result.now in
    let f : List ℕ → List ℕ = λ t. (t ++ c.args.separator.now) ++ c.args.y.now in
    let done = map f (take i ys) in
    let within : i < length ys = omega (arith, c.len-i-end.ensures, c.args.xs.ok.0) in
    let many : length done ≡ i = omega (arith, length-map (take i ys) f, length-take i ys) in
    let same = c.loop-i.invariant.same in
    let so_far = c.loop-i.invariant.so_far in
    let old = c.index_mut.ensures.value ∙ as_it_was xs ys done i x so_far many within in
    let new = c.in_ok-extend.ensures ∙ ap f old in
    record {
      same = length-set xs i c.extend.new.text ∙ same;
      so_far = next_replaced xs ys done i x so_far many within c.extend.new.text
          ∙ ap (λ ts. ts ++ drop (i + 1) ys) (ap (λ t. done ++ t ∷ []) new ∙ sym (map_more f ys i x within));
    }
