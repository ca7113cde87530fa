use Rattle.std.proofs.Common.{◌∷◌, [], ◌≤◌, ◌<◌, ℕ, List, arith, map, subst, sym, take}
use Rattle.std.proofs.lemmas.List.{map-append}
use Rattle.just_resolution.proofs.Sets.{taken_more}
use Rattle.just_resolve.specs.Prelude.{AreBelow, Token, parameter_view}
use Rattle.just_resolve.proofs.Unused.{below_more}
use Rattle.just_resolve.proofs.free.Free.beyond.Goals as goal

pub loop-number-preserved : goal.loop-number-preserved
loop-number-preserved c =
    let used = c.args.used.now in
    let i = c.loop-number.number-index in
    let item = parameter_view c.loop-number-item.result in
    let old = map parameter_view (take i used) in
    let next = c.loop-number.next in
    let end = c.max-next.result in
    let more = taken_more parameter_view used i c.loop-number-item.result c.loop-number-test.true c.loop-number-item.is in
    let up : next ≤ end = omega (arith, c.max-next.ensures) in
    let new : item.1 < end = omega (arith, c.max-next.ensures, c.in-Some.ensures, c.get.ensures) in
    subst (λ (ps : List (Token × ℕ)). AreBelow end (map (λ p. p.1) ps)) (sym more)
    (subst (AreBelow end) (sym (map-append (λ (p : Token × ℕ). p.1) old (item ∷ [])))
    (below_more next end item.1 (map (λ (p : Token × ℕ). p.1) old) c.loop-number.invariant up new))
