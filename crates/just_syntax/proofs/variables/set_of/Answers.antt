use Rattle.std.proofs.Common.{◌≡◌, ◌||◌, Bool, true, false, cond, refl, ◌∙◌, sym, ap, take, rules}
use Rattle.std.specs.Bool.{nat_eq}
use Rattle.std.specs.List.{list_any}
use Rattle.std.proofs.lemmas.List.Folds.{list_any_more}
use Rattle.just_syntax.proofs.variables.set_of.Goals as goal

either : (t s : Bool) → cond t true s ≡ (s || t)
either true true = refl
either true false = refl
either false true = refl
either false false = refl

pub loop-number-preserved : goal.loop-number-preserved
loop-number-preserved c = λ n.
    let added = rw (c.loop-number.invariant n) at (c.in_ok-insert.ensures.updates.0 n) in
    let swapped = either (nat_eq c.number-item.result n) (list_any (λ number. nat_eq number n) (take c.loop-number.number-index c.args.numbers.now)) in
    let more = list_any_more (λ number. nat_eq number n) c.args.numbers.now c.loop-number.number-index c.number-item.result (search rules) in
    let item = c.number-item.is in
    added ∙ swapped ∙ ap (λ number. list_any (λ number. nat_eq number n) (take c.loop-number.number-index c.args.numbers.now) || nat_eq number n) item
    ∙ sym more
