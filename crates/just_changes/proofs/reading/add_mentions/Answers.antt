use Rattle.std.proofs.Common.{◌≡◌, ◌∙◌, ℕ, List, IsTrue, ap, sym, subst}
use Rattle.just_changes.specs.Prelude.{AmongOccurrences, Occurrence, is_number_in, occurrences_in, occurrences_view, view}
use Rattle.just_changes.proofs.Readings.{same_more, occurrences_are}
use Rattle.just_changes.proofs.reading.add_mentions.Goals as goal

pub returns : goal.returns
returns c = λ x y.
    let own : ℕ → Type 0 = λ n. IsTrue (is_number_in c.args.own.now n) in
    let all = occurrences_are own (view c.args.expression.now) x in
    let seen : occurrences_view c.deref.result.now ≡ occurrences_in (view c.args.expression.now) =
    ap occurrences_view c.deref.ensures.value ∙ c.in_ok-occurrences.ensures in
    same_more (λ p. (p.0, all.1 (subst (λ (os : List Occurrence). AmongOccurrences own os x) seen p.1)))
    (λ q. (q.0, subst (λ (os : List Occurrence). AmongOccurrences own os x) (sym seen) (all.0 q.1))) (c.in_ok-add_occurrences.ensures x y)
