use Rattle.std.proofs.Common.{ℕ, IsTrue}
use Rattle.just_changes.specs.Prelude.{is_number_in, view}
use Rattle.just_resolution.proofs.Sets.{no_number}
use Rattle.just_changes.proofs.Readings.{both_ways, mentions_alike, nothing_more, same_more}
use Rattle.just_changes.proofs.reading.add_assignment.Goals as goal

pub returns-then-not-is_first : goal.returns-then-not-is_first
returns-then-not-is_first c = λ x y. nothing_more (λ h. both_ways c.is_first.result c.if-not-is_first.true (c.is_first.ensures.1 h.1.first))

pub returns-then-not-is_free : goal.returns-then-not-is_free
returns-then-not-is_free c = λ x y. nothing_more (λ h. both_ways c.is_free.result c.if-not-is_free.true (c.is_free.ensures.1 h.1.free))

pub returns : goal.returns
returns c = λ x y.
    let body = view c.args.assignment.now.value in
    let own : ℕ → Type 0 = λ n. IsTrue (is_number_in c.new-own.result n) in
    let none : (n : ℕ) → own n → ⊥ = λ n h. both_ways (is_number_in c.new-own.result n) (no_number c.new-own.result c.new-own.ensures.empty n) h in
    same_more
    (λ p. (
      p.0,
      record {
        first = c.is_first.ensures.0 c.if-not-is_first.false;
        free = c.is_free.ensures.0 c.if-not-is_free.false;
        mentions = mentions_alike own (λ k. ⊥) body (λ n k. absurd k) x p.1;
      },
    ))
    (λ q. (q.0, mentions_alike (λ k. ⊥) own body (λ n k. none n k) x q.1.mentions))
    (c.in_ok-add_mentions.ensures x y)
