use Rattle.std.proofs.Common.{◌↔◌, ◌⊎◌, inl, inr, ⊎_elim, ℕ, IsTrue, List, [], subst}
use Rattle.just_changes.specs.Prelude.{IsIn, has, is_number_in}
use Rattle.just_needs.proofs.Nodes.{listed, same_test}
use Rattle.just_resolution.proofs.Sets.{number_added}
use Rattle.just_changes.proofs.changed.rising.Goals as goal

-- the next number is one of those so far
moved : {P A B C R : Type 0} → P ↔ (A ⊎ (C ⊎ R)) → B ↔ (C ⊎ A) → P ↔ (B ⊎ R)
moved all added = (
  (λ p. ⊎_elim (λ a. inl (added.1 (inr a))) (λ k. ⊎_elim (λ c. inl (added.1 (inl c))) (λ r. inr r) k) (all.0 p)),
  (λ h. all.1 (⊎_elim (λ b. ⊎_elim (λ c. inr (inl c)) (λ a. inl a) (added.0 b)) (λ r. inr (inr r)) h)),
)

pub loop-number-preserved : goal.loop-number-preserved
loop-number-preserved c = λ n. moved
    (subst (λ (left : List ℕ). IsIn c.args.numbers.now.keys n ↔ (IsTrue (is_number_in c.loop-number.all n) ⊎ IsIn left n)) c.in-Some.ensures.steps
    (c.loop-number.invariant n))
    (number_added c.loop-number.all c.insert.new.self c.in-Some.number.now c.in_ok-insert.ensures.updates.0 n)

pub returns : goal.returns
returns c = λ n.
    let keys = c.args.numbers.now.keys in
    let all : IsIn keys n ↔ (IsTrue (is_number_in c.loop-number.all n) ⊎ IsIn [] n) =
    subst (λ (left : List ℕ). IsIn keys n ↔ (IsTrue (is_number_in c.loop-number.all n) ⊎ IsIn left n)) c.in-None.ensures.steps.0
    (c.loop-number.invariant n) in
    same_test (is_number_in c.loop-number.all n) (has c.args.numbers.now n) {P = IsIn keys n}
    ((λ h. all.1 (inl h)), (λ h. ⊎_elim (λ k. k) (λ bad. absurd bad) (all.0 h))) (listed keys n)
