use Rattle.std.proofs.Common.{◌≡◌, ◌∙◌, ◌++◌, ℕ, List, ap, map, subst, sym}
use Rattle.std.specs.Cmp.Lexicographic.{slice_cmp}
use Rattle.std.specs.List.Sorted.{IsStrictlySortedBy}
use Rattle.std.specs.Ordering.{nat_cmp}
use Rattle.std.proofs.lemmas.List.{append-nil}
use Rattle.std.proofs.lemmas.Result.{IfOk-weaker}
use Rattle.just_syntax.specs.declared.assignment.Assignment as declared
use Rattle.just_resolve.specs.Prelude.{Assignment, IsIn, assignment_view}
use Rattle.just_resolve.proofs.Appending.{map_map}
use Rattle.just_resolve.proofs.Indexing.{in_permutation}
use Rattle.just_resolve.proofs.order.in_text_order.Goals as goal

pub returns-clause-same : goal.returns-clause-same
returns-clause-same c =
    let second = λ (p : ℕ × ℕ). p.1 in
    let number = λ (a : Assignment). a.number in
    let unsorted = c.loop-assignment.places.items in
    let sorted = c.sort_by_key.new.self.items in
    let all : map second unsorted ≡ map number (map assignment_view c.args.assignments.now) =
    sym (append-nil (map second unsorted))
    ∙ ap (λ (xs : List declared.Assignment). map second unsorted ++ map number (map assignment_view xs)) (sym c.in-None.ensures.steps.0)
    ∙ c.loop-assignment.invariant in
    IfOk-weaker c.numbers_at.result _ _ (λ numbers are n.
    let same : numbers.items ≡ map second sorted = are ∙ ap (λ (ps : List (ℕ × ℕ)). map second ps) c.deref.ensures.value in
    let both = in_permutation second unsorted sorted n c.sort_by_key.ensures.permutation in (
      (λ h. subst (λ ns. IsIn ns n) all (both.0 (subst (λ ns. IsIn ns n) same h))),
      (λ h. subst (λ ns. IsIn ns n) (sym same) (both.1 (subst (λ ns. IsIn ns n) (sym all) h))),
    )) c.numbers_at.ensures

pub returns-clause-in_order : goal.returns-clause-in_order
returns-clause-in_order c =
    let key = λ (a : Assignment). a.name.lexeme in
    IfOk-weaker c.numbers_at.result _ _ (λ numbers are.
    subst (IsStrictlySortedBy (slice_cmp nat_cmp)) (sym (map_map key assignment_view c.args.assignments.now)) c.iter-assignment-items.ensures.in_order)
    c.numbers_at.ensures
