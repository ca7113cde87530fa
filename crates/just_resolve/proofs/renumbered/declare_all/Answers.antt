use Rattle.std.proofs.Common.{◌≡◌, ◌∙◌, ◌++◌, ◌∷◌, [], ℕ, List, ap, map, subst, sym}
use Rattle.std.specs.Cmp.Lexicographic.{slice_cmp}
use Rattle.std.specs.List.Sorted.{IsStrictlySortedBy}
use Rattle.std.specs.Ordering.{nat_cmp}
use Rattle.std.proofs.lemmas.List.{append_assoc, append-nil, map-append}
use Rattle.just_syntax.specs.declared.assignment.Assignment as declared
use Rattle.just_resolve.specs.Prelude.{AreTaken, Assignment, IsInOrder, assignment_view, declared_view, frames_view}
use Rattle.just_resolve.specs.declared.renumbered.Declared.{Declared}
use Rattle.just_resolve.proofs.Appending.{map_map}
use Rattle.just_resolve.proofs.Numbering.{none_taken, taken_more}
use Rattle.just_resolve.proofs.renumbered.declare_all.Goals as goal

pub loop-assignment-init : goal.loop-assignment-init
loop-assignment-init c =
    let outer = frames_view c.args.outer.now in
    let start = c.args.free.now.next in record {
      same = ap (λ (ds : List Declared). map (λ (d : Assignment × ℕ). d.0) (map declared_view ds) ++ map assignment_view c.into_iter-assignment-iterator.result)
          c.new-all.ensures.items
          ∙ ap (λ (xs : List declared.Assignment). map assignment_view xs)
          (c.into_iter-assignment-iterator.ensures.into_iter_gives ∙ c.iter-assignment-items.ensures.rest);
      taken = subst (λ (ds : List Declared). AreTaken outer start (map (λ (d : Assignment × ℕ). d.1) (map declared_view ds)) start)
          (sym c.new-all.ensures.items) (none_taken outer start);
    }

pub loop-assignment-preserved : goal.loop-assignment-preserved
loop-assignment-preserved c =
    let outer = frames_view c.args.outer.now in
    let start = c.args.free.now.next in
    let end = c.take.new.self.next in
    let old = map declared_view c.loop-assignment.all.items in
    let a = assignment_view c.in-Some.assignment.now in
    let n = c.in_ok-take.field-0 in
    let rest = map assignment_view c.next.new.self in
    let firsts = λ (ds : List (Assignment × ℕ)). map (λ (d : Assignment × ℕ). d.0) ds in
    let seconds = λ (ds : List (Assignment × ℕ)). map (λ (d : Assignment × ℕ). d.1) ds in
    let added = c.in_ok-add_declared.ensures in record {
      same = ap (λ ds. firsts ds ++ rest) added
          ∙ ap (λ xs. xs ++ rest) (map-append (λ (d : Assignment × ℕ). d.0) old ((a, n) ∷ []))
          ∙ append_assoc (firsts old) (a ∷ []) rest
          ∙ ap (λ xs. firsts old ++ xs) (sym (ap (λ (xs : List declared.Assignment). map assignment_view xs) c.in-Some.ensures.steps))
          ∙ c.loop-assignment.invariant.same;
      taken = subst (λ ds. AreTaken outer start (seconds ds) end) (sym added)
          (subst (λ ns. AreTaken outer start ns end) (sym (map-append (λ (d : Assignment × ℕ). d.1) old ((a, n) ∷ [])))
          (taken_more outer start c.loop-assignment.free.next n end (seconds old) c.loop-assignment.invariant.taken c.in_ok-take.ensures.first
          c.in_ok-take.ensures.next));
    }

pub returns : goal.returns
returns c =
    let firsts = map (λ (d : Assignment × ℕ). d.0) (map declared_view c.loop-assignment.all.items) in
    let all : firsts ≡ map assignment_view c.args.assignments.now =
    sym (append-nil firsts) ∙ ap (λ (xs : List declared.Assignment). firsts ++ map assignment_view xs) (sym c.in-None.ensures.steps.0)
    ∙ c.loop-assignment.invariant.same in
    let key = λ (a : Assignment). a.name.lexeme in record {
      assignments = all;
      taken = c.loop-assignment.invariant.taken;
      in_order = subst (λ (xs : List Assignment). IsInOrder key xs) (sym all)
          (subst (IsStrictlySortedBy (slice_cmp nat_cmp)) (sym (map_map key assignment_view c.args.assignments.now)) c.iter-assignment-items.ensures.in_order);
    }
