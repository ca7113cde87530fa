use Rattle.std.proofs.Common.{◌≡◌, ◌∙◌, ◌+◌, ◌++◌, ◌∷◌, [], ℕ, List, ap, map, drop, subst, sym, take}
use Rattle.std.specs.Cmp.Lexicographic.{slice_cmp}
use Rattle.std.specs.List.Sorted.{IsStrictlySortedBy}
use Rattle.std.specs.Ordering.{nat_cmp}
use Rattle.std.proofs.lemmas.List.{map-append, take-append-drop}
use Rattle.just_resolution.proofs.Sets.{front, taken_more}
use Rattle.just_resolve.specs.Prelude.{Assignment, Text, assignment_view, declared_view, name_number, with_number}
use Rattle.just_resolve.specs.declared.renumbered.Declared.{Declared}
use Rattle.just_resolve.proofs.Appending.{map_map, viewed_at_end}
use Rattle.just_resolve.proofs.renumbered.add_assignments.Goals as goal

pub loop-one-preserved : goal.loop-one-preserved
loop-one-preserved c =
    let nm = name_number c.args.names.now in
    let key : Assignment → Text = λ a. a.name.lexeme in
    let name : Declared → Text = λ d. d.assignment.now.name.token.lexeme.now in
    let ds = c.args.declared.now in
    let i = c.loop-one.one-index in
    let d = c.one-item.result in
    let made = c.loop-one.made in
    let copy = c.in_ok-copy.copy in
    let later = drop (i + 1) ds in
    let split : ds ≡ take i ds ++ d ∷ later =
    sym (take-append-drop i ds) ∙ ap (λ xs. take i ds ++ xs) (front ds i d c.loop-one-test.true c.one-item.is) in
    let keys : map key (map (λ (p : Assignment × ℕ). p.0) (map declared_view ds)) ≡ map name (take i ds) ++ name d ∷ map name later =
    map_map key (λ (p : Assignment × ℕ). p.0) (map declared_view ds) ∙ map_map (λ (p : Assignment × ℕ). key p.0) declared_view ds
    ∙ ap (map name) split ∙ map-append name (take i ds) (d ∷ later) in
    let so_far : map key (map assignment_view made) ≡ map name (take i ds) =
    ap (map key) c.loop-one.invariant ∙ map_map key (with_number nm) (map declared_view (take i ds))
    ∙ map_map (λ (p : Assignment × ℕ). key (with_number nm p)) declared_view (take i ds) in
    let here : key (assignment_view copy) ≡ name d = ap key c.in_ok-copy.ensures in
    let sorted : IsStrictlySortedBy (slice_cmp nat_cmp) (map key (map assignment_view made) ++ key (assignment_view copy) ∷ map name later) =
    subst (λ (ks : List Text). IsStrictlySortedBy (slice_cmp nat_cmp) ks)
    (keys ∙ ap (λ (ks : List Text). ks ++ name d ∷ map name later) (sym so_far)
    ∙ ap (λ (k : Text). map key (map assignment_view made) ++ k ∷ map name later) (sym here))
    c.requires.in_order in
    ap (map assignment_view) c.in_ok-insert.ensures.ok
    ∙ viewed_at_end key assignment_view made copy (map name later) sorted
    ∙ ap (λ (xs : List Assignment). xs ++ assignment_view copy ∷ []) c.loop-one.invariant
    ∙ ap (λ (a : Assignment). map (with_number nm) (map declared_view (take i ds)) ++ a ∷ []) c.in_ok-copy.ensures
    ∙ sym (map-append (with_number nm) (map declared_view (take i ds)) (declared_view d ∷ []))
    ∙ ap (map (with_number nm)) (sym (taken_more declared_view ds i d c.loop-one-test.true c.one-item.is))
