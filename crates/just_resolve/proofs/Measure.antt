-- A walk ends.
use Rattle.std.proofs.Common.{◌≡◌, ◌+◌, ◌*◌, ◌<◌, ℕ, Bool, true, false, List, [], ◌∷◌, ◌++◌, map, not, if◌then◌else◌, reverse, length, refl, ap, sym, ◌∙◌}
use Rattle.std.proofs.Common.{arith, subst}
use Rattle.std.proofs.lemmas.Bool.{not-true}
use Rattle.std.proofs.lemmas.List.{length-reverse}
use Rattle.just_needs.specs.Graph.{AreAll}
use Rattle.just_needs.proofs.Walk.{AddsNode, falls_on, falls_passed, node_work}
use Rattle.just_resolve.specs.Prelude.{Enter, Leave, PlainNode, PlainStep, all_entered}

-- entering a node makes a step to leave it
abbrev pub steps_weight : List PlainStep → ℕ
steps_weight [] = 0
steps_weight (Enter x ∷ ss) = 2 + steps_weight ss
steps_weight (Leave x ∷ ss) = 1 + steps_weight ss

weight-append : (ss ts : List PlainStep) → steps_weight (ss ++ ts) ≡ steps_weight ss + steps_weight ts
weight-append [] ts = omega arith
weight-append (Enter x ∷ ss) ts = let rest = weight-append ss ts in omega (arith, rest)
weight-append (Leave x ∷ ss) ts = let rest = weight-append ss ts in omega (arith, rest)

weight-enter : (xs : List PlainNode) → steps_weight (map Enter xs) ≡ 2 * length xs
weight-enter [] = refl
weight-enter (x ∷ xs) = let rest = weight-enter xs in omega (arith, rest)

weight-entered : (xs : List PlainNode) → steps_weight (all_entered xs) ≡ 2 * length xs
weight-entered xs = weight-enter (reverse xs) ∙ ap (λ n. 2 * n) (length-reverse xs)

module _ (reads : PlainNode → List PlainNode) (all : List PlainNode) where
  -- what the nodes that were not entered read, and the steps
  abbrev pub left_to_do : (PlainNode → Bool) → List PlainStep → ℕ
  left_to_do entered steps = 2 * node_work reads all entered + steps_weight steps

  work_same : (old new : PlainNode → Bool) → ((x : PlainNode) → new x ≡ old x) → (xs : List PlainNode) → node_work reads xs new ≡ node_work reads xs old
  work_same old new same [] = refl
  work_same old new same (x ∷ xs) = let rest = work_same old new same xs in rw (same x, rest) refl

  -- a node was left
  pub falls_left : (old new : PlainNode → Bool) (front steps : List PlainStep) (x : PlainNode) → ((y : PlainNode) → new y ≡ old y)
      → steps ≡ front ++ Leave x ∷ [] → left_to_do new front < left_to_do old steps
  falls_left old new front steps x same is =
      let size = ap steps_weight is ∙ weight-append front (Leave x ∷ []) in
      let work_is = work_same old new same all in
      omega (arith, size, work_is)

  -- a node was entered before
  pub falls_again : (old new : PlainNode → Bool) (front steps : List PlainStep) (x : PlainNode) → AddsNode old new x
      → steps ≡ front ++ Enter x ∷ [] → left_to_do new front < left_to_do old steps
  falls_again old new front steps x adds is =
      let size = ap steps_weight is ∙ weight-append front (Enter x ∷ []) in
      let less = falls_passed reads old new x adds all [] (x ∷ []) refl in
      omega (arith, size, less)

  -- a node is entered
  pub falls_entered : (old new : PlainNode → Bool) (front steps next : List PlainStep) (x : PlainNode) → AddsNode old new x → AreAll reads all
      → old x ≡ false → steps ≡ front ++ Enter x ∷ [] → next ≡ front ++ Leave x ∷ all_entered (reads x) → left_to_do new next < left_to_do old steps
  falls_entered old new front steps next x adds are off is more =
      let size = ap steps_weight is ∙ weight-append front (Enter x ∷ []) in
      let grown = ap steps_weight more ∙ weight-append front (Leave x ∷ all_entered (reads x)) in
      let read = weight-entered (reads x) in
      let less = falls_on reads old new x adds all [] (x ∷ []) (reads x) are off refl refl in
      omega (arith, size, grown, read, less)

-- a node that is to be entered, whether it is new or not
pub falls_goes : (reads : PlainNode → List PlainNode) (all : List PlainNode) (old new : PlainNode → Bool) (front steps next : List PlainStep) (x : PlainNode)
    (is_new : Bool) → AddsNode old new x → AreAll reads all → steps ≡ front ++ Enter x ∷ [] → is_new ≡ not (old x)
    → next ≡ (if is_new then front ++ Leave x ∷ all_entered (reads x) else front) → left_to_do reads all new next < left_to_do reads all old steps
falls_goes reads all old new front steps next x true adds are is fresh more =
    falls_entered reads all old new front steps next x adds are (not-true (old x) (sym fresh)) is more
falls_goes reads all old new front steps next x false adds are is fresh more =
    subst (λ ss. left_to_do reads all new ss < left_to_do reads all old steps) (sym more) (falls_again reads all old new front steps x adds is)
