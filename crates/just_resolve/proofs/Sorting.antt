-- Variables that a walk leaves after those that they depend on.
use Rattle.std.proofs.Common.{◌≡◌, ◌⊎◌, inl, inr, ⊎_elim, ℕ, Bool, true, false, List, [], ◌∷◌, ◌++◌, map, not, if◌then◌else◌, reverse}
use Rattle.std.proofs.Common.{Option, Some, None, IsTrue, ap, sym, ◌∙◌, subst}
use Rattle.std.proofs.lemmas.Bool.{not-false}
use Rattle.std.proofs.lemmas.List.{append-nil}
use Rattle.std.proofs.lemmas.List.Concat.{flat_map-append}
use Rattle.just_syntax.proofs.Lists.{in_append, in_first}
use Rattle.just_needs.specs.Graph as graphs
use Rattle.just_needs.specs.Graph.{IsReadFrom, Starts}
use Rattle.just_needs.proofs.Walk.{AddsNode}
use Rattle.just_resolve.specs.Prelude.{AreSorted, DependsOn, Enter, IsIn, Leave, OfFunction, OfVariable, PlainNode, PlainStep, all_entered, path_in}
use Rattle.just_resolve.specs.Prelude.{variable_in, variables_in}
use Rattle.just_resolve.specs.Walk.{entered_node}
use Rattle.just_resolve.proofs.Paths.{IsPath, path_front, path_goes, path_starts}
use Rattle.just_resolve.proofs.Postorder.{IsOrderedTo, none_on}
use Rattle.just_resolve.proofs.Steps.{in_entered, in_reverse}

-- a variable among the nodes of a path
variables_there : (xs : List PlainNode) (n : ℕ) → IsIn (variables_in xs) n → IsIn xs (OfVariable n)
variables_there [] n h = absurd h
variables_there (OfFunction t ∷ xs) n h = inr (variables_there xs n h)
variables_there (OfVariable k ∷ xs) n (inl same) = inl (ap OfVariable same)
variables_there (OfVariable k ∷ xs) n (inr later) = inr (variables_there xs n later)

module _ (reads : PlainNode → List PlainNode) where
  -- ---- what is still to be entered

  -- what an entered node of the path reads was entered, or it is entered before the node is left
  abbrev AreReadsPending : (PlainNode → Bool) → List PlainStep → Type 0
  AreReadsPending entered [] = Unit {0}
  AreReadsPending entered (Enter x ∷ ss) = AreReadsPending entered ss
  AreReadsPending entered (Leave y ∷ ss) =
      ((x : PlainNode) → IsIn (reads y) x → IsTrue (entered x) ⊎ IsIn ss (Enter x)) × AreReadsPending entered ss

  pending_entered : (entered : PlainNode → Bool) (xs : List PlainNode) → AreReadsPending entered (map Enter xs)
  pending_entered entered [] = tt
  pending_entered entered (x ∷ xs) = pending_entered entered xs

  -- all that the last node reads was entered
  pending_last : (entered : PlainNode → Bool) (front : List PlainStep) (x : PlainNode) → AreReadsPending entered (front ++ Leave x ∷ []) → (z : PlainNode)
      → IsIn (reads x) z → IsTrue (entered z)
  pending_last entered [] x h z r = ⊎_elim (λ k. k) (λ k. absurd k) (h.0 z r)
  pending_last entered (Enter y ∷ ss) x h z r = pending_last entered ss x h z r
  pending_last entered (Leave y ∷ ss) x h z r = pending_last entered ss x h.1 z r

  -- the last step is done
  pending_front : (old new : PlainNode → Bool) (front : List PlainStep) (s : PlainStep) → ((z : PlainNode) → IsTrue (old z) → IsTrue (new z))
      → ((z : PlainNode) → s ≡ Enter z → IsTrue (new z)) → AreReadsPending old (front ++ s ∷ []) → AreReadsPending new front
  pending_front old new [] s grows at h = tt
  pending_front old new (Enter y ∷ ss) s grows at h = pending_front old new ss s grows at h
  pending_front old new (Leave y ∷ ss) s grows at h = (
    (λ z r. ⊎_elim (λ k. inl (grows z k))
        (λ k. ⊎_elim (λ j. inr j) (λ j. ⊎_elim (λ e. inl (at z e)) (λ bad. absurd bad) j) ((in_append ss (s ∷ []) (Enter z)).0 k)) (h.0 z r)),
    pending_front old new ss s grows at h.1,
  )

  -- a node is entered
  pending_begun : (entered : PlainNode → Bool) (front : List PlainStep) (x : PlainNode) → AreReadsPending entered front
      → AreReadsPending entered (front ++ Leave x ∷ all_entered (reads x))
  pending_begun entered [] x h = ((λ z r. inr ((in_entered (reads x) z).1 r)), pending_entered entered (reverse (reads x)))
  pending_begun entered (Enter y ∷ ss) x h = pending_begun entered ss x h
  pending_begun entered (Leave y ∷ ss) x h = (
    (λ z r. ⊎_elim (λ k. inl k) (λ k. inr (in_first ss (Leave x ∷ all_entered (reads x)) (Enter z) k)) (h.0 z r)),
    pending_begun entered ss x h.1,
  )

  -- ---- along the path

  -- the nodes of the path reach its last one
  carried : (starts : List PlainNode) (a y : PlainNode) (ss : List PlainStep) → IsPath reads (Some y) (ss ++ Leave a ∷ []) → IsReadFrom reads starts y
      → IsReadFrom reads starts a
  carried starts a y [] h r = graphs.ReadBy y r h.0
  carried starts a y (Enter z ∷ ss) h r = carried starts a y ss h.1 r
  carried starts a y (Leave z ∷ ss) h r = carried starts a z ss h.1 (graphs.ReadBy y r h.0)

  carried_from : (starts : List PlainNode) (a z : PlainNode) (before : Option PlainNode) (ss : List PlainStep)
      → IsPath reads before (ss ++ Leave a ∷ []) → IsIn (path_in (ss ++ Leave a ∷ [])) z → IsReadFrom reads starts z → IsReadFrom reads starts a
  carried_from starts a z before [] h k r = ⊎_elim (λ e. subst (IsReadFrom reads starts) (sym e) r) (λ bad. absurd bad) k
  carried_from starts a z before (Enter y ∷ ss) h k r = carried_from starts a z before ss h.1 k r
  carried_from starts a z before (Leave y ∷ ss) h k r =
      ⊎_elim (λ e. carried starts a y ss h.1 (subst (IsReadFrom reads starts) (sym e) r)) (λ j. carried_from starts a z (Some y) ss h.1 j r) k

  -- ---- the invariant

  -- What a node reads, once it was left, was entered.
  abbrev AreClosed : (PlainNode → Bool) → List PlainStep → Type 0
  AreClosed entered steps = (y : PlainNode) → IsTrue (entered y) → IsIn (path_in steps) y ⊎ ((x : PlainNode) → IsIn (reads y) x → IsTrue (entered x))

  pub record IsSortedTo (entered : PlainNode → Bool) (steps : List PlainStep) (left : List ℕ) : Type 0 where
    pub path : IsPath reads None steps
    pub pending : AreReadsPending entered steps
    pub closed : AreClosed entered steps
    pub sorted : AreSorted reads [] left

  -- nothing was entered yet
  pub sort_begins : (entered : PlainNode → Bool) (steps : List PlainStep) (xs : List PlainNode) → ((x : PlainNode) → entered x ≡ false)
      → steps ≡ all_entered xs → IsSortedTo entered steps []
  sort_begins entered steps xs none is = record {
    path = subst (IsPath reads None) (sym is) (path_starts reads (reverse xs));
    pending = subst (AreReadsPending entered) (sym is) (pending_entered entered (reverse xs));
    closed = λ y h. absurd (none_on (entered y) (none y) h);
    sorted = tt;
  }

  -- ---- a variable is left

  -- what the last node depends on was entered, or the node depends on itself
  entered_or : (entered : PlainNode → Bool) (front : List PlainStep) (a : PlainNode) → IsPath reads None (front ++ Leave a ∷ [])
      → AreReadsPending entered (front ++ Leave a ∷ []) → AreClosed entered (front ++ Leave a ∷ []) → {x : PlainNode} → IsReadFrom reads (reads a) x
      → IsTrue (entered x) ⊎ IsReadFrom reads (reads a) a
  entered_or entered front a path pending closed {x} (Starts h) = inl (pending_last entered front a pending x h)
  entered_or entered front a path pending closed {x} (graphs.ReadBy y r h) =
      ⊎_elim (λ e. ⊎_elim (λ k. inr (carried_from (reads a) a y None front path k r)) (λ f. inl (f x h)) (closed y e)) (λ c. inr c)
      (entered_or entered front a path pending closed r)

  -- one more variable
  sorted_more : (before left : List ℕ) (n : ℕ) → AreSorted reads before left
      → ((m : ℕ) → DependsOn reads n m → IsIn left m ⊎ IsIn before m ⊎ DependsOn reads n n) → AreSorted reads before (left ++ n ∷ [])
  sorted_more before [] n s h = ((λ m d. ⊎_elim (λ bad. absurd bad) (λ k. k) (h m d)), tt)
  sorted_more before (k ∷ left) n s h = (
    s.0,
    sorted_more (k ∷ before) left n s.1 (λ m d. ⊎_elim
        (λ j. ⊎_elim (λ e. inr (inl (inl e))) (λ i. inl i) j)
        (λ j. ⊎_elim (λ i. inr (inl (inr i))) (λ i. inr (inr i)) j) (h m d)),
  )

  module _ (starts : List ℕ) (old new : PlainNode → Bool) (front steps : List PlainStep) (left : List ℕ) (x : PlainNode)
      (w : IsSortedTo old steps left) where
    left_sorted : IsOrderedTo starts old steps left → (y : PlainNode) → steps ≡ front ++ Leave y ∷ [] → AreSorted reads [] (left ++ variable_in y)
    left_sorted o (OfFunction t) is = subst (AreSorted reads []) (sym (append-nil left)) w.sorted
    left_sorted o (OfVariable n) is = sorted_more [] left n w.sorted (λ m d. done m d (entered_or old front (OfVariable n) path pending closed d))
      where
        path : IsPath reads None (front ++ Leave (OfVariable n) ∷ [])
        path = subst (IsPath reads None) is w.path

        pending : AreReadsPending old (front ++ Leave (OfVariable n) ∷ [])
        pending = subst (AreReadsPending old) is w.pending

        closed : AreClosed old (front ++ Leave (OfVariable n) ∷ [])
        closed = subst (AreClosed old) is w.closed

        left_or_on : (m : ℕ) → DependsOn reads n m → IsTrue (old (OfVariable m)) → IsIn left m ⊎ IsIn [] m ⊎ DependsOn reads n n
        left_or_on m d e = ⊎_elim
            (λ k. inr (inr (carried_from (reads (OfVariable n)) (OfVariable n) (OfVariable m) None front path
            (variables_there (path_in (front ++ Leave (OfVariable n) ∷ [])) m (subst (λ ss. IsIn (variables_in (path_in ss)) m) is k)) d)))
            (λ k. inl (subst (λ ns. IsIn ns m) (sym o.are_left) ((in_reverse o.done m).1 k)))
            ((in_append (variables_in (path_in steps)) o.done m).0 ((o.same m).1 e))

        done : (m : ℕ) → DependsOn reads n m → IsTrue (old (OfVariable m)) ⊎ DependsOn reads n n → IsIn left m ⊎ IsIn [] m ⊎ DependsOn reads n n
        done m d h = ⊎_elim (λ e. left_or_on m d e) (λ c. inr (inr c)) h

    path_is : path_in (front ++ Leave x ∷ []) ≡ path_in front ++ x ∷ []
    path_is = flat_map-append entered_node front (Leave x ∷ [])

    -- a node is left
    pub sort_leaves : (more : List ℕ) → IsOrderedTo starts old steps left → ((y : PlainNode) → new y ≡ old y) → steps ≡ front ++ Leave x ∷ []
        → more ≡ left ++ variable_in x → IsSortedTo new front more
    sort_leaves more o same is added =
        let pending = subst (AreReadsPending old) is w.pending in
        let grows = λ (z : PlainNode) (k : IsTrue (old z)). same z ∙ k in
        let last = λ (y : PlainNode) (e : x ≡ y) (z : PlainNode) (r : IsIn (reads y) z).
        grows z (pending_last old front x pending z (subst (λ v. IsIn (reads v) z) (sym e) r)) in record {
          path = path_front reads None front (Leave x ∷ []) (subst (IsPath reads None) is w.path);
          pending = pending_front old new front (Leave x) grows (λ z e. absurd (let bad : Leave x ≡ Enter z = e in cc)) pending;
          closed = λ y h. ⊎_elim
              (λ k. ⊎_elim (λ j. inl j) (λ j. ⊎_elim (λ e. inr (last y e)) (λ bad. absurd bad) j)
              ((in_append (path_in front) (x ∷ []) y).0 (subst (λ xs. IsIn xs y) (ap path_in is ∙ path_is) k)))
              (λ f. inr (λ z r. grows z (f z r))) (w.closed y (sym (same y) ∙ h));
          sorted = subst (AreSorted reads []) (sym added) (left_sorted o x is);
        }

    module _ (adds : AddsNode old new x) (is : steps ≡ front ++ Enter x ∷ []) where
      grown : (z : PlainNode) → IsTrue (old z) → IsTrue (new z)
      grown z k = (adds z).1 (inr k)

      at_last : (z : PlainNode) → Enter x ≡ Enter z → IsTrue (new z)
      at_last z e = (adds z).1 (inl (let both : Enter x ≡ Enter z = e in let same : x ≡ z = cc in same))

      pending_now : AreReadsPending new front
      pending_now = pending_front old new front (Enter x) grown at_last (subst (AreReadsPending old) is w.pending)

      path_kept : (y : PlainNode) → IsIn (path_in steps) y → IsIn (path_in front) y
      path_kept y k =
          let whole = flat_map-append entered_node front (Enter x ∷ []) ∙ append-nil (path_in front) in
          subst (λ xs. IsIn xs y) (ap path_in is ∙ whole) k

      closed_now : (next : List PlainStep) → ((y : PlainNode) → IsIn (path_in front) y → IsIn (path_in next) y) → (y : PlainNode) → IsTrue (old y)
          → IsIn (path_in next) y ⊎ ((z : PlainNode) → IsIn (reads y) z → IsTrue (new z))
      closed_now next kept y h = ⊎_elim (λ k. inl (kept y (path_kept y k))) (λ f. inr (λ z r. grown z (f z r))) (w.closed y h)

      -- the node was entered before
      pub sort_again : IsTrue (old x) → IsSortedTo new front left
      sort_again there = record {
        path = path_front reads None front (Enter x ∷ []) (subst (IsPath reads None) is w.path);
        pending = pending_now;
        closed = λ y h. closed_now front (λ z k. k) y (⊎_elim (λ e. subst (λ z. IsTrue (old z)) e there) (λ k. k) ((adds y).0 h));
        sorted = w.sorted;
      }

      -- the node is entered now
      pub sort_enters : (next : List PlainStep) → next ≡ front ++ Leave x ∷ all_entered (reads x) → IsSortedTo new next left
      sort_enters next more =
          let on : path_in next ≡ path_in front ++ path_in (Leave x ∷ all_entered (reads x)) =
          ap path_in more ∙ flat_map-append entered_node front (Leave x ∷ all_entered (reads x)) in
          let back = λ (y : PlainNode) (k : IsIn (path_in front) y ⊎ IsIn (path_in (Leave x ∷ all_entered (reads x))) y).
          subst (λ xs. IsIn xs y) (sym on) ((in_append (path_in front) (path_in (Leave x ∷ all_entered (reads x))) y).1 k) in record {
            path = subst (IsPath reads None) (sym more) (path_goes reads front x (subst (IsPath reads None) is w.path));
            pending = subst (AreReadsPending new) (sym more) (pending_begun new front x pending_now);
            closed = λ y h. ⊎_elim (λ e. inl (back y (inr (inl e)))) (λ k. closed_now next (λ z j. back z (inl j)) y k) ((adds y).0 h);
            sorted = w.sorted;
          }

-- a node that is to be entered, whether it is new or not
pub sort_goes : (reads : PlainNode → List PlainNode) (starts : List ℕ) (old new : PlainNode → Bool) (front steps next : List PlainStep) (left : List ℕ)
    (x : PlainNode) (is_new : Bool) → IsSortedTo reads old steps left → AddsNode old new x → steps ≡ front ++ Enter x ∷ [] → is_new ≡ not (old x)
    → next ≡ (if is_new then front ++ Leave x ∷ all_entered (reads x) else front) → IsSortedTo reads new next left
sort_goes reads starts old new front steps next left x true w adds is fresh more = sort_enters reads starts old new front steps left x w adds is next more
sort_goes reads starts old new front steps next left x false w adds is fresh more =
    subst (λ ss. IsSortedTo reads new ss left) (sym more)
    (sort_again reads starts old new front steps left x w adds is (not-false (old x) (sym fresh)))
