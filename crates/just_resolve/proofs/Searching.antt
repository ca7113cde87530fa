-- A search for a node from itself that finds nothing.
use Rattle.std.proofs.Common.{◌≡◌, ◌⊎◌, inl, inr, ⊎_elim, Bool, true, false, List, [], ◌∷◌, ◌++◌, not, if◌then◌else◌, IsTrue, refl, sym, ◌∙◌, subst}
use Rattle.std.proofs.lemmas.Bool.{not-false, not-true}
use Rattle.just_syntax.proofs.Lists.{in_append}
use Rattle.just_needs.specs.Graph as graphs
use Rattle.just_needs.specs.Graph.{IsReadFrom, Starts}
use Rattle.just_needs.proofs.Walk.{AddsNode}
use Rattle.just_resolve.specs.Prelude.{Enter, IsIn, Leave, PlainNode, PlainStep, all_entered}
use Rattle.just_resolve.proofs.Postorder.{none_on}
use Rattle.just_resolve.proofs.Steps.{in_entered}

-- The start is entered first. What entered nodes read was entered and is not the start, or it is still to be entered.
pub record IsSearched (reads : PlainNode → List PlainNode) (start : PlainNode) (entered : PlainNode → Bool) (steps : List PlainStep) : Type 0 where
  pub begun : (((z : PlainNode) → IsIn steps (Enter z) → z ≡ start) × IsIn steps (Enter start) × ((z : PlainNode) → entered z ≡ false)) ⊎ IsTrue (entered start)
  pub closed : (y z : PlainNode) → IsTrue (entered y) → IsIn (reads y) z → (IsTrue (entered z) × (z ≡ start → ⊥)) ⊎ IsIn steps (Enter z)

module _ (reads : PlainNode → List PlainNode) (start : PlainNode) where
  -- nothing was entered yet
  pub search_begins : (entered : PlainNode → Bool) (steps : List PlainStep) → ((x : PlainNode) → entered x ≡ false) → steps ≡ Enter start ∷ []
      → IsSearched reads start entered steps
  search_begins entered steps none is = record {
    begun = inl (
      (λ z h. ⊎_elim (λ e. let both : Enter start ≡ Enter z = e in let same : z ≡ start = cc in same) (λ bad. absurd bad)
          (subst (λ ss. IsIn ss (Enter z)) is h)),
      subst (λ ss. IsIn ss (Enter start)) (sym is) (inl refl),
      none,
    );
    closed = λ y z h r. absurd (none_on (entered y) (none y) h);
  }

  module _ (old new : PlainNode → Bool) (front steps : List PlainStep) (x : PlainNode) (w : IsSearched reads start old steps) where
    -- a node is left
    pub search_leaves : ((y : PlainNode) → new y ≡ old y) → steps ≡ front ++ Leave x ∷ [] → IsSearched reads start new front
    search_leaves same is =
        let keeps = λ (z : PlainNode) (h : IsIn steps (Enter z)). ⊎_elim {C = IsIn front (Enter z)} (λ k. k)
        (λ k. ⊎_elim (λ e. absurd (let bad : Leave x ≡ Enter z = e in cc)) (λ bad. absurd bad) k)
        ((in_append front (Leave x ∷ []) (Enter z)).0 (subst (λ ss. IsIn ss (Enter z)) is h)) in
        let back = λ (z : PlainNode) (h : IsIn front (Enter z)).
        subst (λ ss. IsIn ss (Enter z)) (sym is) ((in_append front (Leave x ∷ []) (Enter z)).1 (inl h)) in record {
          begun = ⊎_elim (λ k. inl ((λ z h. k.0 z (back z h)), keeps start k.1, (λ z. same z ∙ k.2 z))) (λ k. inr (same start ∙ k)) w.begun;
          closed = λ y z h r. ⊎_elim (λ k. inl (same z ∙ k.0, k.1)) (λ k. inr (keeps z k)) (w.closed y z (sym (same y) ∙ h) r);
        }

    module _ (adds : AddsNode old new x) (is : steps ≡ front ++ Enter x ∷ []) where
      grown : (z : PlainNode) → IsTrue (old z) → IsTrue (new z)
      grown z k = (adds z).1 (inr k)

      last : IsIn steps (Enter x)
      last = subst (λ ss. IsIn ss (Enter x)) (sym is) ((in_append front (Enter x ∷ []) (Enter x)).1 (inr (inl refl)))

      begun_now : IsTrue (new start)
      begun_now = ⊎_elim (λ k. (adds start).1 (inl (k.0 x last))) (λ k. grown start k) w.begun

      -- a node that was to be entered
      entered_now : (x ≡ start → ⊥) → (z : PlainNode) → IsIn steps (Enter z) → (IsTrue (new z) × (z ≡ start → ⊥)) ⊎ IsIn front (Enter z)
      entered_now other z h = ⊎_elim (λ k. inr k)
          (λ k. ⊎_elim (λ e. let both : Enter x ≡ Enter z = e in let same : x ≡ z = cc in inl ((adds z).1 (inl same), (λ at. other (same ∙ at))))
          (λ bad. absurd bad) k)
          ((in_append front (Enter x ∷ []) (Enter z)).0 (subst (λ ss. IsIn ss (Enter z)) is h))

      -- what a node reads that was entered before
      closed_now : (x ≡ start → ⊥) → (y z : PlainNode) → IsTrue (old y) → IsIn (reads y) z → (IsTrue (new z) × (z ≡ start → ⊥)) ⊎ IsIn front (Enter z)
      closed_now other y z h r = ⊎_elim (λ k. inl (grown z k.0, k.1)) (λ k. entered_now other z k) (w.closed y z h r)

      -- the node was entered before, and it is not the start
      pub search_again : IsTrue (old x) → (x ≡ start → ⊥) → IsSearched reads start new front
      search_again there other = record {
        begun = inr begun_now;
        closed = λ y z h r. closed_now other y z (⊎_elim (λ e. subst (λ v. IsTrue (old v)) e there) (λ k. k) ((adds y).0 h)) r;
      }

      -- a node that was entered before shows that the start was
      not_start : (y : PlainNode) → IsTrue (old y) → old x ≡ false → x ≡ start → ⊥
      not_start y h off at = ⊎_elim (λ k. none_on (old y) (k.2 y) h) (λ k. none_on (old x) off (subst (λ v. IsTrue (old v)) (sym at) k)) w.begun

      -- the node is entered now
      pub search_enters : (next : List PlainStep) → old x ≡ false → next ≡ front ++ Leave x ∷ all_entered (reads x) → IsSearched reads start new next
      search_enters next off more =
          let there = λ (z : PlainNode) (k : IsIn front (Enter z) ⊎ IsIn (Leave x ∷ all_entered (reads x)) (Enter z)).
          subst (λ ss. IsIn ss (Enter z)) (sym more) ((in_append front (Leave x ∷ all_entered (reads x)) (Enter z)).1 k) in record {
            begun = inr begun_now;
            closed = λ y z h r. ⊎_elim
                (λ e. inr (there z (inr (inr ((in_entered (reads x) z).1 (subst (λ v. IsIn (reads v) z) (sym e) r))))))
                (λ k. ⊎_elim (λ j. inl j) (λ j. inr (there z (inl j))) (closed_now (not_start y k off) y z k r)) ((adds y).0 h);
          }

  -- no step is left
  module _ (entered : PlainNode → Bool) (steps : List PlainStep) (w : IsSearched reads start entered steps) (none : steps ≡ []) where
    closed_all : (y z : PlainNode) → IsTrue (entered y) → IsIn (reads y) z → IsTrue (entered z) × (z ≡ start → ⊥)
    closed_all y z h r = ⊎_elim (λ k. k) (λ k. absurd (subst (λ ss. IsIn ss (Enter z)) none k)) (w.closed y z h r)

    started : IsTrue (entered start)
    started = ⊎_elim (λ k. absurd (subst (λ ss. IsIn ss (Enter start)) none k.1)) (λ k. k) w.begun

    all_apart : {z : PlainNode} → IsReadFrom reads (reads start) z → IsTrue (entered z) × (z ≡ start → ⊥)
    all_apart {z} (Starts h) = closed_all start z started h
    all_apart {z} (graphs.ReadBy y r h) = closed_all y z (all_apart r).0 h

    -- the start does not reach itself
    pub search_ends : IsReadFrom reads (reads start) start → ⊥
    search_ends r = (all_apart r).1 refl

-- a node that is to be entered, whether it is new or not
pub search_goes : (reads : PlainNode → List PlainNode) (start : PlainNode) (old new : PlainNode → Bool) (front steps next : List PlainStep) (x : PlainNode)
    (is_new : Bool) → IsSearched reads start old steps → AddsNode old new x → steps ≡ front ++ Enter x ∷ [] → is_new ≡ not (old x)
    → next ≡ (if is_new then front ++ Leave x ∷ all_entered (reads x) else front) → (is_new ≡ false → x ≡ start → ⊥)
    → IsSearched reads start new next
search_goes reads start old new front steps next x true w adds is fresh more other =
    search_enters reads start old new front steps x w adds is next (not-true (old x) (sym fresh)) more
search_goes reads start old new front steps next x false w adds is fresh more other =
    subst (λ ss. IsSearched reads start new ss) (sym more)
    (search_again reads start old new front steps x w adds is (not-false (old x) (sym fresh)) (other refl))
