-- Variables in the order in which a walk leaves them.
use Rattle.std.proofs.Common.{◌≡◌, ◌↔◌, ◌⊎◌, inl, inr, ⊎_elim, ℕ, Bool, true, false, List, [], ◌∷◌, ◌++◌, map, not, if◌then◌else◌, reverse, IsTrue, refl, ap}
use Rattle.std.proofs.Common.{sym, ◌∙◌, subst}
use Rattle.std.proofs.lemmas.Bool.{not-false, not-true}
use Rattle.std.proofs.lemmas.List.{append_assoc, append-nil, reverse-append}
use Rattle.just_syntax.proofs.Lists.{in_append}
use Rattle.just_needs.proofs.Walk.{AddsNode}
use Rattle.just_resolve.specs.Prelude.{AreDistinct, Enter, IsIn, Leave, OfFunction, OfVariable, PlainNode, PlainStep, all_entered, variable_in}
use Rattle.just_resolve.specs.Prelude.{variables_in}
use Rattle.just_resolve.proofs.Steps.{in_entered, in_reverse, in_variables, on_path, on_path-begun, on_path-enter, on_path-leave, path_entered}

-- ---- distinct numbers

distinct_middle : (xs ys : List ℕ) (n : ℕ) → AreDistinct (xs ++ ys) → (IsIn (xs ++ ys) n → ⊥) → AreDistinct (xs ++ n ∷ ys)
distinct_middle [] ys n h out = (out, h)
distinct_middle (x ∷ xs) ys n h out = (
  (λ k. ⊎_elim (λ j. h.0 ((in_append xs ys x).1 (inl j)))
      (λ j. ⊎_elim (λ e. out (inl (sym e))) (λ i. h.0 ((in_append xs ys x).1 (inr i))) j) ((in_append xs (n ∷ ys) x).0 k)),
  distinct_middle xs ys n h.1 (λ k. out (inr k)),
)

pub distinct_reverse : (xs : List ℕ) → AreDistinct xs → AreDistinct (reverse xs)
distinct_reverse [] h = tt
distinct_reverse (x ∷ xs) h =
    let all : AreDistinct (reverse xs ++ x ∷ []) =
    distinct_middle (reverse xs) [] x (subst AreDistinct (sym (append-nil (reverse xs))) (distinct_reverse xs h.1))
    (λ k. h.0 ((in_reverse xs x).0 (subst (λ zs. IsIn zs x) (append-nil (reverse xs)) k))) in
    subst AreDistinct (sym (reverse-append (x ∷ []) xs)) all

-- ---- the invariant

-- The variables of the path and those that were left, the last one first, are those that were entered, each once. These
-- and the ones that are to be entered are the variables that the walk starts from.
pub record IsOrderedTo (starts : List ℕ) (entered : PlainNode → Bool) (steps : List PlainStep) (left : List ℕ) : Type 0 where
  pub done : List ℕ
  pub are_left : left ≡ reverse done
  pub once : AreDistinct (on_path steps ++ done)
  pub same : (n : ℕ) → IsIn (on_path steps ++ done) n ↔ IsTrue (entered (OfVariable n))
  pub begun : (n : ℕ) → IsIn starts n → IsTrue (entered (OfVariable n)) ⊎ IsIn steps (Enter (OfVariable n))
  pub known : (n : ℕ) → IsTrue (entered (OfVariable n)) ⊎ IsIn steps (Enter (OfVariable n)) → IsIn starts n

pub none_on : (e : Bool) → e ≡ false → IsTrue e → ⊥
none_on e off on = let bad : false ≡ true = sym off ∙ on in cc

module _ (starts : List ℕ) where
  -- nothing was entered yet
  pub order_begins : (entered : PlainNode → Bool) (steps : List PlainStep) → ((x : PlainNode) → entered x ≡ false) → steps ≡ all_entered (map OfVariable starts)
      → IsOrderedTo starts entered steps []
  order_begins entered steps none is =
      let empty : on_path steps ++ [] ≡ [] =
      append-nil (on_path steps) ∙ ap on_path is ∙ ap variables_in (path_entered (reverse (map OfVariable starts))) in
      let there : (n : ℕ) → IsIn steps (Enter (OfVariable n)) ↔ IsIn starts n =
      λ n. let a = in_entered (map OfVariable starts) (OfVariable n) in let b = in_variables starts n in (
        (λ h. b.0 (a.0 (subst (λ ss. IsIn ss (Enter (OfVariable n))) is h))),
        (λ h. subst (λ ss. IsIn ss (Enter (OfVariable n))) (sym is) (a.1 (b.1 h))),
      ) in record {
        done = [];
        are_left = refl;
        once = subst AreDistinct (sym empty) tt;
        same = λ n. ((λ h. absurd (subst (λ ns. IsIn ns n) empty h)), (λ h. absurd (none_on (entered (OfVariable n)) (none (OfVariable n)) h)));
        begun = λ n h. inr ((there n).1 h);
        known = λ n h. ⊎_elim (λ k. absurd (none_on (entered (OfVariable n)) (none (OfVariable n)) k)) (λ k. (there n).0 k) h;
      }

  module _ (old new : PlainNode → Bool) (front steps : List PlainStep) (left : List ℕ) (x : PlainNode) (w : IsOrderedTo starts old steps left) where
    left_once : (y : PlainNode) (done : List ℕ) → reverse done ++ variable_in y ≡ reverse (variable_in y ++ done)
    left_once (OfFunction name) done = append-nil (reverse done)
    left_once (OfVariable n) done = sym (reverse-append (n ∷ []) done)

    -- a node is left
    pub order_leaves : (more : List ℕ) → ((y : PlainNode) → new y ≡ old y) → steps ≡ front ++ Leave x ∷ [] → more ≡ left ++ variable_in x
        → IsOrderedTo starts new front more
    order_leaves more same is added =
        let all : on_path steps ++ w.done ≡ on_path front ++ (variable_in x ++ w.done) =
        ap (λ ns. ns ++ w.done) (ap on_path is ∙ on_path-leave front x) ∙ append_assoc (on_path front) (variable_in x) w.done in
        let keeps : (n : ℕ) → IsIn steps (Enter (OfVariable n)) → IsIn front (Enter (OfVariable n)) =
        λ n h. ⊎_elim (λ k. k) (λ k. ⊎_elim (λ e. absurd (let bad : Leave x ≡ Enter (OfVariable n) = e in cc)) (λ bad. absurd bad) k)
        ((in_append front (Leave x ∷ []) (Enter (OfVariable n))).0 (subst (λ ss. IsIn ss (Enter (OfVariable n))) is h)) in
        let back : (n : ℕ) → IsIn front (Enter (OfVariable n)) → IsIn steps (Enter (OfVariable n)) =
        λ n h. subst (λ ss. IsIn ss (Enter (OfVariable n))) (sym is) ((in_append front (Leave x ∷ []) (Enter (OfVariable n))).1 (inl h)) in record {
          done = variable_in x ++ w.done;
          are_left = added ∙ ap (λ ns. ns ++ variable_in x) w.are_left ∙ left_once x w.done;
          once = subst AreDistinct all w.once;
          same = λ n. (
            (λ h. same (OfVariable n) ∙ (w.same n).0 (subst (λ ns. IsIn ns n) (sym all) h)),
            (λ h. subst (λ ns. IsIn ns n) all ((w.same n).1 (sym (same (OfVariable n)) ∙ h))),
          );
          begun = λ n h. ⊎_elim (λ k. inl (same (OfVariable n) ∙ k)) (λ k. inr (keeps n k)) (w.begun n h);
          known = λ n h. w.known n (⊎_elim (λ k. inl (sym (same (OfVariable n)) ∙ k)) (λ k. inr (back n k)) h);
        }

    module _ (adds : AddsNode old new x) (is : steps ≡ front ++ Enter x ∷ []) where
      before : on_path steps ++ w.done ≡ on_path front ++ w.done
      before = ap (λ ns. ns ++ w.done) (ap on_path is ∙ on_path-enter front x)

      in_front : (n : ℕ) → IsIn steps (Enter (OfVariable n)) → (x ≡ OfVariable n) ⊎ IsIn front (Enter (OfVariable n))
      in_front n h = ⊎_elim (λ k. inr k)
          (λ k. ⊎_elim (λ e. inl (let both : Enter x ≡ Enter (OfVariable n) = e in let same : x ≡ OfVariable n = cc in same)) (λ bad. absurd bad) k)
          ((in_append front (Enter x ∷ []) (Enter (OfVariable n))).0 (subst (λ ss. IsIn ss (Enter (OfVariable n))) is h))

      from_front : (n : ℕ) → IsIn front (Enter (OfVariable n)) → IsIn steps (Enter (OfVariable n))
      from_front n h = subst (λ ss. IsIn ss (Enter (OfVariable n))) (sym is) ((in_append front (Enter x ∷ []) (Enter (OfVariable n))).1 (inl h))

      x_known : (n : ℕ) → x ≡ OfVariable n → IsIn starts n
      x_known n e = w.known n (inr (subst (λ ss. IsIn ss (Enter (OfVariable n))) (sym is)
          ((in_append front (Enter x ∷ []) (Enter (OfVariable n))).1 (inr (inl (ap Enter e))))))

      -- the node was entered before
      pub order_again : IsTrue (old x) → IsOrderedTo starts new front left
      order_again there =
          let was : (y : PlainNode) → IsTrue (new y) → IsTrue (old y) =
          λ y h. ⊎_elim (λ e. subst (λ z. IsTrue (old z)) e there) (λ k. k) ((adds y).0 h) in record {
            done = w.done;
            are_left = w.are_left;
            once = subst AreDistinct before w.once;
            same = λ n. (
              (λ h. (adds (OfVariable n)).1 (inr ((w.same n).0 (subst (λ ns. IsIn ns n) (sym before) h)))),
              (λ h. subst (λ ns. IsIn ns n) before ((w.same n).1 (was (OfVariable n) h))),
            );
            begun = λ n h. ⊎_elim (λ k. inl ((adds (OfVariable n)).1 (inr k)))
                (λ k. ⊎_elim (λ e. inl ((adds (OfVariable n)).1 (inl e))) (λ j. inr j) (in_front n k)) (w.begun n h);
            known = λ n h. w.known n (⊎_elim (λ k. inl (was (OfVariable n) k)) (λ k. inr (from_front n k)) h);
          }

      -- the variables, with that of a node that was not entered before
      with_node : (y : PlainNode) (ns ms : List ℕ) → AreDistinct (ns ++ ms) → ((n : ℕ) → y ≡ OfVariable n → IsIn (ns ++ ms) n → ⊥)
          → AreDistinct ((ns ++ variable_in y) ++ ms)
      with_node (OfFunction name) ns ms h out = subst (λ ks. AreDistinct (ks ++ ms)) (sym (append-nil ns)) h
      with_node (OfVariable n) ns ms h out = subst AreDistinct (sym (append_assoc ns (n ∷ []) ms)) (distinct_middle ns ms n h (out n refl))

      in_node : (y : PlainNode) (ns ms : List ℕ) (n : ℕ) → IsIn ((ns ++ variable_in y) ++ ms) n ↔ ((y ≡ OfVariable n) ⊎ IsIn (ns ++ ms) n)
      in_node (OfFunction name) ns ms n =
          let same = ap (λ ks. ks ++ ms) (append-nil ns) in (
            (λ h. inr (subst (λ ks. IsIn ks n) same h)),
            (λ h. ⊎_elim (λ e. absurd (let bad : OfFunction name ≡ OfVariable n = e in cc)) (λ k. subst (λ ks. IsIn ks n) (sym same) k) h),
          )
      in_node (OfVariable m) ns ms n =
          let outer = in_append (ns ++ m ∷ []) ms n in
          let inner = in_append ns (m ∷ []) n in
          let both = in_append ns ms n in (
            (λ h. ⊎_elim
                (λ k. ⊎_elim (λ j. inr (both.1 (inl j))) (λ j. ⊎_elim (λ e. inl (ap OfVariable e)) (λ bad. absurd bad) j) (inner.0 k))
                (λ k. inr (both.1 (inr k))) (outer.0 h)),
            (λ h. ⊎_elim
                (λ e. outer.1 (inl (inner.1 (inr (inl (let all : OfVariable m ≡ OfVariable n = e in let same : m ≡ n = cc in same))))))
                (λ k. ⊎_elim (λ j. outer.1 (inl (inner.1 (inl j)))) (λ j. outer.1 (inr j)) (both.0 k)) h),
          )

      -- the node is entered now
      pub order_enters : (reads : List PlainNode) (next : List PlainStep) → ((n : ℕ) → IsIn reads (OfVariable n) → IsIn starts n) → old x ≡ false
          → next ≡ front ++ Leave x ∷ all_entered reads → IsOrderedTo starts new next left
      order_enters reads next reads_known off more =
          let path : on_path next ≡ on_path front ++ variable_in x = ap on_path more ∙ on_path-begun front x reads in
          let all = in_node x (on_path front) w.done in
          let was : (n : ℕ) → IsIn (on_path front ++ w.done) n ↔ IsTrue (old (OfVariable n)) =
          λ n. ((λ h. (w.same n).0 (subst (λ ns. IsIn ns n) (sym before) h)), (λ h. subst (λ ns. IsIn ns n) before ((w.same n).1 h))) in
          let next_in : (n : ℕ) → IsIn next (Enter (OfVariable n)) ↔ (IsIn front (Enter (OfVariable n)) ⊎ IsIn reads (OfVariable n)) =
          λ n. let both = in_append front (Leave x ∷ all_entered reads) (Enter (OfVariable n)) in let read = in_entered reads (OfVariable n) in (
            (λ h. ⊎_elim (λ k. inl k)
                (λ k. ⊎_elim (λ e. absurd (let bad : Leave x ≡ Enter (OfVariable n) = e in cc)) (λ j. inr (read.0 j)) k)
                (both.0 (subst (λ ss. IsIn ss (Enter (OfVariable n))) more h))),
            (λ h. subst (λ ss. IsIn ss (Enter (OfVariable n))) (sym more) (both.1 (⊎_elim (λ k. inl k) (λ k. inr (inr (read.1 k))) h))),
          ) in record {
            done = w.done;
            are_left = w.are_left;
            once = subst (λ ns. AreDistinct (ns ++ w.done)) (sym path) (with_node x (on_path front) w.done (subst AreDistinct before w.once)
                (λ n e h. none_on (old (OfVariable n)) (ap old (sym e) ∙ off) ((was n).0 h)));
            same = λ n. (
              (λ h. (adds (OfVariable n)).1 (⊎_elim (λ e. inl e) (λ k. inr ((was n).0 k))
                  ((all n).0 (subst (λ ns. IsIn (ns ++ w.done) n) path h)))),
              (λ h. subst (λ ns. IsIn (ns ++ w.done) n) (sym path) ((all n).1 (⊎_elim (λ e. inl e) (λ k. inr ((was n).1 k)) ((adds (OfVariable n)).0 h)))),
            );
            begun = λ n h. ⊎_elim (λ k. inl ((adds (OfVariable n)).1 (inr k)))
                (λ k. ⊎_elim (λ e. inl ((adds (OfVariable n)).1 (inl e))) (λ j. inr ((next_in n).1 (inl j))) (in_front n k)) (w.begun n h);
            known = λ n h. ⊎_elim
                (λ k. ⊎_elim (λ e. x_known n e) (λ j. w.known n (inl j)) ((adds (OfVariable n)).0 k))
                (λ k. ⊎_elim (λ j. w.known n (inr (from_front n j))) (λ j. reads_known n j) ((next_in n).0 k)) h;
          }

  -- no step is left
  module _ (entered : PlainNode → Bool) (steps : List PlainStep) (left : List ℕ) (w : IsOrderedTo starts entered steps left) (none : steps ≡ []) where
    pub order_once : AreDistinct left
    order_once = subst AreDistinct (sym w.are_left) (distinct_reverse w.done (subst (λ ss. AreDistinct (on_path ss ++ w.done)) none w.once))

    pub order_same : (n : ℕ) → IsIn left n ↔ IsIn starts n
    order_same n =
        let turned = in_reverse w.done n in (
          (λ h. w.known n (inl ((w.same n).0 (subst (λ ss. IsIn (on_path ss ++ w.done) n) (sym none)
              (turned.0 (subst (λ ns. IsIn ns n) w.are_left h)))))),
          (λ h. subst (λ ns. IsIn ns n) (sym w.are_left) (turned.1 (⊎_elim
              (λ k. subst (λ ss. IsIn (on_path ss ++ w.done) n) none ((w.same n).1 k))
              (λ k. absurd (subst (λ ss. IsIn ss (Enter (OfVariable n))) none k)) (w.begun n h)))),
        )

-- a node that is to be entered, whether it is new or not
pub order_goes : (starts : List ℕ) (old new : PlainNode → Bool) (front steps next : List PlainStep) (left : List ℕ) (x : PlainNode) (reads : List PlainNode)
    (is_new : Bool) → IsOrderedTo starts old steps left → AddsNode old new x → steps ≡ front ++ Enter x ∷ []
    → ((n : ℕ) → IsIn reads (OfVariable n) → IsIn starts n) → is_new ≡ not (old x)
    → next ≡ (if is_new then front ++ Leave x ∷ all_entered reads else front) → IsOrderedTo starts new next left
order_goes starts old new front steps next left x reads true w adds is known fresh more =
    order_enters starts old new front steps left x w adds is reads next known (not-true (old x) (sym fresh)) more
order_goes starts old new front steps next left x reads false w adds is known fresh more =
    subst (λ ss. IsOrderedTo starts new ss left) (sym more) (order_again starts old new front steps left x w adds is (not-false (old x) (sym fresh)))
