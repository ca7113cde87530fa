-- Paths of a walk back to the variable that it starts from.
use Rattle.std.proofs.Common.{◌≡◌, ◌⊎◌, inl, inr, ⊎_elim, ℕ, Bool, true, false, List, [], ◌∷◌, ◌++◌, map, if◌then◌else◌, reverse, Option, Some, None, IsTrue}
use Rattle.std.proofs.Common.{refl, ap, sym, ◌∙◌, subst}
use Rattle.just_resolve.specs.Prelude.{Enter, IsIn, IsPathBack, Leave, OfVariable, PlainNode, PlainStep, all_entered, path_in, variables_in}
use Rattle.just_resolve.specs.Walk.{AreReadInTurn}
use Rattle.just_resolve.proofs.Steps.{in_reverse}

module _ (reads : PlainNode → List PlainNode) where
  abbrev ReadBy : Option PlainNode → PlainNode → Type 0
  ReadBy None x = Unit {0}
  ReadBy (Some y) x = IsIn (reads y) x

  -- each node is read by the last entered one before it
  abbrev pub IsPath : Option PlainNode → List PlainStep → Type 0
  IsPath before [] = Unit {0}
  IsPath before (Enter x ∷ ss) = ReadBy before x × IsPath before ss
  IsPath before (Leave x ∷ ss) = ReadBy before x × IsPath (Some x) ss

  abbrev last_left_node : Option PlainNode → List PlainStep → Option PlainNode
  last_left_node before [] = before
  last_left_node before (Enter x ∷ ss) = last_left_node before ss
  last_left_node before (Leave x ∷ ss) = last_left_node (Some x) ss

  path_append : (before : Option PlainNode) (ss ts : List PlainStep) → IsPath before ss → IsPath (last_left_node before ss) ts → IsPath before (ss ++ ts)
  path_append before [] ts h k = k
  path_append before (Enter x ∷ ss) ts h k = (h.0, path_append before ss ts h.1 k)
  path_append before (Leave x ∷ ss) ts h k = (h.0, path_append (Some x) ss ts h.1 k)

  pub path_front : (before : Option PlainNode) (ss ts : List PlainStep) → IsPath before (ss ++ ts) → IsPath before ss
  path_front before [] ts h = tt
  path_front before (Enter x ∷ ss) ts h = (h.0, path_front before ss ts h.1)
  path_front before (Leave x ∷ ss) ts h = (h.0, path_front (Some x) ss ts h.1)

  path_after : (before : Option PlainNode) (ss ts : List PlainStep) → IsPath before (ss ++ ts) → IsPath (last_left_node before ss) ts
  path_after before [] ts h = h
  path_after before (Enter x ∷ ss) ts h = path_after before ss ts h.1
  path_after before (Leave x ∷ ss) ts h = path_after (Some x) ss ts h.1

  path_enters : (x : PlainNode) (ys : List PlainNode) → ((y : PlainNode) → IsIn ys y → IsIn (reads x) y) → IsPath (Some x) (map Enter ys)
  path_enters x [] there = tt
  path_enters x (y ∷ ys) there = (there y (inl refl), path_enters x ys (λ z h. there z (inr h)))

  -- steps that enter some nodes
  pub path_starts : (ys : List PlainNode) → IsPath None (map Enter ys)
  path_starts [] = tt
  path_starts (y ∷ ys) = (tt, path_starts ys)

  -- a node is entered
  pub path_goes : (front : List PlainStep) (x : PlainNode) → IsPath None (front ++ Enter x ∷ []) → IsPath None (front ++ Leave x ∷ all_entered (reads x))
  path_goes front x whole =
      path_append None front (Leave x ∷ all_entered (reads x)) (path_front None front (Enter x ∷ []) whole)
      ((path_after None front (Enter x ∷ []) whole).0, path_enters x (reverse (reads x)) (λ y h. (in_reverse (reads x) y).0 h))

  -- the nodes of a path to x
  turns : (x y : PlainNode) (ss : List PlainStep) → IsPath (Some y) (ss ++ Enter x ∷ []) → AreReadInTurn reads x y (path_in ss)
  turns x y [] h = h.0
  turns x y (Enter z ∷ ss) h = turns x y ss h.1
  turns x y (Leave z ∷ ss) h = (h.0, turns x z ss h.1)

  -- the start is still to be entered, or it was entered first, or the walk has ended
  abbrev IsFromStart : ℕ → (PlainNode → Bool) → List PlainStep → Type 0
  IsFromStart start entered steps =
      ((steps ≡ Enter (OfVariable start) ∷ []) × ((x : PlainNode) → entered x ≡ false))
      ⊎ ((rest : List PlainStep) × (steps ≡ Leave (OfVariable start) ∷ rest)) ⊎ (steps ≡ [])

  -- the invariant of the search
  pub record IsOnWay (start : ℕ) (entered : PlainNode → Bool) (steps : List PlainStep) : Type 0 where
    pub path : IsPath None steps
    pub from_start : IsFromStart start entered steps

  pub way_begins : (start : ℕ) (entered : PlainNode → Bool) (steps : List PlainStep) → ((x : PlainNode) → entered x ≡ false)
      → steps ≡ Enter (OfVariable start) ∷ [] → IsOnWay start entered steps
  way_begins start entered steps none is = record { path = subst (IsPath None) (sym is) (tt, tt); from_start = inl (is, none) }

  -- the steps before the last one
  front_of : (front : List PlainStep) (s t : PlainStep) (rest : List PlainStep) → front ++ s ∷ [] ≡ t ∷ rest
      → ((front ≡ []) × (s ≡ t)) ⊎ ((more : List PlainStep) × (front ≡ t ∷ more))
  front_of [] s t rest is = inl (refl, cc)
  front_of (f ∷ front) s t rest is = inr (front, let same : f ≡ t = cc in ap (λ g. g ∷ front) same)

  not_empty : (front : List PlainStep) (s : PlainStep) → front ++ s ∷ [] ≡ [] → ⊥
  not_empty [] s is = cc
  not_empty (f ∷ front) s is = cc

  module _ (start : ℕ) (old new : PlainNode → Bool) (front steps : List PlainStep) (w : IsOnWay start old steps) where
    -- the last step is done, and nothing is added
    pub way_shortens : (s : PlainStep) → steps ≡ front ++ s ∷ [] → IsOnWay start new front
    way_shortens s is =
        record {
          path = path_front None front (s ∷ []) (subst (IsPath None) is w.path);
          from_start = ⊎_elim
              (λ first. ⊎_elim (λ k. inr (inr k.0))
              (λ k. let bad : front ++ s ∷ [] ≡ Enter (OfVariable start) ∷ [] = sym is ∙ first.0 in absurd (only k.0 k.1 bad))
              (front_of front s (Enter (OfVariable start)) [] (sym is ∙ first.0)))
              (λ other. ⊎_elim (λ k. ⊎_elim (λ e. inr (inr e.0)) (λ e. inr (inl e)) (front_of front s (Leave (OfVariable start)) k.0 (sym is ∙ k.1)))
              (λ k. absurd (not_empty front s (sym is ∙ k))) other) w.from_start;
        }
      where
        only : (more : List PlainStep) → front ≡ Enter (OfVariable start) ∷ more → front ++ s ∷ [] ≡ Enter (OfVariable start) ∷ [] → ⊥
        only more e bad =
            let longer : Enter (OfVariable start) ∷ (more ++ s ∷ []) ≡ Enter (OfVariable start) ∷ [] = ap (λ f. f ++ s ∷ []) (sym e) ∙ bad in
            not_empty more s (let same : more ++ s ∷ [] ≡ [] = cc in same)

    -- a node is entered
    pub way_enters : (x : PlainNode) (next : List PlainStep) → steps ≡ front ++ Enter x ∷ [] → next ≡ front ++ Leave x ∷ all_entered (reads x)
        → IsOnWay start new next
    way_enters x next is more =
        record {
          path = subst (IsPath None) (sym more) (path_goes front x (subst (IsPath None) is w.path));
          from_start = inr (inl (begun (⊎_elim
              (λ first. ⊎_elim (λ k. inl (k.0, let both : Enter x ≡ Enter (OfVariable start) = k.1 in let same : x ≡ OfVariable start = cc in same))
              (λ k. absurd (not_more k.0 k.1 (sym is ∙ first.0)))
              (front_of front (Enter x) (Enter (OfVariable start)) [] (sym is ∙ first.0)))
              (λ other. ⊎_elim
              (λ k. ⊎_elim (λ e. absurd (let bad : Enter x ≡ Leave (OfVariable start) = e.1 in cc)) (λ e. inr e)
              (front_of front (Enter x) (Leave (OfVariable start)) k.0 (sym is ∙ k.1)))
              (λ k. absurd (not_empty front (Enter x) (sym is ∙ k))) other) w.from_start)));
        }
      where
        not_more : (rest : List PlainStep) → front ≡ Enter (OfVariable start) ∷ rest → front ++ Enter x ∷ [] ≡ Enter (OfVariable start) ∷ [] → ⊥
        not_more rest e bad =
            let longer : Enter (OfVariable start) ∷ (rest ++ Enter x ∷ []) ≡ Enter (OfVariable start) ∷ [] = ap (λ f. f ++ Enter x ∷ []) (sym e) ∙ bad in
            not_empty rest (Enter x) (let same : rest ++ Enter x ∷ [] ≡ [] = cc in same)

        begun : ((front ≡ []) × (x ≡ OfVariable start)) ⊎ ((rest : List PlainStep) × (front ≡ Leave (OfVariable start) ∷ rest))
            → (rest : List PlainStep) × (next ≡ Leave (OfVariable start) ∷ rest)
        begun (inl h) = (all_entered (reads x), more ∙ ap (λ f. f ++ Leave x ∷ all_entered (reads x)) h.0 ∙ ap (λ y. Leave y ∷ all_entered (reads x)) h.1)
        begun (inr h) = (h.0 ++ Leave x ∷ all_entered (reads x), more ∙ ap (λ f. f ++ Leave x ∷ all_entered (reads x)) h.1)

    -- the start is reached again
    pub way_back : (x : PlainNode) (numbers : List ℕ) → steps ≡ front ++ Enter x ∷ [] → x ≡ OfVariable start → IsTrue (old x)
        → numbers ≡ variables_in (path_in front) → IsPathBack reads start numbers
    way_back x numbers is at there are = ⊎_elim
        (λ first. absurd (let off = first.1 x in let bad : false ≡ true = sym off ∙ there in cc))
        (λ other. ⊎_elim
        (λ k. ⊎_elim (λ e. absurd (let bad : Enter x ≡ Leave (OfVariable start) = e.1 in cc)) (λ e. back e.0 e.1)
        (front_of front (Enter x) (Leave (OfVariable start)) k.0 (sym is ∙ k.1)))
        (λ k. absurd (not_empty front (Enter x) (sym is ∙ k))) other) w.from_start
      where
        back : (rest : List PlainStep) → front ≡ Leave (OfVariable start) ∷ rest → IsPathBack reads start numbers
        back rest e =
            let whole : IsPath None (Leave (OfVariable start) ∷ (rest ++ Enter x ∷ [])) =
            subst (IsPath None) (is ∙ ap (λ f. f ++ Enter x ∷ []) e) w.path in record {
              rest = path_in rest;
              are = are ∙ ap (λ f. variables_in (path_in f)) e;
              path = subst (λ y. AreReadInTurn reads y (OfVariable start) (path_in rest)) at (turns x (OfVariable start) rest whole.1);
            }

-- a node that is to be entered, whether it is new or not
pub way_goes : (reads : PlainNode → List PlainNode) (start : ℕ) (old new : PlainNode → Bool) (front steps next : List PlainStep) (x : PlainNode)
    (is_new : Bool) → IsOnWay reads start old steps → steps ≡ front ++ Enter x ∷ []
    → next ≡ (if is_new then front ++ Leave x ∷ all_entered (reads x) else front) → IsOnWay reads start new next
way_goes reads start old new front steps next x true w is more = way_enters reads start old new front steps w x next is more
way_goes reads start old new front steps next x false w is more =
    subst (λ ss. IsOnWay reads start new ss) (sym more) (way_shortens reads start old new front steps w (Enter x) is)
