-- Nodes that are reached, one after another.
use Rattle.std.proofs.Common.{◌≡◌, ◌↔◌, ◌⊎◌, inl, inr, ⊎_elim, ◌+◌, ◌≤◌, ◌<◌, ℕ, Bool, true, false, cond, List, [], ◌∷◌, ◌++◌, length, IsTrue, refl, ap, sym}
use Rattle.std.proofs.Common.{◌∙◌, subst, arith}
use Rattle.std.proofs.Common.{length-append}
use Rattle.just_needs.specs.Prelude.{AreAll, IsIn, IsReadFrom, PlainNode}
use Rattle.just_needs.specs.Graph.{Starts, ReadBy}
use Rattle.just_syntax.proofs.Lists.{in_append}

-- The invariant of the walk. The starting nodes, and what reached nodes read, are reached or pending; all of these are
-- reached from the starting nodes.
pub record AreNodesWalked (reads : PlainNode → List PlainNode) (starts : List PlainNode) (reached : PlainNode → Bool) (pending : List PlainNode) : Type 0 where
  pub begun : (x : PlainNode) → IsIn starts x → IsTrue (reached x) ⊎ IsIn pending x
  pub closed : (y x : PlainNode) → IsTrue (reached y) → IsIn (reads y) x → IsTrue (reached x) ⊎ IsIn pending x
  pub sound : (x : PlainNode) → IsTrue (reached x) ⊎ IsIn pending x → IsReadFrom reads starts x

-- one more node
abbrev pub AddsNode : (PlainNode → Bool) → (PlainNode → Bool) → PlainNode → Type 0
AddsNode old new node = (x : PlainNode) → IsTrue (new x) ↔ ((node ≡ x) ⊎ IsTrue (old x))

module _ (reads : PlainNode → List PlainNode) (starts : List PlainNode) where
  pub begins : (reached : PlainNode → Bool) → ((x : PlainNode) → reached x ≡ false) → AreNodesWalked reads starts reached starts
  begins reached none = record {
    begun = λ x h. inr h;
    closed = λ y x h r. absurd (let e : false ≡ true = sym (none y) ∙ h in cc);
    sound = λ x h. ⊎_elim (λ k. absurd (let e : false ≡ true = sym (none x) ∙ k in cc)) (λ k. Starts k) h;
  }

  module _ (old new : PlainNode → Bool) (front : List PlainNode) (node : PlainNode) (w : AreNodesWalked reads starts old (front ++ node ∷ []))
      (adds : AddsNode old new node) where
    node_reached : IsReadFrom reads starts node
    node_reached = w.sound node (inr ((in_append front (node ∷ []) node).1 (inr (inl refl))))

    settled : (next : List PlainNode) → ((x : PlainNode) → IsIn front x → IsIn next x) → (x : PlainNode) → IsTrue (old x) ⊎ IsIn (front ++ node ∷ []) x
        → IsTrue (new x) ⊎ IsIn next x
    settled next kept x h = ⊎_elim (λ a. inl ((adds x).1 (inr a)))
        (λ k. ⊎_elim (λ j. inr (kept x j)) (λ j. ⊎_elim (λ same. inl ((adds x).1 (inl same))) (λ bad. absurd bad) j) ((in_append front (node ∷ []) x).0 k)) h

    new_sound : (x : PlainNode) → IsTrue (new x) → IsReadFrom reads starts x
    new_sound x h = ⊎_elim (λ same. subst (IsReadFrom reads starts) same node_reached) (λ k. w.sound x (inl k)) ((adds x).0 h)

    front_sound : (x : PlainNode) → IsIn front x → IsReadFrom reads starts x
    front_sound x h = w.sound x (inr ((in_append front (node ∷ []) x).1 (inl h)))

    -- the last pending node was already reached
    pub passes : IsTrue (old node) → AreNodesWalked reads starts new front
    passes there = record {
      begun = λ x h. settled front (λ y k. k) x (w.begun x h);
      closed = λ y x h r. settled front (λ z k. k) x (⊎_elim (λ same. w.closed node x there (subst (λ z. IsIn (reads z) x) (sym same) r))
          (λ k. w.closed y x k r) ((adds y).0 h));
      sound = λ x h. ⊎_elim (new_sound x) (front_sound x) h;
    }

    -- the last pending node is reached now, and what it reads is pending
    pub goes_on : AreNodesWalked reads starts new (front ++ reads node)
    goes_on =
        let kept : (x : PlainNode) → IsIn front x → IsIn (front ++ reads node) x = λ x k. (in_append front (reads node) x).1 (inl k) in record {
          begun = λ x h. settled (front ++ reads node) kept x (w.begun x h);
          closed = λ y x h r. ⊎_elim
              (λ same. inr ((in_append front (reads node) x).1 (inr (subst (λ z. IsIn (reads z) x) (sym same) r))))
              (λ k. settled (front ++ reads node) kept x (w.closed y x k r)) ((adds y).0 h);
          sound = λ x h. ⊎_elim (new_sound x)
              (λ k. ⊎_elim (front_sound x) (λ j. ReadBy node node_reached j) ((in_append front (reads node) x).0 k)) h;
        }

  -- nothing is pending
  module _ (reached : PlainNode → Bool) (w : AreNodesWalked reads starts reached []) where
    all_reached : {x : PlainNode} → IsReadFrom reads starts x → IsTrue (reached x)
    all_reached {x} (Starts h) = ⊎_elim (λ k. k) (λ k. absurd k) (w.begun x h)
    all_reached {x} (ReadBy y h r) = ⊎_elim (λ k. k) (λ k. absurd k) (w.closed y x (all_reached h) r)

    pub ends : (x : PlainNode) → IsTrue (reached x) ↔ IsReadFrom reads starts x
    ends x = ((λ h. w.sound x (inl h)), (λ h. all_reached h))

-- ---- termination

module _ (reads : PlainNode → List PlainNode) where
  -- what the nodes that are not reached read
  abbrev pub node_work : List PlainNode → (PlainNode → Bool) → ℕ
  node_work [] reached = 0
  node_work (x ∷ xs) reached = cond (reached x) 0 (length (reads x)) + node_work xs reached

  module _ (old new : PlainNode → Bool) (node : PlainNode) (adds : AddsNode old new node) where
    part_kept : (a b : Bool) (k : ℕ) → (IsTrue a → IsTrue b) → cond b 0 k ≤ cond a 0 k
    part_kept true true k h = omega arith
    part_kept true false k h = absurd (let e : false ≡ true = h refl in cc)
    part_kept false true k h = omega arith
    part_kept false false k h = omega arith

    kept : (x : PlainNode) → cond (new x) 0 (length (reads x)) ≤ cond (old x) 0 (length (reads x))
    kept x = part_kept (old x) (new x) (length (reads x)) (λ h. (adds x).1 (inr h))

    work_kept : (xs : List PlainNode) → node_work xs new ≤ node_work xs old
    work_kept [] = omega arith
    work_kept (x ∷ xs) = let here = kept x in let rest = work_kept xs in omega (arith, here, rest)

    part_falls : (a b : Bool) (k : ℕ) → a ≡ false → b ≡ true → cond b 0 k + k ≤ cond a 0 k
    part_falls true b k off on = absurd (cc)
    part_falls false true k off on = omega arith
    part_falls false false k off on = absurd (cc)

    work_falls : (xs : List PlainNode) → old node ≡ false → IsIn xs node → node_work xs new + length (reads node) ≤ node_work xs old
    work_falls [] off h = absurd h
    work_falls (x ∷ xs) off (inl same) =
        let here = part_falls (old x) (new x) (length (reads x)) (ap old same ∙ off) ((adds x).1 (inl (sym same))) in
        let size : length (reads x) ≡ length (reads node) = ap (λ (y : PlainNode). length (reads y)) same in
        let rest = work_kept xs in
        omega (arith, here, size, rest)
    work_falls (x ∷ xs) off (inr later) = let here = kept x in let rest = work_falls xs off later in omega (arith, here, rest)

    work_left : (all : List PlainNode) → AreAll reads all → old node ≡ false → node_work all new + length (reads node) ≤ node_work all old
    work_left all are off = ⊎_elim (work_falls all off)
        (λ none. let size : length (reads node) ≡ 0 = ap length none in let rest = work_kept all in omega (arith, size, rest)) (are node)

    -- the last pending node is removed
    pub falls_passed : (all front pending : List PlainNode) → pending ≡ front ++ node ∷ []
        → node_work all new + length front < node_work all old + length pending
    falls_passed all front pending is =
        let rest = work_kept all in
        let size : length pending ≡ length front + 1 = ap length is ∙ length-append front (node ∷ []) in
        omega (arith, rest, size)

    -- it is removed, and what it reads is pending
    pub falls_on : (all front pending next : List PlainNode) → AreAll reads all → old node ≡ false → pending ≡ front ++ node ∷ []
        → next ≡ front ++ reads node
        → node_work all new + length next < node_work all old + length pending
    falls_on all front pending next are off is more =
        let rest = work_left all are off in
        let size : length pending ≡ length front + 1 = ap length is ∙ length-append front (node ∷ []) in
        let grown : length next ≡ length front + length (reads node) = ap length more ∙ length-append front (reads node) in
        omega (arith, rest, size, grown)
