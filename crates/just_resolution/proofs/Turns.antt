-- What is evaluated for a recipe is readable exactly if the tests of its parts say so, one after another.
use Rattle.std.proofs.Common.{◌≡◌, ◌↔◌, ◌⊎◌, inl, inr, ⊎_elim, ℕ, Bool, true, false, List, [], ◌∷◌, ◌++◌, IsTrue, sym, subst}
use Rattle.just_resolution.specs.Prelude.{AllKnown, AllReadable, AreReadableInTurn, Expr, Function, HasValue, IsIn, MayAllOccur, MayFollowInTurn, MayOccur}
use Rattle.just_resolution.specs.Prelude.{Parameter, expressions_of, parameter_expressions}
use Rattle.just_value.specs.Value.{Names}
use Rattle.just_syntax.proofs.Lists.{all_alike, all_append}
use Rattle.just_meaning.specs.Here.{IsReadable}
use Rattle.just_meaning.specs.Resolved.{MentionsKnown}
use Rattle.just_resolution.specs.Admitted.{AllReadBy}
use Rattle.just_resolution.proofs.Resolving.{refuses}

one_more : (A B C E : Type 0) → A ↔ (B ⊎ C) → (A ⊎ E) ↔ ((E ⊎ B) ⊎ C)
one_more A B C E same = (
  (λ h. ⊎_elim (λ a. ⊎_elim (λ b. inl (inr b)) (λ c. inr c) (same.0 a)) (λ e. inl (inl e)) h),
  (λ h. ⊎_elim (λ x. ⊎_elim (λ e. inr e) (λ b. inl (same.1 (inl b))) x) (λ c. inl (same.1 (inr c))) h),
)

module _ (functions : List Function) (here readable : ℕ → Bool) where
  -- the last of some expressions, separated from the others
  occur_append : (es : List Expr) (e : Expr) → MayAllOccur functions here readable (es ++ e ∷ [])
      ↔ (MayAllOccur functions here readable es × MayOccur functions here readable e)
  occur_append [] e = ((λ h. ((tt, tt), (h.0.0, h.1.0))), (λ h. ((h.1.0, tt), (h.1.1, tt))))
  occur_append (d ∷ es) e =
      let rest = occur_append es e in (
        (λ h. let r = rest.0 (h.0.1, h.1.1) in (((h.0.0, r.0.0), (h.1.0, r.0.1)), r.1)),
        (λ h. let r = rest.1 ((h.0.0.1, h.0.1.1), h.1) in ((h.0.0.0, r.0), (h.0.1.0, r.1))),
      )

  module _ (D : Type 0) (old new : List Expr) (e : Expr) (is : old ≡ new ++ e ∷ []) (all : MayAllOccur functions here readable old ↔ D) where
    -- the last one may occur
    pub occur_next : (answer : Bool) → answer ≡ true → (answer ≡ true) ↔ MayOccur functions here readable e → MayAllOccur functions here readable new ↔ D
    occur_next answer on decides =
        let last = occur_append new e in (
          (λ h. all.0 (subst (MayAllOccur functions here readable) (sym is) (last.1 (h, decides.0 on)))),
          (λ d. (last.0 (subst (MayAllOccur functions here readable) is (all.1 d))).0),
        )

    -- the last one may not occur
    pub occur_off : (answer : Bool) → answer ≡ false → (answer ≡ true) ↔ MayOccur functions here readable e → (false ≡ true) ↔ D
    occur_off answer off decides = refuses answer off decides (λ d. ((occur_append new e).0 (subst (MayAllOccur functions here readable) is (all.1 d))).1)

module _ (functions : List Function) (readable : ℕ → Bool) where
  -- the same numbers may be read
  pub read_alike : (here other : ℕ → Type 0) (es : List Expr) → ((n : ℕ) → here n ↔ other n) → AllReadBy functions here readable es
      ↔ AllReadBy functions other readable es
  read_alike here other es same = (
    all_alike _ _ (λ e h. ((λ n s. (same n).0 (h.0 n s)), h.1)) es,
    all_alike _ _ (λ e h. ((λ n s. (same n).1 (h.0 n s)), h.1)) es,
  )

  pub follow_alike : (here other : ℕ → Type 0) (ps : List Parameter) → ((n : ℕ) → here n ↔ other n) → MayFollowInTurn functions here readable ps
      ↔ MayFollowInTurn functions other readable ps
  follow_alike here other [] same = ((λ h. h), (λ h. h))
  follow_alike here other (p ∷ ps) same =
      let own = read_alike here other (expressions_of p) same in
      let rest = follow_alike (λ n. here n ⊎ (p.number ≡ n)) (λ n. other n ⊎ (p.number ≡ n)) ps
      (λ n. ((λ h. ⊎_elim (λ a. inl ((same n).0 a)) (λ e. inr e) h), (λ h. ⊎_elim (λ a. inl ((same n).1 a)) (λ e. inr e) h))) in (
        (λ h. ((h.0.0, own.0 h.0.1), rest.0 h.1)),
        (λ h. ((h.0.0, own.1 h.0.1), rest.1 h.1)),
      )

  -- one parameter was checked, and is readable from now on
  pub follow_next : (D : Type 0) (here next : ℕ → Type 0) (p : Parameter) (ps : List Parameter)
      → (AllKnown functions (expressions_of p) × AllReadBy functions here readable (expressions_of p)) → ((n : ℕ) → next n ↔ (here n ⊎ (p.number ≡ n)))
      → MayFollowInTurn functions here readable (p ∷ ps) ↔ D → MayFollowInTurn functions next readable ps ↔ D
  follow_next D here next p ps own grows all =
      let rest = follow_alike next (λ n. here n ⊎ (p.number ≡ n)) ps grows in (
        (λ h. all.0 (own, rest.0 h)),
        (λ d. rest.1 (all.1 d).1),
      )

  -- one parameter may not follow
  pub follow_off : (D : Type 0) (here : ℕ → Type 0) (p : Parameter) (ps : List Parameter) (answer : Bool) → answer ≡ false → (answer ≡ true)
      ↔ (AllKnown functions (expressions_of p) × AllReadBy functions here readable (expressions_of p))
      → MayFollowInTurn functions here readable (p ∷ ps) ↔ D → (false ≡ true) ↔ D
  follow_off D here p ps answer off decides all = refuses answer off decides (λ d. (all.1 d).0)

module _ (functions : List Function) (base names : Names) (readable : ℕ → Bool) (bodies : (n : ℕ) → IsTrue (readable n) ↔ HasValue base n) where
  -- what the tests say about reading is what is bound
  pub read_readable : (here other : ℕ → Type 0) (es : List Expr) → ((n : ℕ) → here n ↔ other n) → AllReadBy functions here readable es
      ↔ AllReadable functions base other es
  read_readable here other es same = (
    all_alike _ _ (λ e h. record { own = λ n s. (same n).0 (h.0 n s); beyond = λ n r. (bodies n).0 (h.1 n r) }) es,
    all_alike _ _ (λ e h. ((λ n s. (same n).1 (h.own n s)), (λ n r. (bodies n).1 (h.beyond n r)))) es,
  )

  pub turn_readable : (here : ℕ → Type 0) (earlier : List ℕ) (ps : List Parameter) → ((n : ℕ) → here n ↔ (IsIn earlier n ⊎ HasValue names n))
      → MayFollowInTurn functions here readable ps ↔ (AllKnown functions (parameter_expressions ps) × AreReadableInTurn functions base names earlier ps)
  turn_readable here earlier [] same = ((λ h. (tt, tt)), (λ h. tt))
  turn_readable here earlier (p ∷ ps) same =
      let own = read_readable here (λ n. IsIn earlier n ⊎ HasValue names n) (expressions_of p) same in
      let rest = turn_readable (λ n. here n ⊎ (p.number ≡ n)) (p.number ∷ earlier) ps
      (λ n. one_more (here n) (IsIn earlier n) (HasValue names n) (p.number ≡ n) (same n)) in
      let known = all_append (MentionsKnown functions) (expressions_of p) (parameter_expressions ps) in (
        (λ h. let r = rest.0 h.1 in (known.1 (h.0.0, r.0), (own.0 h.0.1, r.1))),
        (λ h. let k = known.0 h.0 in ((k.0, own.1 h.1.0), rest.1 (k.1, h.1.1))),
      )

  -- the three tests are the test of all
  pub all_here : (here : ℕ → Bool) (A : Type 0) (attributes expressions : List Expr) (ps : List Parameter) → ((n : ℕ) → IsTrue (here n) ↔ HasValue names n)
      → A ↔ (MayAllOccur functions here readable attributes × MayAllOccur functions here readable expressions
      × MayFollowInTurn functions (λ n. IsTrue (here n)) readable ps)
      → A ↔ (AllKnown functions (attributes ++ parameter_expressions ps ++ expressions)
      × AllReadable functions base (HasValue names) (attributes ++ expressions) × AreReadableInTurn functions base names [] ps)
  all_here here A attributes expressions ps bound all =
      let in_turn = turn_readable (λ n. IsTrue (here n)) [] ps (λ n. ((λ h. inr ((bound n).0 h)), (λ h. ⊎_elim (λ bad. absurd bad) (λ v. (bound n).1 v) h))) in
      let front = all_append (MentionsKnown functions) attributes (parameter_expressions ps) in
      let whole = all_append (MentionsKnown functions) (attributes ++ parameter_expressions ps) expressions in
      let read = all_append (IsReadable functions base (HasValue names)) attributes expressions in
      let a = read_readable (λ n. IsTrue (here n)) (HasValue names) attributes bound in
      let e = read_readable (λ n. IsTrue (here n)) (HasValue names) expressions bound in (
        (λ x. let h = all.0 x in let t = in_turn.0 h.2 in (whole.1 (front.1 (h.0.0, t.0), h.1.0), read.1 (a.0 h.0.1, e.0 h.1.1), t.1)),
        (λ h. let known = whole.0 h.0 in let ahead = front.0 known.0 in let reads = read.0 h.1 in
            all.1 ((ahead.0, a.1 reads.0), (known.1, e.1 reads.1), in_turn.1 (ahead.1, h.2))),
      )
