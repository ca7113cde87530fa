-- What is reached from the members of expressions is what the expressions reach.
use Rattle.std.proofs.Common.{◌≡◌, ◌↔◌, ◌⊎◌, inl, inr, ⊎_elim, ℕ, Bool, true, false, List, [], ◌∷◌, Some, if◌then◌else◌, refl, ap, sym, ◌∙◌, subst}
use Rattle.just_syntax.specs.Plain.{Text, Assignment, Function, Expr}
use Rattle.just_syntax.specs.Lists.{IsIn}
use Rattle.just_meaning.proofs.Reached.{reaches_on}
use Rattle.just_syntax.specs.Occurrences.{CallOf}
use Rattle.just_meaning.specs.Reaches.{Reaches, Here, Later, Occurs, function_at}
use Rattle.just_reach.specs.Member.{PlainMember, Call}
use Rattle.just_reach.specs.Members.{members, members_of_value, members_of_values}
use Rattle.just_reach.specs.Reached.{InBody, IsReached, IsReachedByOne, IsReachedFrom, IsReachedInRun, OccursAt, Starts}
use Rattle.just_reach.proofs.Calls.{called_in}
use Rattle.just_reach.proofs.Covered.{IsClosed}
use Rattle.just_reach.proofs.Listed.{added}

-- ---- what is reached is closed under the bodies of called functions

pub closed : (functions : List Function) (e : Expr) → IsClosed functions (IsReached functions e)
closed functions e t f (inl occurs) found x there =
    let call = (called_in functions t.lexeme f found e).0 (t, refl, occurs) in
    inr (record { name = t.lexeme; function = f; reached = Here call.0 call.1; found = found; occurs = there })
closed functions e t f (inr beyond) found x there =
    let call = (called_in functions t.lexeme f found beyond.function.body).0 (t, refl, beyond.occurs) in
    inr (record {
      name = t.lexeme;
      function = f;
      reached = reaches_on functions beyond.function call.0 beyond.reached beyond.found call.1;
      found = found;
      occurs = there;
    })

pub closed_by_one : (functions : List Function) (es : List Expr) → IsClosed functions (IsReachedByOne functions es)
closed_by_one functions es t f r found x there = (r.0, r.1, closed functions r.0 t f r.2 found x there)

pub closed_in_run : (functions : List Function) (assignments : List Assignment) (referenced : ℕ → Bool)
    → IsClosed functions (IsReachedInRun functions assignments referenced)
closed_in_run functions assignments referenced t f r found x there = record {
  assignment = r.assignment;
  among = r.among;
  referenced = r.referenced;
  reached = closed functions r.assignment.value t f r.reached found x there;
}

-- ---- from some members

module _ (functions : List Function) (starts : List PlainMember) where
  -- what is reached from them has any property that is closed, and that they have
  pub reached_only : (P : PlainMember → Type 0) → IsClosed functions P → ((x : PlainMember) → IsIn starts x → P x) → (x : PlainMember)
      → IsReachedFrom functions starts x → P x
  reached_only P on begun x (Starts h) = begun x h
  reached_only P on begun x (InBody t f r found there) = on t f (reached_only P on begun (Call t) r) found x there

  -- what occurs in the expression is reached from them
  abbrev IsFrom : Expr → Type 0
  IsFrom e = (x : PlainMember) → OccursAt functions e x → IsReachedFrom functions starts x

  body_from : (e : Expr) → IsFrom e → (name : Text) (n : ℕ) → Occurs e (CallOf name n) → (f : Function)
      → function_at functions name ≡ Some f → IsFrom f.body
  body_from e all name n occurs f found x there =
      let call = (called_in functions name f found e).1 (n, occurs) in
      InBody call.0 f (all (Call call.0) call.2) (ap (function_at functions) call.1 ∙ found) there

  beyond_from : (e : Expr) (name : Text) → IsFrom e → Reaches functions e name → (f : Function)
      → function_at functions name ≡ Some f → IsFrom f.body
  beyond_from e name all (Here n occurs) f found x there = body_from e all name n occurs f found x there
  beyond_from e name all (Later further n occurs g known later) f found x there =
      beyond_from g.body name (body_from e all further n occurs g known) later f found x there

  -- if what occurs in an expression is among them, what it reaches is reached from them
  pub reached_all : (e : Expr) → ((x : PlainMember) → OccursAt functions e x → IsIn starts x) → (x : PlainMember) → IsReached functions e x
      → IsReachedFrom functions starts x
  reached_all e all x (inl occurs) = Starts (all x occurs)
  reached_all e all x (inr beyond) =
      beyond_from e beyond.name (λ y there. Starts (all y there)) beyond.reached beyond.function beyond.found x beyond.occurs

-- ---- the members of one expression, and those of the values of assignments

pub reached_by : (functions : List Function) (starts : List PlainMember) (e : Expr) → ((x : PlainMember) → IsIn starts x ↔ OccursAt functions e x)
    → (x : PlainMember) →
    IsReachedFrom functions starts x ↔ IsReached functions e x
reached_by functions starts e begins x = (
  (λ r. reached_only functions starts (IsReached functions e) (closed functions e) (λ y h. inl ((begins y).0 h)) x r),
  (λ r. reached_all functions starts e (λ y there. (begins y).1 there) x r),
)

-- it occurs in the value of a referenced assignment
pub record OccursInValue (functions : List Function) (assignments : List Assignment) (is_referenced : ℕ → Bool) (x : PlainMember) : Type 0 where
  pub assignment : Assignment
  pub among : IsIn assignments assignment
  pub referenced : is_referenced assignment.number ≡ true
  pub occurs : OccursAt functions assignment.value x

module _ (functions : List Function) (is_referenced : ℕ → Bool) (x : PlainMember) where
  -- what is added for one assignment
  one_added : (ms : List PlainMember) (a : Assignment) → IsIn (members_of_value functions is_referenced ms a) x
      ↔ (IsIn ms x ⊎ ((is_referenced a.number ≡ true) × OccursAt functions a.value x))
  one_added ms a = by (is_referenced a.number) refl
    where
      by : (b : Bool) → is_referenced a.number ≡ b → IsIn (if b then members functions ms a.value else ms) x
          ↔ (IsIn ms x ⊎ ((is_referenced a.number ≡ true) × OccursAt functions a.value x))
      by true is =
          let h = added functions ms a.value x in (
            (λ k. ⊎_elim (λ there. inl there) (λ o. inr (is, o)) (h.0 k)),
            (λ s. ⊎_elim (λ there. h.1 (inl there)) (λ o. h.1 (inr o.1)) s),
          )
      by false is = (
        (λ k. inl k),
        (λ s. ⊎_elim (λ there. there) (λ o. absurd (let bad : false ≡ true = sym is ∙ o.0 in cc)) s),
      )

  -- the first of some assignments, or a later one
  in_one : (a : Assignment) (rest : List Assignment) → (is_referenced a.number ≡ true) × OccursAt functions a.value x
      → OccursInValue functions (a ∷ rest) is_referenced x
  in_one a rest h = record { assignment = a; among = inl refl; referenced = h.0; occurs = h.1 }

  in_rest : (a : Assignment) (rest : List Assignment) → OccursInValue functions rest is_referenced x → OccursInValue functions (a ∷ rest) is_referenced x
  in_rest a rest o = record { assignment = o.assignment; among = inr o.among; referenced = o.referenced; occurs = o.occurs }

  first_or_rest : (a : Assignment) (rest : List Assignment) → OccursInValue functions (a ∷ rest) is_referenced x
      → ((is_referenced a.number ≡ true) × OccursAt functions a.value x) ⊎ OccursInValue functions rest is_referenced x
  first_or_rest a rest o = ⊎_elim
      (λ same. inl (subst (λ (b : Assignment). (is_referenced b.number ≡ true) × OccursAt functions b.value x) (sym same) (o.referenced, o.occurs)))
      (λ later. inr (record { assignment = o.assignment; among = later; referenced = o.referenced; occurs = o.occurs })) o.among

  values_added : (ms : List PlainMember) (assignments : List Assignment) → IsIn (members_of_values functions is_referenced ms assignments) x
      ↔ (IsIn ms x ⊎ OccursInValue functions assignments is_referenced x)
  values_added ms [] = ((λ h. inl h), (λ s. ⊎_elim (λ h. h) (λ o. absurd o.among) s))
  values_added ms (a ∷ rest) =
      let here = one_added ms a in
      let later = values_added (members_of_value functions is_referenced ms a) rest in (
        (λ h. ⊎_elim (λ k. ⊎_elim (λ there. inl there) (λ o. inr (in_one a rest o)) (here.0 k)) (λ o. inr (in_rest a rest o)) (later.0 h)),
        (λ s. ⊎_elim (λ there. later.1 (inl (here.1 (inl there))))
            (λ o. ⊎_elim (λ one. later.1 (inl (here.1 (inr one)))) (λ k. later.1 (inr k)) (first_or_rest a rest o)) s),
      )

  -- the list of some assignments
  pub values_listed : (assignments : List Assignment) → IsIn (members_of_values functions is_referenced [] assignments) x
      ↔ OccursInValue functions assignments is_referenced x
  values_listed assignments =
      let h = values_added [] assignments in ((λ k. ⊎_elim (λ bad. absurd bad) (λ o. o) (h.0 k)), (λ o. h.1 (inr o)))

pub reached_in_run : (functions : List Function) (starts : List PlainMember) (assignments : List Assignment) (referenced : ℕ → Bool)
    → ((x : PlainMember) → IsIn starts x ↔ OccursInValue functions assignments referenced x) → (x : PlainMember) →
    IsReachedFrom functions starts x ↔ IsReachedInRun functions assignments referenced x
reached_in_run functions starts assignments referenced begins x = (
  (λ r. reached_only functions starts (IsReachedInRun functions assignments referenced) (closed_in_run functions assignments referenced)
      (λ y h. let o = (begins y).0 h in record { assignment = o.assignment; among = o.among; referenced = o.referenced; reached = inl o.occurs }) x r),
  (λ r. reached_all functions starts r.assignment.value
      (λ y there. (begins y).1 (record { assignment = r.assignment; among = r.among; referenced = r.referenced; occurs = there })) x r.reached),
)
