-- What a search decides.
use Rattle.std.proofs.Common.{◌≡◌, ◌↔◌, ℕ, Bool, true, false, List, [], map, Option, Some, None, is_some, not, option_map, refl, ap, sym, ◌∙◌, IsTrue}
use Rattle.just_resolution.specs.Prelude.{AllKnown, AreAssignments, AreDistinct, AreInOrder, Assignments, BoundParameter, Expr, Finds, FindsBeyond, FindsBound}
use Rattle.just_resolution.specs.Prelude.{FindsUnknown, Frames, Function, HasFault, HasValue, IsFaulty, IsIn, IsKnown, IsKnownAt, IsSound, Mention, ModuleFault}
use Rattle.just_resolution.specs.Prelude.{Occurs, ReadsWithin, Token, all_occurrences, name_places, number_places, occurrences_in, value_in}
use Rattle.just_resolution.proofs.Faults.{all_distinct, apart, names_if, unbound_if, unreadable_apart}
use Rattle.just_resolution.proofs.Finding.{finds_none, some_seen}
use Rattle.just_resolution.proofs.Occurrences.{fault_unknown, known_all, known_in}

-- ---- answers

-- something is found, so the property that finding nothing decides does not hold
pub refused : {P R : Type 0} (some : Bool) → true ≡ some → (some ≡ false) ↔ P → (R → P) → (false ≡ true) ↔ R
refused some is decides implies = (
  (λ h. absurd (cc)),
  (λ r. absurd (let none : some ≡ false = decides.1 (implies r) in let e : true ≡ false = is ∙ none in cc)),
)

-- the answer is that nothing is found
pub none_answers : {P : Type 0} (some answer : Bool) → some ≡ not answer → (some ≡ false) ↔ P → (answer ≡ true) ↔ P
none_answers some answer is decides = ((λ h. decides.0 (is ∙ ap not h)), (λ p. opposite answer (sym is ∙ decides.1 p)))
  where
    opposite : (b : Bool) → not b ≡ false → b ≡ true
    opposite true h = refl
    opposite false h = absurd (cc)

pub none_if : (some answer : Bool) → some ≡ not answer → answer ≡ true → some ≡ false
none_if some answer is h = is ∙ ap not h

through : {P Q R : Type 0} → P ↔ Q → Q ↔ R → P ↔ R
through p q = ((λ x. q.0 (p.0 x)), (λ z. p.1 (q.1 z)))

-- the view of a result is present if the result is
as_seen : {A F : Type 0} (seen : A → F) (o : Option A) → (is_some o ≡ false) ↔ (is_some (option_map seen o) ≡ false)
as_seen seen o = ((λ h. some_seen seen o ∙ h), (λ h. sym (some_seen seen o) ∙ h))

-- ---- what finding nothing decides

module _ {A : Type 0} (seen : A → ModuleFault) (o : Option A) where
  pub distinct_decided : (functions : List Function) (assignments : Assignments) (outer : Frames) (ps : List (Token × ℕ)) →
      Finds (IsSound functions assignments outer) (IsFaulty functions assignments outer) (number_places [] ps) (option_map seen o) → (is_some o ≡ false)
      ↔ AreDistinct (map (λ p. p.1) ps)
  distinct_decided functions assignments outer ps found =
      through (as_seen seen o) (through
      (finds_none (IsSound functions assignments outer) (IsFaulty functions assignments outer) (apart functions assignments outer) (number_places [] ps)
      (option_map seen o) found)
      (all_distinct functions assignments outer ps))

  pub bound_decided : (outer : Frames) (ps : List (Token × ℕ)) → FindsBound outer ps (option_map seen o) → (is_some o ≡ false)
      ↔ ((n : ℕ) → IsIn (map (λ p. p.1) ps) n → HasValue (value_in outer) n → ⊥)
  bound_decided outer ps found =
      through (as_seen seen o) (through
      (finds_none (λ p. HasValue (value_in outer) p.1 → ⊥) (λ p f. (BoundParameter p.0 ≡ f) × HasValue (value_in outer) p.1) (λ p f bad fine. fine bad.1) ps
      (option_map seen o) found)
      (unbound_if outer ps))

  pub known_decided : (functions : List Function) (e : Expr) → FindsUnknown functions (occurrences_in e) (option_map seen o) → (is_some o ≡ false)
      ↔ ((x : Mention) → Occurs e x → IsKnown functions x)
  known_decided functions e found =
      through (as_seen seen o) (through
      (finds_none (IsKnownAt functions) (HasFault functions)
      (fault_unknown functions) (occurrences_in e) (option_map seen o) found)
      (known_in functions e))

  pub all_known_decided : (functions : List Function) (es : List Expr) → FindsUnknown functions (all_occurrences es) (option_map seen o) → (is_some o ≡ false)
      ↔ AllKnown functions es
  all_known_decided functions es found =
      through (as_seen seen o) (through
      (finds_none (IsKnownAt functions) (HasFault functions)
      (fault_unknown functions) (all_occurrences es) (option_map seen o) found)
      (known_all functions es))

  pub order_decided : (functions : List Function) (assignments : Assignments) (outer : Frames) (order : List Token) →
      Finds (IsSound functions assignments outer) (IsFaulty functions assignments outer) (name_places assignments [] order) (option_map seen o)
      → (is_some o ≡ false) ↔ (AreAssignments assignments order × AreInOrder functions assignments outer [] order)
  order_decided functions assignments outer order found =
      through (as_seen seen o) (through
      (finds_none (IsSound functions assignments outer) (IsFaulty functions assignments outer) (apart functions assignments outer)
      (name_places assignments [] order) (option_map seen o) found)
      (names_if functions assignments outer [] order))

pub beyond_decided : {A : Type 0} (seen : A → Token) (o : Option A) (functions : List Function) (e : Expr) (here readable : ℕ → Bool)
    → FindsBeyond functions e here readable (option_map seen o) → (is_some o ≡ false) ↔ ReadsWithin functions e here readable
beyond_decided seen None functions e here readable found = ((λ h. found), (λ within. refl))
beyond_decided seen (Some x) functions e here readable found = (
  (λ h. absurd (let e : true ≡ false = h in cc)),
  (λ within. absurd (unreadable_apart functions (λ n. IsTrue (here n)) (λ n. IsTrue (readable n)) e (seen x) found within.0 within.1)),
)
