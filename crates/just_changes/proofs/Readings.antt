-- Collecting what is read, one reading after another.
use Rattle.std.proofs.Common.{◌≡◌, ◌↔◌, ◌⊎◌, inl, inr, ⊎_elim, ℕ, Bool, true, false, List, [], ◌∷◌, Option, Some, None, refl, ap, sym, ◌∙◌, subst}
use Rattle.just_changes.specs.Prelude.{AmongOccurrences, CallOf, Expr, IsIn, IsNodeAt, IsOneVariable, Mentions, Occurrence, OfFunction, OfVariable, PlainNode}
use Rattle.just_changes.specs.Prelude.{Text, mention_of, occurrences_in}
use Rattle.just_syntax.specs.Occurrences.{CallAt, CommandAt, CommandOf, VariableAt, VariableOf}
use Rattle.just_syntax.proofs.Occurring.{some_mentioned}

-- ---- what was collected and what remains

-- one more was collected, and fewer remain
pub one_more : {A B P L M D : Type 0} → B ↔ (P ⊎ A) → (M → P ⊎ L) → (P ⊎ L → M) → (A ⊎ M) ↔ D → (B ⊎ L) ↔ D
one_more added out back all = (
  (λ h. all.0 (⊎_elim (λ b. ⊎_elim (λ p. inr (back (inl p))) (λ a. inl a) (added.0 b)) (λ l. inr (back (inr l))) h)),
  (λ d. ⊎_elim (λ a. inl (added.1 (inr a))) (λ m. ⊎_elim (λ p. inl (added.1 (inl p))) (λ l. inr l) (out m)) (all.1 d)),
)

-- the same with one reader
pub left_more : {A B R P L M D : Type 0} → B ↔ ((R × P) ⊎ A) → (M → P ⊎ L) → (P ⊎ L → M) → (A ⊎ (R × M)) ↔ D → (B ⊎ (R × L)) ↔ D
left_more added out back all =
    one_more added (λ h. ⊎_elim (λ p. inl (h.0, p)) (λ l. inr (h.0, l)) (out h.1)) (λ h. ⊎_elim (λ p. (p.0, back (inl p.1))) (λ l. (l.0, back (inr l.1))) h) all

-- none remains
pub at_last : {A L D : Type 0} → (L → ⊥) → (A ⊎ L) ↔ D → A ↔ D
at_last none all = ((λ a. all.0 (inl a)), (λ d. ⊎_elim (λ a. a) (λ l. absurd (none l)) (all.1 d)))

-- the same with an alternative
pub beside : {A B C : Type 0} → A ↔ B → (A ⊎ C) ↔ (B ⊎ C)
beside h = ((λ s. ⊎_elim (λ a. inl (h.0 a)) (λ c. inr c) s), (λ s. ⊎_elim (λ b. inl (h.1 b)) (λ c. inr c) s))

pub swapped : {A B : Type 0} → (A ⊎ B) ↔ (B ⊎ A)
swapped = ((λ h. ⊎_elim (λ a. inr a) (λ b. inl b) h), (λ h. ⊎_elim (λ b. inr b) (λ a. inl a) h))

-- nothing was collected
pub nothing_more : {A P : Type 0} → (P → ⊥) → A ↔ (P ⊎ A)
nothing_more none = ((λ a. inr a), (λ h. ⊎_elim (λ p. absurd (none p)) (λ a. a) h))

-- what was collected, in an equivalent form
pub same_more : {A B P Q : Type 0} → (P → Q) → (Q → P) → B ↔ (P ⊎ A) → B ↔ (Q ⊎ A)
same_more on back added = (
  (λ b. ⊎_elim (λ p. inl (on p)) (λ a. inr a) (added.0 b)),
  (λ h. added.1 (⊎_elim (λ q. inl (back q)) (λ a. inr a) h)),
)

-- ---- single variables

pub no_variable : (own : ℕ → Type 0) (number : Option ℕ) (x : PlainNode) → number ≡ None → IsOneVariable own number x → ⊥
no_variable own number (OfFunction t) none h = h
no_variable own number (OfVariable n) none h = let e : None ≡ Some n = sym none ∙ h.0 in cc

pub own_variable : (own : ℕ → Type 0) (number : Option ℕ) (k : ℕ) (x : PlainNode) → number ≡ Some k → own k → IsOneVariable own number x → ⊥
own_variable own number k (OfFunction t) is mine h = h
own_variable own number k (OfVariable n) is mine h = let e : Some k ≡ Some n = sym is ∙ h.0 in h.1 (subst own (let f : k ≡ n = cc in f) mine)

pub one_variable : (own : ℕ → Type 0) (number : Option ℕ) (k : ℕ) (x : PlainNode) → number ≡ Some k → (own k → ⊥) → OfVariable k ≡ x
    → IsOneVariable own number x
one_variable own number k (OfFunction t) is other same = absurd (cc)
one_variable own number k (OfVariable n) is other same = let e : k ≡ n = cc in (is ∙ ap Some e, λ h. other (subst own (sym e) h))

pub variable_one : (own : ℕ → Type 0) (number : Option ℕ) (k : ℕ) (x : PlainNode) → number ≡ Some k → IsOneVariable own number x → OfVariable k ≡ x
variable_one own number k (OfFunction t) is h = absurd h
variable_one own number k (OfVariable n) is h = let e : Some k ≡ Some n = sym is ∙ h.0 in let f : k ≡ n = cc in ap OfVariable f

-- ---- what is mentioned

-- a node that occurs at one of these occurrences
among : (own : ℕ → Type 0) (os : List Occurrence) (x : PlainNode) → AmongOccurrences own os x ↔ ((o : Occurrence) × IsIn os o × IsNodeAt own o x)
among own [] x = ((λ h. absurd h), (λ h. absurd h.1))
among own (o ∷ os) x =
    let rest = among own os x in (
      (λ h. ⊎_elim (λ here. (o, inl refl, here)) (λ k. let r = rest.0 k in (r.0, inr r.1, r.2)) h),
      (λ h. ⊎_elim (λ e. inl (subst (λ r. IsNodeAt own r x) (sym e) h.2)) (λ k. inr (rest.1 (h.0, k, h.2))) h.1),
    )

function_there : (own : ℕ → Type 0) (name : Text) (o : Occurrence) → IsNodeAt own o (OfFunction name) ↔ ((k : ℕ) × (mention_of o ≡ CallOf name k))
function_there own name (CommandAt t text) = ((λ h. absurd h), (λ h. absurd (let bad : CommandOf text ≡ CallOf name h.0 = h.1 in cc)))
function_there own name (CallAt t k) = (
  (λ e. (k, let same : t.lexeme ≡ name = cc in ap (λ (u : Text). CallOf u k) same)),
  (λ h. let is : CallOf t.lexeme k ≡ CallOf name h.0 = h.1 in let same : t.lexeme ≡ name = cc in ap OfFunction same),
)
function_there own name (VariableAt t number) = ((λ h. absurd h), (λ h. absurd (let bad : VariableOf number ≡ CallOf name h.0 = h.1 in cc)))

variable_there : (own : ℕ → Type 0) (n : ℕ) (o : Occurrence) → IsNodeAt own o (OfVariable n) ↔ ((own n → ⊥) × (mention_of o ≡ VariableOf (Some n)))
variable_there own n (CommandAt t text) = ((λ h. absurd h), (λ h. absurd (let bad : CommandOf text ≡ VariableOf (Some n) = h.1 in cc)))
variable_there own n (CallAt t k) = (
  (λ e. absurd (let bad : OfFunction t.lexeme ≡ OfVariable n = e in cc)),
  (λ h. absurd (let bad : CallOf t.lexeme k ≡ VariableOf (Some n) = h.1 in cc)),
)
variable_there own n (VariableAt t number) = (
  (λ h. (h.1, ap VariableOf h.0)),
  (λ h. (let is : VariableOf number ≡ VariableOf (Some n) = h.1 in let same : number ≡ Some n = cc in same, h.0)),
)

-- what an expression mentions is what occurs at its occurrences
pub occurrences_are : (own : ℕ → Type 0) (e : Expr) (x : PlainNode) → Mentions own e x ↔ AmongOccurrences own (occurrences_in e) x
occurrences_are own e (OfFunction name) =
    let here = among own (occurrences_in e) (OfFunction name) in
    let called = some_mentioned (λ o. IsNodeAt own o (OfFunction name)) (λ k. CallOf name k) (function_there own name) e in
    ((λ h. here.1 (called.1 h)), (λ h. called.0 (here.0 h)))
occurrences_are own e (OfVariable n) =
    let here = among own (occurrences_in e) (OfVariable n) in
    let read = some_mentioned (λ o. IsNodeAt own o (OfVariable n)) (λ foreign. VariableOf (Some n)) (variable_there own n) e in
    ((λ h. here.1 (read.1 (h.1, h.0))), (λ h. let m = read.0 (here.0 h) in (m.1, m.0)))

-- with the same own numbers, the same is mentioned
pub mentions_alike : (own other : ℕ → Type 0) (e : Expr) → ((n : ℕ) → other n → own n) → (x : PlainNode) → Mentions own e x → Mentions other e x
mentions_alike own other e same (OfFunction t) h = h
mentions_alike own other e same (OfVariable n) h = (h.0, λ k. h.1 (same n k))

pub both_ways : (b : Bool) → b ≡ false → b ≡ true → ⊥
both_ways b off on = let e : false ≡ true = sym off ∙ on in cc
