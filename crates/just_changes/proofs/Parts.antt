-- What the tests of parts decide about two expressions.
use Rattle.std.proofs.Common.{◌≡◌, ◌↔◌, Bool, true, false, sym, ◌∙◌}
use Rattle.just_changes.specs.Prelude.{Call}
use Rattle.just_syntax.specs.Plain.{Token, Literal, Exprs, Pieces, FormatString, ListOf}

-- the first test passed, and the second decides
then_other : {A B C : Type 0} (a b : Bool) → a ≡ true → (a ≡ true) ↔ A → (b ≡ true) ↔ B → (C → B) → (A → B → C) → (b ≡ true) ↔ C
then_other a b on first second part whole = ((λ h. whole (first.0 on) (second.0 h)), (λ c. second.1 (part c)))

-- the first test failed
else_other : {A C : Type 0} (a : Bool) → a ≡ false → (a ≡ true) ↔ A → (C → A) → (false ≡ true) ↔ C
else_other a off first part = ((λ h. absurd (cc)), (λ c. absurd (let e : a ≡ true = first.1 (part c) in cc)))

module _ (t u : Token) (es fs : Exprs) (a b : Bool) (first : (a ≡ true) ↔ (es ≡ fs)) where
  pub then_call : a ≡ true → (b ≡ true) ↔ (t ≡ u) → (b ≡ true) ↔ (Call t es ≡ Call u fs)
  then_call on second = then_other a b on first second (λ e. cc) (λ x y. cc)

  pub else_call : a ≡ false → (false ≡ true) ↔ (Call t es ≡ Call u fs)
  else_call off = else_other a off first (λ e. cc)

  pub then_list : a ≡ true → (b ≡ true) ↔ (t ≡ u) → (b ≡ true) ↔ (ListOf es t ≡ ListOf fs u)
  then_list on second = then_other a b on first second (λ e. cc) (λ x y. cc)

  pub else_list : a ≡ false → (false ≡ true) ↔ (ListOf es t ≡ ListOf fs u)
  else_list off = else_other a off first (λ e. cc)

module _ (t u : Literal) (es fs : Pieces) (a b : Bool) (first : (a ≡ true) ↔ (t ≡ u)) where
  pub then_format_string : a ≡ true → (b ≡ true) ↔ (es ≡ fs) → (b ≡ true) ↔ (FormatString t es ≡ FormatString u fs)
  then_format_string on second = then_other a b on first second (λ e. cc) (λ x y. cc)

-- ---- pairs, and equivalent comparisons

pub then_pair : {P Q : Type 0} (a b : Bool) → a ≡ true → (a ≡ true) ↔ P → (b ≡ true) ↔ Q → (b ≡ true) ↔ (P × Q)
then_pair a b on first second = ((λ h. (first.0 on, second.0 h)), (λ p. second.1 p.1))

pub else_pair : {P Q : Type 0} (a : Bool) → a ≡ false → (a ≡ true) ↔ P → (a ≡ true) ↔ (P × Q)
else_pair a off first = ((λ h. absurd (cc)), (λ p. first.1 p.0))

pub same_ends : {X A : Type 0} (x y z t : X) → z ≡ x → t ≡ y → A ↔ (x ≡ y) → A ↔ (z ≡ t)
same_ends x y z t first second decides = ((λ a. first ∙ decides.0 a ∙ sym second), (λ e. decides.1 (sym first ∙ e ∙ second)))
