-- How far a rule passes.
use Rattle.std.proofs.Common.{◌≡◌, ℕ, zero, suc, false, ◌+◌, ◌-◌, cond, eqb, [], ◌∷◌, length, drop, refl, arith, min}
use Rattle.just_syntax.specs.Plain.{Text}
use Rattle.just_lexer.specs.Span.{passed, span}
use Rattle.just_lexer.specs.declared.span.Rule.{Rule}

-- bytes that are passed without a look
pub skips : (rule : Rule) (t : Text) (k n : ℕ) → n ≡ min k (length t) → span rule k t ≡ n + span rule 0 (drop n t)
skips rule [] k zero e = refl
skips rule [] k (suc n) e = absurd (omega arith)
skips rule (b ∷ t) zero zero e = omega arith
skips rule (b ∷ t) zero (suc n) e = absurd (omega arith)
skips rule (b ∷ t) (suc k) zero e = absurd (omega arith)
skips rule (b ∷ t) (suc k) (suc n) e = omega (arith, skips rule t k n (omega arith))

pub suc_is_no_zero : (k : ℕ) → eqb (suc k) 0 ≡ false
suc_is_no_zero k = grind arith

from_byte : (rule : Rule) (b : ℕ) (t : Text) (p n : ℕ) → suc n ≡ min p (suc (length t))
    → cond (eqb p 0) 0 (suc (span rule (p - 1) t)) ≡ suc n + span rule 0 (drop n t)
from_byte rule b t zero n e = absurd (omega arith)
from_byte rule b t (suc k) n e =
    let less : suc k - 1 ≡ k = omega arith in
    rw (less, suc_is_no_zero k) (omega (arith, skips rule t k n (omega arith)))

-- the bytes that a rule passes from here
pub passes : (rule : Rule) (t : Text) (n : ℕ) → n ≡ min (passed rule t) (length t) → (n ≡ 0 → ⊥) → span rule 0 t ≡ n + span rule 0 (drop n t)
passes rule [] n e more = absurd (more (omega arith))
passes rule (b ∷ t) zero e more = absurd (more refl)
passes rule (b ∷ t) (suc n) e more = from_byte rule b t (passed rule (b ∷ t)) n e

-- a rule that passes nothing here
pub stops : (rule : Rule) (t : Text) → passed rule t ≡ 0 → span rule 0 t ≡ 0
stops rule [] e = refl
stops rule (b ∷ t) e = rw e refl
