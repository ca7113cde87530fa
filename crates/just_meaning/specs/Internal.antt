-- Refusals that only an unresolved module meets, and refusals that only constant evaluation meets.
use Rattle.just_value.specs.Refusal.{Refusal, Const, Internal}
use Rattle.just_value.specs.Outcome.{Outcome, Gave, Refused, Stopped}

abbrev pub IsInternal : Refusal → Type 0
IsInternal (Internal message t) = Unit {0}
IsInternal _ = ⊥

-- the refusal, if there is one, has this property
abbrev pub IfRefused : {A : Type 0} → (Refusal → Type 0) → Outcome A → Type 0
IfRefused P (Gave a) = Unit {0}
IfRefused P (Refused r) = P r
IfRefused P Stopped = Unit {0}

-- it is not a refusal that only an unresolved module meets
abbrev pub IsNotInternal : {A : Type 0} → Outcome A → Type 0
IsNotInternal o = IfRefused (λ r. IsInternal r → ⊥) o

-- It is not a refusal of the const rules. A const stage ends with it, and continues after one of the const rules.
abbrev pub IsFinal : Refusal → Type 0
IsFinal (Const c) = ⊥
IsFinal _ = Unit {0}
