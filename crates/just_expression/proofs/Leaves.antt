-- The runs of variables, with a context and without.
use Rattle.std.proofs.Common.{◌≡◌, ℕ, Bool, true, false, Option, Some, None, refl, ap}
use Rattle.just_expression.specs.Prelude.{Refusal, Refused, RefusesWith, Token, UnlessStopped, open_in, without_value}
use Rattle.just_value.specs.ConstRefusal.{Variable}
use Rattle.just_value.specs.Refusal.{Const}
use Rattle.just_host.specs.Interaction.{Note, Read}
use Rattle.just_host.specs.declared.execution_context.ExecutionContext.{ExecutionContext}
use Rattle.just_expression.specs.View.{rules_in}

-- with a context nothing is refused
pub passes : (context : Option ExecutionContext) (is_open : ℕ → Bool) (c : ExecutionContext) (x : Note) → context ≡ Some c → rules_in context is_open x ≡ None
passes context is_open c x is = ap (λ o. rules_in o is_open x) is

-- a variable that is not open may be read
pub reads : (context : Option ExecutionContext) (is_open : ℕ → Bool) (t : Token) (n : ℕ) → open_in context is_open n ≡ false
    → rules_in context is_open (Read t n) ≡ None
reads (Some c) is_open t n shut = refl
reads None is_open t n shut = rw shut refl

-- an open variable may not
pub shuts : (context : Option ExecutionContext) (is_open : ℕ → Bool) (t : Token) (n : ℕ) → open_in context is_open n ≡ true
    → rules_in context is_open (Read t n) ≡ Some (Const (Variable t))
shuts (Some c) is_open t n h = absurd (cc)
shuts None is_open t n h = rw h refl

-- a refusal, or running out of memory, is the outcome
pub said : (A : Type 0) (r : Option Refusal) (s : Refusal) → RefusesWith r s → UnlessStopped {A = A} (without_value r) (Refused s)
said A None s h = tt
said A (Some r) s h = ap Refused h

-- an option is not both `Some` and `None`
pub not_both : {A B : Type 0} (a : A) (o : Option A) → o ≡ Some a → o ≡ None → B
not_both a None e f = absurd (cc)
not_both a (Some b) e f = absurd (cc)
