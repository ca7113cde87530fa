-- The first variable that may not be read, in an expression or in the bodies that it reaches.
use Rattle.std.specs.Prelude.{◌≡◌, ◌⊎◌, ℕ, List, Some, None}
use Rattle.std.specs.List.{AllByRecursion}
use Rattle.just_syntax.specs.Plain.{Text, Token, Expr, Function}
use Rattle.just_syntax.specs.Occurrences.{CallAt, CommandAt, Occurrence, VariableAt, occurrences_in, occurs_at}
use Rattle.just_meaning.specs.Reaches.{IsAmong, Reaches, function_at}
use Rattle.just_resolution.specs.First.{IsFirstFaulty}

-- a variable's number is readable, if it has one
abbrev pub MayBeRead : (ℕ → Type 0) → Occurrence → Type 0
MayBeRead readable (CommandAt t text) = Unit {0}
MayBeRead readable (CallAt t n) = Unit {0}
MayBeRead readable (VariableAt t None) = Unit {0}
MayBeRead readable (VariableAt t (Some n)) = readable n

-- the variable that occurs here may not be read
abbrev pub IsUnreadableAt : (ℕ → Type 0) → Occurrence → Token → Type 0
IsUnreadableAt readable o variable = (occurs_at o ≡ variable) × (MayBeRead readable o → ⊥)

-- each variable in an expression may be read
abbrev pub AllMayBeRead : (ℕ → Type 0) → Expr → Type 0
AllMayBeRead readable e = AllByRecursion (MayBeRead readable) (occurrences_in e)

-- the first variable in an expression that may not be read
abbrev pub IsFirstUnreadable : (ℕ → Type 0) → Expr → Token → Type 0
IsFirstUnreadable readable e variable =
    IsFirstFaulty (MayBeRead readable) (λ o. IsUnreadableAt readable o variable) (occurrences_in e)

-- the first variable in the body of a reached function that is neither its parameter nor readable
pub record IsUnreadableBeyond (functions : List Function) (readable : ℕ → Type 0) (e : Expr)
    (variable : Token) : Type 0 where
  pub name : Text
  pub function : Function
  pub reached : Reaches functions e name
  pub found : function_at functions name ≡ Some function
  pub first : IsFirstUnreadable (λ n. IsAmong function.parameters n ⊎ readable n) function.body variable

-- An expression reads a variable that it may not: the first one in its own text or, if it has none, the first in a body
-- that it reaches. By itself it may read other numbers than bodies may.
abbrev pub IsUnreadable : List Function → (ℕ → Type 0) → (ℕ → Type 0) → Expr → Token → Type 0
IsUnreadable functions here readable e variable =
    IsFirstUnreadable here e variable ⊎ (AllMayBeRead here e × IsUnreadableBeyond functions readable e variable)
