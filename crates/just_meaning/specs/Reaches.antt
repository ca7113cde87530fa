-- What an expression reaches: what occurs in it and in the bodies of the functions that it calls.
use Rattle.std.specs.Prelude.{◌≡◌, ◌⊎◌, ℕ, List, map, Option, Some}
use Rattle.just_syntax.specs.Plain.{Text, Token, Function, Expr}
use Rattle.just_syntax.specs.Occurrences.{CallOf, Mention, SomeOccurs, VariableOf, mention_of}
use Rattle.just_syntax.specs.Lists.{IsIn}
use Rattle.just_syntax.specs.Keyed.{value_at}

-- the function with a name
abbrev pub function_at : List Function → Text → Option Function
function_at functions name = value_at (λ f. f.name.lexeme) name functions

-- this occurs in an expression
abbrev pub Occurs : Expr → Mention → Type 0
Occurs e x = SomeOccurs (λ o. mention_of o ≡ x) e

-- the number is that of one of these parameters
abbrev pub IsAmong : List (Token × ℕ) → ℕ → Type 0
IsAmong parameters n = IsIn (map (λ p. p.1) parameters) n

-- the functions that are called, and those that their bodies call
pub data Reaches (functions : List Function) : Expr → Text → Type 0 where
  Here : {e : Expr} {name : Text} → (n : ℕ) → Occurs e (CallOf name n) → Reaches functions e name
  Later : {e : Expr} {further : Text} → (name : Text) (n : ℕ) → Occurs e (CallOf name n) → (f : Function)
      → function_at functions name ≡ Some f → Reaches functions f.body further → Reaches functions e further

-- the number is read in the body of a reached function and is not its own parameter's
pub record ReadsBeyond (functions : List Function) (e : Expr) (n : ℕ) : Type 0 where
  pub name : Text
  pub function : Function
  pub reached : Reaches functions e name
  pub found : function_at functions name ≡ Some function
  pub occurs : Occurs function.body (VariableOf (Some n))
  pub beyond : IsAmong function.parameters n → ⊥

-- what an expression reads, by itself and through functions
abbrev pub Reads : List Function → Expr → ℕ → Type 0
Reads functions e n = Occurs e (VariableOf (Some n)) ⊎ ReadsBeyond functions e n
