-- What an expression, or the assignments of a module, reach.
use Rattle.std.specs.Prelude.{◌≡◌, ◌⊎◌, ℕ, Bool, true, List, Some}
use Rattle.just_syntax.specs.Plain.{Assignment, Function, Expr, Text, Token}
use Rattle.just_syntax.specs.Lists.{IsIn}
use Rattle.just_syntax.specs.Occurrences.{SomeOccurs}
use Rattle.just_meaning.specs.Reaches.{Reaches, function_at}
use Rattle.just_reach.specs.Member.{PlainMember, Call, member_of}

-- what occurs in an expression, as members
abbrev pub OccursAt : List Function → Expr → PlainMember → Type 0
OccursAt functions e x = SomeOccurs (λ o. member_of functions o ≡ x) e

-- it occurs in the body of a function of the file that the expression reaches
pub record OccursBeyond (functions : List Function) (e : Expr) (x : PlainMember) : Type 0 where
  pub name : Text
  pub function : Function
  pub reached : Reaches functions e name
  pub found : function_at functions name ≡ Some function
  pub occurs : OccursAt functions function.body x

-- what an expression reaches, by itself and through functions
abbrev pub IsReached : List Function → Expr → PlainMember → Type 0
IsReached functions e x = OccursAt functions e x ⊎ OccursBeyond functions e x

-- what one of these expressions reaches
abbrev pub IsReachedByOne : List Function → List Expr → PlainMember → Type 0
IsReachedByOne functions es x = (e : Expr) × IsIn es e × IsReached functions e x

-- what the value of a referenced assignment reaches
pub record IsReachedInRun (functions : List Function) (assignments : List Assignment) (is_referenced : ℕ → Bool)
    (x : PlainMember) : Type 0 where
  pub assignment : Assignment
  pub among : IsIn assignments assignment
  pub referenced : is_referenced assignment.number ≡ true
  pub reached : IsReached functions assignment.value x

-- some members, and what occurs in the bodies that they call, in those that these call, and so on
pub data IsReachedFrom (functions : List Function) (starts : List PlainMember) : PlainMember → Type 0 where
  Starts : {x : PlainMember} → IsIn starts x → IsReachedFrom functions starts x
  InBody : {x : PlainMember} → (t : Token) (f : Function) → IsReachedFrom functions starts (Call t)
      → function_at functions t.lexeme ≡ Some f → OccursAt functions f.body x → IsReachedFrom functions starts x
