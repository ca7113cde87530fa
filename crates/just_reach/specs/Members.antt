-- The members that occur in expressions, as lists.
use Rattle.std.specs.Prelude.{◌≡◌, ℕ, ◌+◌, ◌≤◌, Bool, List, [], ◌∷◌, ◌++◌, length, Option, Some, None, if◌then◌else◌}
use Rattle.std.specs.List.{flat_map}
use Rattle.just_syntax.specs.Plain.{Text, Assignment, Function, Expr}
use Rattle.just_syntax.specs.Occurrences.{Occurrence, occurrences_in}
use Rattle.just_meaning.specs.Reaches.{function_at}
use Rattle.just_reach.specs.Member.{PlainMember, Call, member_of}

-- these members, and one for each occurrence
abbrev pub with_members : List Function → List PlainMember → List Occurrence → List PlainMember
with_members functions ms [] = ms
with_members functions ms (o ∷ os) = with_members functions (ms ++ member_of functions o ∷ []) os

-- these members, and then those in an expression, in the order of its text
abbrev pub members : List Function → List PlainMember → Expr → List PlainMember
members functions ms e = with_members functions ms (occurrences_in e)

-- the same for the body of a function, if there is one
abbrev pub members_of_body : List Function → List PlainMember → Option Function → List PlainMember
members_of_body functions ms None = ms
members_of_body functions ms (Some f) = members functions ms f.body

-- the members in an expression
abbrev pub members_in : List Function → Expr → List PlainMember
members_in functions e = members functions [] e

-- the members in the body of the function with a name, if there is one
abbrev pub body_members : List Function → Text → List PlainMember
body_members functions name = members_of_body functions [] (function_at functions name)

-- the members in the bodies of all functions, one body after another
abbrev pub all_body_members : List Function → List PlainMember
all_body_members functions = flat_map (λ f. body_members functions f.name.lexeme) functions

-- these members, and then those in the value of an assignment, if its number is referenced
abbrev pub members_of_value : List Function → (ℕ → Bool) → List PlainMember → Assignment → List PlainMember
members_of_value functions is_referenced ms a =
    if is_referenced a.number then members functions ms a.value else ms

-- the same for the values of several assignments
abbrev pub members_of_values : List Function → (ℕ → Bool) → List PlainMember → List Assignment → List PlainMember
members_of_values functions is_referenced ms [] = ms
members_of_values functions is_referenced ms (a ∷ rest) =
    members_of_values functions is_referenced (members_of_value functions is_referenced ms a) rest

-- the members in the values of assignments whose number is referenced
abbrev pub value_members : List Function → (ℕ → Bool) → List Assignment → List PlainMember
value_members functions is_referenced assignments = members_of_values functions is_referenced [] assignments

-- The list begins with these members.
pub record BeginsWith (starts all : List PlainMember) : Type 0 where
  pub rest : List PlainMember
  pub is : all ≡ starts ++ rest

-- Beyond these members it is no longer than the bodies of all functions: each is listed at most once.
abbrev pub HasBodiesOnce : List Function → List PlainMember → List PlainMember → Type 0
HasBodiesOnce functions starts all = length all ≤ length starts + length (all_body_members functions)

-- the name that a member calls, if it is a call of a function of the file
abbrev pub name_of_call : PlainMember → Option Text
name_of_call (Call t) = Some t.lexeme
name_of_call _ = None
