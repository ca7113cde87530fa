-- The variables that are taken from an order.
use Rattle.std.specs.Prelude.{ℕ, Bool, false, ◌||◌, List, [], ◌∷◌, nat_eq, Option, Some, None, if◌then◌else◌}
use Rattle.std.specs.Borrow.{Bor}
use Rattle.just_syntax.specs.Plain.{Token, Assignment}
use Rattle.just_syntax.specs.View.{name_view}
use Rattle.just_syntax.specs.declared.name.Name.{Name}
use Rattle.just_meaning.specs.Assignments.{Assignments, assignment_at}

-- a name and its number, as plain data
abbrev pub taken_view : Bor Name × ℕ → Token × ℕ
taken_view variable = (name_view variable.0.now, variable.1)

-- the number of an assignment, if it is referenced
abbrev pub number_if_referenced : (ℕ → Bool) → Option Assignment → Option ℕ
number_if_referenced referenced None = None
number_if_referenced referenced (Some a) = if referenced a.number then Some a.number else None

-- the number of a name's assignment, if it is referenced
abbrev pub referenced_number : Assignments → Token → Option ℕ
referenced_number m t = number_if_referenced m.referenced (assignment_at m t.lexeme)

-- a name before the rest, if it has a number
abbrev pub with_numbered_name : Token → Option ℕ → List (Token × ℕ) → List (Token × ℕ)
with_numbered_name t None rest = rest
with_numbered_name t (Some n) rest = (t, n) ∷ rest

-- the names whose assignments are referenced, with their numbers
abbrev pub referenced_names : Assignments → List Token → List (Token × ℕ)
referenced_names m [] = []
referenced_names m (t ∷ ts) = with_numbered_name t (referenced_number m t) (referenced_names m ts)

-- the first occurrence of each number that did not occur before
abbrev pub first_places : (ℕ → Bool) → List (Token × ℕ) → List (Token × ℕ)
first_places came [] = []
first_places came (x ∷ xs) =
    if came x.1 then first_places came xs else x ∷ first_places (λ n. nat_eq n x.1 || came n) xs

-- the names of an order whose assignments are referenced, each at its first occurrence, with their numbers
abbrev pub taken_in : Assignments → List Token → List (Token × ℕ)
taken_in m order = first_places (λ n. false) (referenced_names m order)
