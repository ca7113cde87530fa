-- What is known after some names of an order.
use Rattle.std.specs.Prelude.{◌≡◌, ℕ, Bool, List, Some, IsTrue}
use Rattle.just_syntax.specs.Plain.{Text, Assignment, Function}
use Rattle.just_meaning.specs.Assignments.{Assignments, assignment_at}
use Rattle.just_resolution.specs.Admitted.{IsAdmitted, ReadsReadable}

-- admitted functions read only what is readable, and each passed name is that of a taken assignment that does too
pub record IsPassed (functions : List Function) (assignments : Assignments) (taken readable : ℕ → Bool)
    (passed admitted : Text → Bool) : Type 0 where
  pub closed : IsAdmitted functions readable admitted
  pub origin : (name : Text) → IsTrue (passed name) → (a : Assignment) × (assignment_at assignments name ≡ Some a)
      × IsTrue (taken a.number) × ReadsReadable functions readable a
