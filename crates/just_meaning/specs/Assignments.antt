-- The assignments of a module, and which of them are evaluated.
use Rattle.std.specs.Prelude.{ℕ, Bool, List, Option}
use Rattle.just_syntax.specs.Plain.{Text, Token, Assignment}
use Rattle.just_syntax.specs.Keyed.{value_at}

-- the assignments, their evaluation order, and which are referenced; the others are skipped
pub record Assignments : Type 0 where
  pub all : List Assignment
  pub order : List Token
  pub referenced : ℕ → Bool

-- the assignment with a name
abbrev pub assignment_at : Assignments → Text → Option Assignment
assignment_at assignments name = value_at (λ a. a.name.lexeme) name assignments.all
