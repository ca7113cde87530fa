-- Which variables a run has to evaluate for some names.
use Rattle.std.specs.Prelude.{◌≡◌, ℕ, List, map, Option, Some, None}
use Rattle.std.specs.Borrow.{Bor}
use Rattle.std.specs.HashSet.{HashSet}
use Rattle.just_syntax.specs.Lists.{IsIn}
use Rattle.just_syntax.specs.Plain.{Text, Assignment, Function}
use Rattle.just_syntax.specs.Variables.{number_named}
use Rattle.just_value.specs.Frames.{Frames, value_in}
use Rattle.just_host.specs.declared.justfile.Justfile.{Justfile}
use Rattle.just_meaning.specs.Module.{with_overrides}
use Rattle.just_meaning.specs.Reaches.{Reads}
use Rattle.just_meaning.specs.Resolved.{IsResolved}
use Rattle.just_meaning.specs.View.{assignments_view, functions_view}

-- an assignment has the number, and no outer frame binds it
abbrev pub IsFollowed : List Assignment → Frames → ℕ → Type 0
IsFollowed assignments outer n = IsIn (map (λ a. a.number) assignments) n × (value_in outer n ≡ None)

-- The numbers of the variables with these names and, for each assignment whose number is needed and not overridden,
-- the followed numbers that it reads, by itself or through functions.
pub data IsNeeded (functions : List Function) (assignments : List Assignment) (outer : Frames)
    (overrides : ℕ → Option Text) (names : List Text) : ℕ → Type 0 where
  Asked : {n : ℕ} → (name : Text) → IsIn names name → number_named assignments name ≡ Some n
      → IsNeeded functions assignments outer overrides names n
  ReadBy : {n : ℕ} → (a : Assignment) → IsIn assignments a → overrides a.number ≡ None
      → IsNeeded functions assignments outer overrides names a.number → Reads functions a.value n
      → IsFollowed assignments outer n → IsNeeded functions assignments outer overrides names n

-- a run of a module that is resolved with all its variables is resolved with these alone
abbrev pub StaysResolved : {S : Type 0} → Justfile → Frames → (ℕ → Option Text) → HashSet ℕ S → Type 0
StaysResolved {S} justfile outer overrides set =
    IsResolved (functions_view justfile) (assignments_view {S = S} justfile None) outer
    → (references : Bor (HashSet ℕ S)) → references.now ≡ set
    → IsResolved (functions_view justfile)
    (with_overrides overrides (assignments_view justfile (Some references))) outer
