use Rattle.std.proofs.Common.{◌↔◌, ℕ, IsTrue, Some, take}
use Rattle.just_needs.specs.Prelude.{VariableOf, has, occurrences_view}
use Rattle.just_needs.proofs.Members.{IsMentioned}
use Rattle.just_needs.proofs.references.variables_at.Given as goal

-- the variables at the occurrences so far
abbrev pub invariant-loop-occurrence : goal.invariant-loop-occurrence
invariant-loop-occurrence l =
    (n : ℕ) → IsTrue (has l.variables n) ↔ IsMentioned (occurrences_view (take l.occurrence-index l.occurrences)) (VariableOf (Some n))
