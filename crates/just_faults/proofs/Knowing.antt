-- Checking variables and calls, one after another.
use Rattle.std.proofs.Common.{◌≡◌, Bool, true, false, List, Option, Some, None, MatchOption, refl, sym, if◌then◌else◌}
use Rattle.just_meaning.proofs.Callees.{callable}
use Rattle.just_syntax.specs.Occurrences.{CallAt, CommandAt, VariableAt}
use Rattle.just_resolution.specs.Fault.{UndefinedVariable, miscalled}
use Rattle.just_faults.specs.Prelude.{Function, HasFault, IsKnownAt, ModuleFault, Occurrence, accepts, callee, occurrence_fault}
use Rattle.just_faults.proofs.Adding.{Continues}

-- what the faults at the remaining occurrences add is what those at all occurrences add
abbrev pub ContinuesUnknown : List Function → List Occurrence → List Occurrence → List ModuleFault → List ModuleFault → Type 0
ContinuesUnknown functions = Continues (IsKnownAt functions) (HasFault functions)

accepted : (b : Bool) (f : ModuleFault) → (if b then None else Some f) ≡ None → b ≡ true
accepted true f h = refl
accepted false f h = absurd (let e : Some f ≡ None = h in cc)

-- an occurrence without a fault is known
known_if : (functions : List Function) (o : Occurrence) → occurrence_fault functions o ≡ None → IsKnownAt functions o
known_if functions (CommandAt t text) h = tt
known_if functions (CallAt t n) h =
    let c = callee functions t.lexeme in
    (callable c n).0 (accepted (accepts c n) (miscalled c t n) h)
known_if functions (VariableAt t None) h = absurd (let e : Some (UndefinedVariable t) ≡ None = h in cc)
known_if functions (VariableAt t (Some n)) h = tt

-- the fault of an occurrence is what is found there
pub at_occurrence : (functions : List Function) (o : Occurrence) (r : Option ModuleFault) → r ≡ occurrence_fault functions o
    → MatchOption r (IsKnownAt functions o) (HasFault functions o)
at_occurrence functions o None is = known_if functions o (sym is)
at_occurrence functions o (Some f) is = sym is
