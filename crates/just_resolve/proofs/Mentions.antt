-- Faults of variables and calls.
use Rattle.std.proofs.Common.{◌≡◌, ℕ, Bool, true, false, List, Some, None, if◌then◌else◌, subst}
use Rattle.just_meaning.specs.Callee.{accepts, callee}
use Rattle.just_syntax.specs.Occurrences.{CallAt, CommandAt, Occurrence, VariableAt}
use Rattle.just_resolution.specs.Fault.{ArgumentCountMismatch, HasFault, ModuleFault, UndefinedFunction, UndefinedVariable, is_unknown}
use Rattle.just_resolve.specs.Prelude.{Function, IsOfMention, Token}

call_is : (a u : Bool) (t : Token) (n : ℕ) (f : ModuleFault)
    → (if a then None else Some (if u then UndefinedFunction t else ArgumentCountMismatch t n)) ≡ Some f → IsOfMention f
call_is true u t n f is = absurd (let bad : None ≡ Some f = is in cc)
call_is false true t n f is = subst IsOfMention (let same : UndefinedFunction t ≡ f = cc in same) tt
call_is false false t n f is = subst IsOfMention (let same : ArgumentCountMismatch t n ≡ f = cc in same) tt

pub mention_is : (functions : List Function) (o : Occurrence) (f : ModuleFault) → HasFault functions o f → IsOfMention f
mention_is functions (CommandAt t text) f is = absurd (let bad : None ≡ Some f = is in cc)
mention_is functions (CallAt t n) f is = call_is (accepts (callee functions t.lexeme) n) (is_unknown (callee functions t.lexeme)) t n f is
mention_is functions (VariableAt t None) f is = subst IsOfMention (let same : UndefinedVariable t ≡ f = cc in same) tt
mention_is functions (VariableAt t (Some n)) f is = absurd (let bad : None ≡ Some f = is in cc)
