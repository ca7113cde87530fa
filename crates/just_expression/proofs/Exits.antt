-- The early return of a `?`.
use Rattle.std.proofs.Common.{◌≡◌, Result, Ok, Err, IsErrAnd, ap, sym, subst}
use Rattle.just_expression.specs.Prelude.{Behaves, Rules, Step, Tree, Value, ended, refusal, without_value}
use Rattle.just_value.specs.declared.error.Error.{Error}
use Rattle.just_host.specs.Interaction.{Verdicts}

-- its outcome
pub exit_is : {X A : Type 0} (f : X → A) (r : Result X Error) (e : Error) → IsErrAnd r (λ d. d ≡ e) → ended f r ≡ without_value (refusal e)
exit_is f (Ok x) e is = absurd is
exit_is f (Err d) e is = ap (λ (x : Error). without_value (refusal x)) is

pub runs_exit : {rules : Rules} {S : Type 0} {step : Step S} {says : Verdicts} {X A : Type 0} {old new : S} {t : Tree A} (f : X → A) (r : Result X Error)
    (e : Error) → IsErrAnd r (λ d. d ≡ e) → Behaves rules step says old t (without_value (refusal e)) new → Behaves rules step says old t (ended f r) new
runs_exit {rules = rules} {step = step} {says = says} {old = old} {new = new} {t = t} f r e is h =
    subst (λ o. Behaves rules step says old t o new) (sym (exit_is f r e is)) h
