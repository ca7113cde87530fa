-- How outcomes before any run are composed.
use Rattle.std.proofs.Common.{◌≡◌, ℕ, ◌+◌, ◌<◌, List, [], ◌∷◌, ◌++◌, append_assoc, append-nil, map, drop, get_or, length, Option, Some, None, Result}
use Rattle.std.proofs.Common.{Ok, Err, IfErr, refl, sym, ap, subst}
use Rattle.std.specs.Option.{ForSome}
use Rattle.just_eval.specs.Prelude.{Expr, Gave, IfRefused, IsConstEval, Outcome, Refusal, Refused, Stopped, UnlessStopped, Value, and_then, elements, ended}
use Rattle.just_eval.specs.Prelude.{refusal, without_value}
use Rattle.just_value.specs.declared.error.Error.{Error}
use Rattle.just_meaning.specs.Settings.{Evaluates}
use Rattle.just_eval.specs.Prelude.{AllResolvedOn, IsNotInternal, StageState, const_value, setting_expressions, with_setting}
use Rattle.just_host.specs.Settings.{Settings}
use Rattle.just_syntax.specs.Plain.{Set}
use Rattle.just_soundness.proofs.SettingsInternal.{settings_not}
use Rattle.just_eval.proofs.Module.{front}
use Rattle.just_soundness.proofs.Constants.{OfSome}

pub unless_is : {A : Type 0} (o w : Outcome A) → o ≡ w → UnlessStopped o w
unless_is (Gave a) w e = e
unless_is (Refused r) w e = e
unless_is Stopped w e = tt

pub for_some : (P : Refusal → Type 0) (e : Option Refusal) → OfSome P e → ForSome e P
for_some P (Some r) h x is = subst (OfSome P) is h
for_some P None h x is = absurd (cc)

few_error : (e : Option Refusal) → IfRefused {A = Value} IsConstEval (without_value e) → OfSome IsConstEval e
few_error (Some r) h = h
few_error None h = h

pub few_ended : (r : Result Value Error) → IfRefused IsConstEval (ended (λ v. v) r) → IfErr r (λ e. ForSome (refusal e) IsConstEval)
few_ended (Ok v) h = tt
few_ended (Err e) h = for_some IsConstEval (refusal e) (few_error (refusal e) h)

passed_on : (w : Outcome Settings) → IsNotInternal (and_then w Gave) → IsNotInternal w
passed_on (Gave a) h = h
passed_on (Refused r) h = h
passed_on Stopped h = h

-- one setting whose variables are bound or open meets no refusal that is Internal
pub set_not : (s : StageState) (settings : Settings) (x : Set) → AllResolvedOn s (setting_expressions x.value)
    → IsNotInternal (with_setting (const_value s) settings x.name x.value)
set_not s settings x h =
    passed_on _ (settings_not s settings (x ∷ []) (subst (AllResolvedOn s) (sym (append-nil (setting_expressions x.value))) h))

-- concatenation of elements is associative
pub elements_after : {B : Type 0} (v all : Value) (w : Outcome Value) (go : Value → Outcome B)
    → and_then (and_then (and_then w (λ x. Gave (v ++ x))) (λ x. Gave (all ++ x))) go ≡ and_then (and_then w (λ x. Gave ((all ++ v) ++ x))) go
elements_after v all (Gave x) go = ap go (sym (append_assoc all v x))
elements_after v all (Refused r) go = refl
elements_after v all Stopped go = refl

-- continues with one more value
pub elements_next : {B X : Type 0} (evaluates : Evaluates) (seen : X → Expr) (items : List X) (i : ℕ) (d : X) (fits : i < length items) (all v : Value)
    (go : Value → Outcome B) (o : Outcome B) → Gave v ≡ evaluates (seen (get_or items i d))
    → UnlessStopped o (and_then (and_then (elements evaluates (map seen (drop (i + 1) items))) (λ w. Gave ((all ++ v) ++ w))) go)
    → UnlessStopped o (and_then (and_then (elements evaluates (map seen (drop i items))) (λ w. Gave (all ++ w))) go)
elements_next evaluates seen items i d fits all v go o is h =
    let rest = elements evaluates (map seen (drop (i + 1) items)) in
    subst (λ xs. UnlessStopped o (and_then (and_then (elements evaluates xs) (λ w. Gave (all ++ w))) go)) (sym (front seen items i d fits))
    (subst (λ x. UnlessStopped o (and_then (and_then (and_then x (λ v. and_then rest (λ w. Gave (v ++ w)))) (λ w. Gave (all ++ w))) go)) is
    (subst (UnlessStopped o) (sym (elements_after v all rest go)) h))
