use Rattle.std.proofs.Common.{◌≡◌, ◌∙◌, ◌+◌, ℕ, false, true, ap, drop, is_some, map, refl, sym, Bor}
use Rattle.std.proofs.lemmas.List.{drop_all}
use Rattle.just_resolution.specs.Prelude.{BoundParameter, Frames, HasValue, ModuleFault, Token, Value, frames_view, parameter_view, value_in}
use Rattle.just_resolution.proofs.Finding.{leads_end, leads_off, leads_on, some_seen}
use Rattle.just_resolution.proofs.Ordering.{bound_if}
use Rattle.just_resolution.proofs.Sets.{front}
use Rattle.just_resolution.proofs.numbers.parameter_fault.Goals.{After-is_some}
use Rattle.just_resolution.proofs.numbers.parameter_fault.Goals as goal

abbrev Sound : Frames → Token × ℕ → Type 0
Sound outer p = HasValue (value_in outer) p.1 → ⊥

abbrev Faulty : Frames → Token × ℕ → ModuleFault → Type 0
Faulty outer p f = (BoundParameter p.0 ≡ f) × HasValue (value_in outer) p.1

-- whether the scope binds it
bound : (c : After-is_some) → is_some (value_in (frames_view c.args.scope.now) c.loop-name-item.result.1) ≡ is_some c.value.result
bound c = sym (ap is_some c.value.ensures) ∙ some_seen (λ (v : Bor Value). v.now) c.value.result

pub returns-then-is_some : goal.returns-then-is_some
returns-then-is_some c =
    let outer = frames_view c.args.scope.now in
    let parameters = c.args.parameters.now in
    let i = c.loop-name.name-index in
    let item = c.loop-name-item.result in
    let p = parameter_view item in
    leads_off (Sound outer) (Faulty outer) (map parameter_view (drop i parameters)) (map parameter_view (drop (i + 1) parameters))
    (map parameter_view parameters) c.loop-name.invariant
    p (BoundParameter p.0) (ap (map parameter_view) (front parameters i item c.loop-name-test.true c.loop-name-item.is))
    (refl, (bound_if (value_in outer p.1)).0 (bound (goal.at.returns-then-is_some c).After-is_some ∙ sym c.if-is_some.ensures))

pub loop-name-preserved : goal.loop-name-preserved
loop-name-preserved c =
    let outer = frames_view c.args.scope.now in
    let parameters = c.args.parameters.now in
    let i = c.loop-name.name-index in
    let item = c.loop-name-item.result in
    let p = parameter_view item in
    leads_on (Sound outer) (Faulty outer) (map parameter_view (drop i parameters)) (map parameter_view (drop (i + 1) parameters))
    (map parameter_view parameters) c.loop-name.invariant
    p (ap (map parameter_view) (front parameters i item c.loop-name-test.true c.loop-name-item.is))
    (λ there.
    let on : is_some (value_in outer p.1) ≡ true = (bound_if (value_in outer p.1)).1 there in
    let off : is_some (value_in outer p.1) ≡ false = bound (goal.at.loop-name-preserved c).After-is_some ∙ sym c.if-is_some.ensures in
    let e : false ≡ true = sym off ∙ on in
    cc)

pub returns : goal.returns
returns c =
    let outer = frames_view c.args.scope.now in
    let parameters = c.args.parameters.now in
    let i = c.loop-name.name-index in
    leads_end (Sound outer) (Faulty outer) (map parameter_view (drop i parameters)) (map parameter_view parameters)
    (ap (map parameter_view) (drop_all i parameters c.loop-name-test.false)) c.loop-name.invariant
