use Rattle.std.proofs.Common.{◌≡◌, ◌∙◌, sym, ap, subst, Ok, None}
use Rattle.std.proofs.lemmas.List.{drop_all}
use Rattle.std.proofs.lemmas.Result.{err_from_is_err_and}
use Rattle.just_builtins.specs.Prelude.{Behaves, first_set, freely, pairs_view, tree, unchecked}
use Rattle.just_builtins.proofs.Variables.{ended, not_set, set}
use Rattle.just_builtins.proofs.environment.first_set.Goals as goal

pub loop-key-init : goal.loop-key-init
loop-key-init g c = λ shown rest o last run. run

pub returns-in_err-value : goal.returns-in_err-value
returns-in_err-value g c = λ shown.
    let p = err_from_is_err_and c.from_residual.result c.from_residual.ensures.1 in
    ended g.H.Host.step shown (pairs_view c.args.dotenv.now) c.args.host.now c.loop-key.host _ c.args.keys.now c.loop-key.key-index c.key-item.result _
    c.loop-key-test.true c.key-item.is c.deref.ensures
    (c.loop-key.invariant shown) _ (c.variable.ensures shown)
    _ _ _ c.in_err-value.was p.1 p.2

pub returns-in-Some : goal.returns-in-Some
returns-in-Some g c = λ shown.
    set g.H.Host.step shown (pairs_view c.args.dotenv.now) c.args.host.now c.loop-key.host _ c.args.keys.now c.loop-key.key-index c.key-item.result _
    c.loop-key-test.true c.key-item.is c.deref.ensures
    (c.loop-key.invariant shown) _ (c.variable.ensures shown)
    _ (c.in_ok-value.was ∙ ap Ok c.in-Some.is)

pub loop-key-preserved : goal.loop-key-preserved
loop-key-preserved g c = λ shown.
    let none : c.in_ok-value.field-0 ≡ None = cc in
    not_set g.H.Host.step shown (pairs_view c.args.dotenv.now) c.args.host.now c.loop-key.host _ c.args.keys.now c.loop-key.key-index c.key-item.result _
    c.loop-key-test.true c.key-item.is c.deref.ensures
    (c.loop-key.invariant shown) _ (c.variable.ensures shown)
    (c.in_ok-value.was ∙ ap Ok none)

pub returns : goal.returns
returns g c = λ shown rest o last run.
    let dotenv = pairs_view c.args.dotenv.now in
    c.loop-key.invariant shown rest o last (subst (λ ks. Behaves freely g.H.Host.step unchecked c.loop-key.host (tree shown (first_set dotenv rest ks)) o last)
    (sym (drop_all c.loop-key.key-index c.args.keys.now c.loop-key-test.false)) run)
