use Rattle.std.proofs.Common.{◌≡◌, ◌∙◌, true, false, sym, take}
use Rattle.std.proofs.lemmas.List.{take_all}
use Rattle.just_resolution.specs.Prelude.{parameter_view}
use Rattle.just_resolution.proofs.Sets.{no_number, number_added, own_more}
use Rattle.just_resolution.proofs.numbers.own_numbers.Goals as goal

pub loop-number-init : goal.loop-number-init
loop-number-init c = λ n. ((λ h. absurd (let e : false ≡ true = sym (no_number c.new-own.result c.new-own.ensures.empty n) ∙ h in cc)), (λ h. absurd h))

pub loop-number-preserved : goal.loop-number-preserved
loop-number-preserved c = λ n.
    own_more parameter_view c.args.parameters.now c.loop-number.number-index c.loop-number-item.result c.loop-number.own c.insert.new.self n
    c.loop-number-test.true c.loop-number-item.is
    (c.loop-number.invariant n) (number_added c.loop-number.own c.insert.new.self c.loop-number-item.result.1 c.in_ok-insert.ensures.updates.0 n)

pub returns : goal.returns
returns c =
    let all : take c.loop-number.number-index c.args.parameters.now ≡ c.args.parameters.now =
    take_all c.loop-number.number-index c.args.parameters.now c.loop-number-test.false in
    rw all at c.loop-number.invariant
