use Rattle.std.proofs.Common.{◌∙◌, IsTrue, sym}
use Rattle.just_changes.specs.Prelude.{is_number_in}
use Rattle.just_changes.proofs.Readings.{both_ways, no_variable, nothing_more, one_variable, own_variable, same_more, variable_one}
use Rattle.just_changes.proofs.reading.add_variable.Goals as goal

pub returns-in_default : goal.returns-in_default
returns-in_default c = λ x y. nothing_more (λ h. no_variable (λ n. IsTrue (is_number_in c.args.own.now n)) c.args.number x c.in_default.is h.1)

pub returns-then-contains : goal.returns-then-contains
returns-then-contains c = λ x y.
    nothing_more (λ h. own_variable (λ n. IsTrue (is_number_in c.args.own.now n)) c.args.number c.in-Some.number x c.in-Some.is
    (sym c.contains.ensures ∙ c.if-contains.true) h.1)

pub returns : goal.returns
returns c = λ x y.
    same_more
    (λ p. (
      p.1,
      one_variable (λ n. IsTrue (is_number_in c.args.own.now n)) c.args.number c.in-Some.number x c.in-Some.is
          (λ mine. both_ways c.contains.result c.if-contains.false (c.contains.ensures ∙ mine)) p.0,
    ))
    (λ q. (variable_one (λ n. IsTrue (is_number_in c.args.own.now n)) c.args.number c.in-Some.number x c.in-Some.is q.1, q.0))
    (c.in_ok-add.ensures x y)
