use Rattle.std.proofs.Common.{◌≡◌, ◌↔◌, ◌⊎◌, ◌∙◌, ◌+◌, ◌∷◌, ℕ, Bool, true, IsTrue, map, drop, ap, refl, subst}
use Rattle.just_resolution.specs.Prelude.{IsAdmitted, IsSameReader, MayAllOccur, MayFollowInTurn, Parameter, expressions_of, expressions_view, function_view}
use Rattle.just_resolution.specs.Prelude.{is_name_in, is_readable, recipe_parameter_view}
use Rattle.just_resolution.specs.declared.here.Reader.{Reader}
use Rattle.just_resolution.specs.declared.readable.Readable.{Readable}
use Rattle.just_resolution.proofs.Readers.{alike_back, grown}
use Rattle.just_resolution.proofs.Sets.{front}
use Rattle.just_resolution.proofs.Turns.{follow_next, follow_off}
use Rattle.just_resolution.proofs.here.Reader.may_follow.Goals.{After-may_all_occur}
use Rattle.just_resolution.proofs.here.Reader.may_follow.Goals as goal

-- the reader at the start, except for the parameters that were taken
abbrev taking : After-may_all_occur → Reader
taking c = record {
  functions = c.args.self.now.functions;
  here = c.loop-parameter.self.here;
  bodies = c.args.self.now.bodies;
  admitted = c.loop-parameter.self.admitted;
  occurrences = c.loop-parameter.self.occurrences;
  pending = c.loop-parameter.self.pending;
}

same : (c : After-may_all_occur) → IsSameReader (taking c) c.loop-parameter.self
same c = record { functions = c.loop-parameter.invariant.same_functions; here = refl; bodies = c.loop-parameter.invariant.same_bodies }

abbrev next : After-may_all_occur → Parameter
next c = recipe_parameter_view c.parameter-item.result

-- the rest begins with the next parameter
left : (c : After-may_all_occur) → map recipe_parameter_view (drop c.loop-parameter.parameter-index c.args.parameters.now)
    ≡ next c ∷ map recipe_parameter_view (drop (c.loop-parameter.parameter-index + 1) c.args.parameters.now)
left c = ap (map recipe_parameter_view) (front c.args.parameters.now c.loop-parameter.parameter-index c.parameter-item.result c.loop-parameter-test.true
    c.parameter-item.is)

-- the answer for the next parameter
asked : (c : After-may_all_occur) (answer : Bool) →
    (answer ≡ true) ↔ MayAllOccur (map function_view c.loop-parameter.self.functions.now) (is_readable c.loop-parameter.self.here)
    (is_readable c.loop-parameter.self.bodies) (expressions_view c.in_ok-own.own.items) →
    (answer ≡ true) ↔ MayAllOccur (map function_view c.args.self.now.functions.now) (is_readable c.loop-parameter.self.here)
    (is_readable c.args.self.now.bodies) (expressions_of (next c))
asked c answer decides =
    alike_back (λ fs here bodies. (answer ≡ true) ↔ MayAllOccur fs here bodies (expressions_of (next c))) (taking c) c.loop-parameter.self (same c)
    (subst (λ es. (answer ≡ true) ↔ MayAllOccur (map function_view c.loop-parameter.self.functions.now) (is_readable c.loop-parameter.self.here)
    (is_readable c.loop-parameter.self.bodies) es) c.in_ok-own.ensures decides)

-- the rest decides, with the next parameter separated from the others
turn : (c : After-may_all_occur) →
    MayFollowInTurn (map function_view c.args.self.now.functions.now) (λ n. IsTrue (is_readable c.loop-parameter.self.here n))
    (is_readable c.args.self.now.bodies) (next c ∷ map recipe_parameter_view (drop (c.loop-parameter.parameter-index + 1) c.args.parameters.now))
    ↔ MayFollowInTurn (map function_view c.args.self.now.functions.now) (λ n. IsTrue (is_readable c.args.self.now.here n)) (is_readable c.args.self.now.bodies)
    (map recipe_parameter_view c.args.parameters.now)
turn c = subst
    (λ ps. MayFollowInTurn (map function_view c.args.self.now.functions.now) (λ n. IsTrue (is_readable c.loop-parameter.self.here n))
    (is_readable c.args.self.now.bodies) ps
    ↔ MayFollowInTurn (map function_view c.args.self.now.functions.now) (λ n. IsTrue (is_readable c.args.self.now.here n)) (is_readable c.args.self.now.bodies)
    (map recipe_parameter_view c.args.parameters.now))
    (left c) c.loop-parameter.invariant.decides

pub returns-then-not-branch : goal.returns-then-not-branch
returns-then-not-branch c =
    let at = (goal.at.returns-then-not-branch c).After-may_all_occur in
    record {
      exact = follow_off (map function_view c.args.self.now.functions.now) (is_readable c.args.self.now.bodies) _
          (λ n. IsTrue (is_readable c.loop-parameter.self.here n)) (next at)
          (map recipe_parameter_view (drop (c.loop-parameter.parameter-index + 1) c.args.parameters.now)) c.in_ok-may_all_occur.field-0 c.if-not-branch.true
          (asked at c.in_ok-may_all_occur.field-0 c.in_ok-may_all_occur.ensures.exact) (turn at);
    }

pub loop-parameter-preserved : goal.loop-parameter-preserved
loop-parameter-preserved c =
    let at = (goal.at.loop-parameter-preserved c).After-may_all_occur in
    let now_same = c.may_all_occur.ensures.same in
    let taken = grown c.may_all_occur.new.self.here c.take.new.self c.parameter-item.result.number c.take.ensures.outer c.in_ok-take.ensures.taken in
    record {
      same_functions = now_same.functions ∙ c.loop-parameter.invariant.same_functions;
      same_bodies = now_same.bodies ∙ c.loop-parameter.invariant.same_bodies;
      closed = alike_back (λ fs here bodies. IsAdmitted fs bodies (is_name_in c.may_all_occur.new.self.admitted)) (taking at) c.loop-parameter.self (same at)
          (c.in_ok-may_all_occur.ensures.closed c.if-not-branch.false);
      decides = follow_next (map function_view c.args.self.now.functions.now) (is_readable c.args.self.now.bodies) _
          (λ n. IsTrue (is_readable c.loop-parameter.self.here n)) (λ n. IsTrue (is_readable c.take.new.self n)) (next at)
          (map recipe_parameter_view (drop (c.loop-parameter.parameter-index + 1) c.args.parameters.now))
          ((asked at c.in_ok-may_all_occur.field-0 c.in_ok-may_all_occur.ensures.exact).0 c.if-not-branch.false)
          (subst (λ (r : Readable). (n : ℕ) → IsTrue (is_readable c.take.new.self n) ↔ (IsTrue (is_readable r n) ⊎ (c.parameter-item.result.number ≡ n)))
          now_same.here taken) (turn at);
    }
