use Rattle.std.proofs.Common.{◌≡◌, ◌↔◌, true, map}
use Rattle.just_resolution.specs.Prelude.{IsAdmitted, MayAllOccur, MayOccur, expressions_view, function_view, is_name_in, is_readable, view}
use Rattle.just_resolution.proofs.Closure.{last_popped}
use Rattle.just_resolution.proofs.Readers.{alike_back, same_on}
use Rattle.just_resolution.proofs.Turns.{occur_next, occur_off}
use Rattle.just_resolution.proofs.here.Reader.may_all_occur.Goals as goal

pub returns-then-not-branch-clause-exact : goal.returns-then-not-branch-clause-exact
returns-then-not-branch-clause-exact c =
    let reader = c.args.self.now in
    let functions = map function_view reader.functions.now in
    let last = last_popped (λ e. view e.now) c.loop-expression.left.items c.pop.new.self.items c.pop.result c.in-Some.expression
    c.pop.ensures.items c.in-Some.is in
    occur_off functions (is_readable reader.here) (is_readable reader.bodies) (MayAllOccur functions (is_readable reader.here) (is_readable reader.bodies)
    (expressions_view c.args.expressions.items))
    (expressions_view c.loop-expression.left.items) (expressions_view c.pop.new.self.items) (view c.in-Some.expression.now) last
    c.loop-expression.invariant.decides c.in_ok-may_occur.field-0 c.if-not-branch.true
    (alike_back (λ fs here bodies. (c.in_ok-may_occur.field-0 ≡ true) ↔ MayOccur fs here bodies (view c.in-Some.expression.now)) reader c.loop-expression.self
    c.loop-expression.invariant.same c.in_ok-may_occur.ensures.exact)

pub loop-expression-preserved : goal.loop-expression-preserved
loop-expression-preserved c =
    let reader = c.args.self.now in
    let functions = map function_view reader.functions.now in
    let last = last_popped (λ e. view e.now) c.loop-expression.left.items c.pop.new.self.items c.pop.result c.in-Some.expression
    c.pop.ensures.items c.in-Some.is in
    record {
      same = same_on reader c.loop-expression.self c.may_occur.new.self c.loop-expression.invariant.same c.may_occur.ensures.same;
      closed = alike_back (λ fs here bodies. IsAdmitted fs bodies (is_name_in c.may_occur.new.self.admitted)) reader c.loop-expression.self
          c.loop-expression.invariant.same (c.in_ok-may_occur.ensures.closed c.if-not-branch.false);
      decides = occur_next functions (is_readable reader.here) (is_readable reader.bodies)
          (MayAllOccur functions (is_readable reader.here) (is_readable reader.bodies) (expressions_view c.args.expressions.items))
          (expressions_view c.loop-expression.left.items) (expressions_view c.pop.new.self.items) (view c.in-Some.expression.now) last
          c.loop-expression.invariant.decides c.in_ok-may_occur.field-0 c.if-not-branch.false
          (alike_back (λ fs here bodies. (c.in_ok-may_occur.field-0 ≡ true) ↔ MayOccur fs here bodies (view c.in-Some.expression.now)) reader
          c.loop-expression.self c.loop-expression.invariant.same c.in_ok-may_occur.ensures.exact);
    }
