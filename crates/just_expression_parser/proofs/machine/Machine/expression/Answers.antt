use Rattle.std.proofs.Common.{[], ap, arith, map, reverse, subst, sym, ◌∙◌}
use Rattle.std.proofs.lemmas.List.{nil_from_length}
use Rattle.just_syntax.specs.View.{view}
use Rattle.just_expression_parser.proofs.Steps.{goes_on, if_ok, on_err, pending, popped, read_all}
use Rattle.just_expression_parser.specs.Machine as machine
use Rattle.just_expression_parser.specs.Parsed.{Course, GoesOn, IsRefused, goes, left, machine_frame_view, state_view, waiting}
use Rattle.just_expression_parser.specs.declared.machine.Machine.{Machine}
use Rattle.just_expression_parser.proofs.machine.Machine.expression.Goals as goal
use Rattle.just_expression_parser.proofs.machine.Machine.expression.Goals.{in-Done+in-Some, in_default}

-- nothing waits: the expression is read
pub returns-in-None-clause-ok : goal.returns-in-None-clause-ok
returns-in-None-clause-ok c alone =
    let old = c.loop-state.self in
    let none = nil_from_length old.frames.items (sym old.frames.ok.0 ∙ c.in-None.ensures.cases.0) in
    read_all (left old) (view c.in-Done.expression) (waiting old) (ap (λ fs. reverse (map machine_frame_view fs)) none)
    ∙ (rw c.in-Done.is at c.loop-state.invariant)

-- a step goes on
went : (c : goal.In-Ok) → GoesOn (goes c.loop-state.self (state_view c.loop-state.state) []) c.match-state.next c.match-state.self
went c = elim c.match-state.branch [
  | in-Done+in-Some w ↦
      let old = c.loop-state.self in
      let new : Machine = record { alloc = old.alloc; cursor = old.cursor; frames = w.pop.new.self } in
      let same = popped old new w.in-Some.frame (view w.in-Done.expression) w.in-Some.ensures.items in
      rw (w.self-is, w.next-is, w.in-Done.is) (goes_on _ (goes old (machine.Done (view w.in-Done.expression)) []) w.resume.result w.resume.new.self
      (ap (λ (x : Course). x.result) same) (omega (arith, ap (λ (x : Course). x.bound) same)) w.resume.ensures)
  | in_default w ↦ rw (w.self-is, w.next-is) (w.start-next.ensures (pending c.loop-state.state w.in_default.not-Done))
]

pub loop-state-preserved : goal.loop-state-preserved
loop-state-preserved c = (if_ok _ c.match-state.next c.in-Ok.next c.in-Ok.is (went c).0).0 ∙ c.loop-state.invariant

pub loop-state-smaller : goal.loop-state-smaller
loop-state-smaller c = (if_ok _ c.match-state.next c.in-Ok.next c.in-Ok.is (went c).0).1

-- a step is refused
stopped : (c : goal.In-Err) → GoesOn (goes c.loop-state.self (state_view c.loop-state.state) []) c.match-state.next c.match-state.self
stopped c = elim c.match-state.branch [
  | in-Done+in-Some w ↦
      let old = c.loop-state.self in
      let new : Machine = record { alloc = old.alloc; cursor = old.cursor; frames = w.pop.new.self } in
      let same = popped old new w.in-Some.frame (view w.in-Done.expression) w.in-Some.ensures.items in
      rw (w.self-is, w.next-is, w.in-Done.is) (goes_on _ (goes old (machine.Done (view w.in-Done.expression)) []) w.resume.result w.resume.new.self
      (ap (λ (x : Course). x.result) same) (omega (arith, ap (λ (x : Course). x.bound) same)) w.resume.ensures)
  | in_default w ↦ rw (w.self-is, w.next-is) (w.start-next.ensures (pending c.loop-state.state w.in_default.not-Done))
]

pub returns-in-Err-clause-refused : goal.returns-in-Err-clause-refused
returns-in-Err-clause-refused c =
    subst (λ result. IsRefused result c.in-Err.refusal) c.loop-state.invariant
    (on_err _ c.match-state.next c.in-Err.refusal c.in-Err.is (stopped c).1)
