use Rattle.std.proofs.Common.{ap, ◌∙◌, ◌∷◌, refl}
use Rattle.std.specs.Slice.Iter.{iter_rest}
use Rattle.just_value.specs.Placed.{elements_at}
use Rattle.just_value.proofs.Stepped.{gets_on, takes_at, takes_first}
use Rattle.just_value.proofs.bindings.BindingsIterator.next.Goals as goal
use Rattle.just_value.proofs.bindings.BindingsIterator.next.Goals.{in-InOrder, in-ByPlace+in-Some, in-ByPlace+in-None}

pub returns-clause-steps : goal.returns-clause-steps
returns-clause-steps c = elim c.match-self.branch [
  | in-InOrder w ↦ rw (w.result-is, w.self-inside-is, ← c.self.view_is, w.in-InOrder.is)
      (takes_first iter_rest w.in-InOrder.left w.next.result w.next.new.self w.next.ensures.steps)
  | in-ByPlace+in-Some w ↦
      let within = rw (w.in-ByPlace.is, w.in-Some.ensures.steps) at c.self.invariant in
      rw (w.result-is, w.self-inside-is, ← c.self.view_is, w.in-ByPlace.is)
      (takes_at c.self.inside.bindings.now w.in-Some.at.now w.index-self-at.result w.in-ByPlace.places w.next-in-ByPlace.new.self w.in-Some.ensures.steps
      within.0 w.index-self-at.is ∙ ap (λ b. b ∷ elements_at c.self.inside.bindings.now w.next-in-ByPlace.new.self) w.index-self-at.is)
  | in-ByPlace+in-None w ↦
      let none = w.in-None.ensures.steps in
      rw (w.result-is, w.self-inside-is, ← c.self.view_is, w.in-ByPlace.is) (rw (none.0, none.1) (refl, refl))
]

pub returns-clause-goes : goal.returns-clause-goes
returns-clause-goes c = gets_on _ _ _ (returns-clause-steps c)
