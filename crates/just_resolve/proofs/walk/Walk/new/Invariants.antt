use Rattle.std.proofs.Common.{◌≡◌, ◌++◌, map}
use Rattle.std.specs.Iterator.Adapters.{rev_source}
use Rattle.std.specs.Slice.Iter.{iter_rest}
use Rattle.just_resolve.specs.Prelude.{OfVariable, all_entered, step_view}
use Rattle.just_resolve.proofs.walk.Walk.new.Given as goal

-- the steps so far, and those of the remaining variables, are all
abbrev pub invariant-loop-number : goal.invariant-loop-number
invariant-loop-number l = map step_view l.steps.items ++ all_entered (map OfVariable (iter_rest (rev_source l.number-iterator)))
    ≡ all_entered (map OfVariable l.starts)
