use Rattle.std.proofs.Common.{◌≡◌, List, ℕ, drop, map}
use Rattle.std.specs.Option.{option_or}
use Rattle.just_resolve.specs.Prelude.{first_named, number_in, parameter_view}
use Rattle.just_resolve.proofs.names.add_pairs.Given as goal

-- the names so far, and then the remaining pairs
abbrev pub invariant-loop-name : goal.invariant-loop-name
invariant-loop-name l = (t : List ℕ) → option_or (number_in l.all t) (first_named (map parameter_view (drop l.name-index l.pairs)) t)
    ≡ option_or (number_in l.fn.all t) (first_named (map parameter_view l.pairs) t)
