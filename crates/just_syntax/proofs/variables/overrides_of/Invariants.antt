use Rattle.std.proofs.Common.{◌≡◌, ℕ, map, take, drop, nat_eq, string_bytes, option_map}
use Rattle.std.specs.Map.{lookup}
use Rattle.just_syntax.specs.Prelude.{assignment_view, first_unknown, given, pair_view}
use Rattle.just_syntax.proofs.variables.overrides_of.Given as goal

-- the values that the pairs so far give
abbrev pub invariant-loop-name : goal.invariant-loop-name
invariant-loop-name l = record {
  given : (n : ℕ) → option_map string_bytes (lookup (nat_eq n) l.overrides.entries)
      ≡ given (map assignment_view l.assignments) (map pair_view (take l.name-index l.pairs)) n;
  known : first_unknown (map assignment_view l.assignments) (map (λ pair. string_bytes pair.0) (drop l.name-index l.pairs))
      ≡ first_unknown (map assignment_view l.assignments) (map (λ pair. string_bytes pair.0) l.pairs);
}
