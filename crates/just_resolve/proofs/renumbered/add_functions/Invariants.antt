use Rattle.std.proofs.Common.{◌≡◌, ◌++◌, ℕ, List, map}
use Rattle.just_resolve.specs.Prelude.{AreTaken, Frames, Function, IsRenumberedFunction, Pairwise, Token, first_named, frames_view, function_view}
use Rattle.just_resolve.specs.Prelude.{parameter_numbers, variable_named}
use Rattle.just_resolve.specs.declared.names.Names.{Names}
use Rattle.just_resolve.proofs.renumbered.add_functions.Given as goal

-- the functions so far, of which the table has copies, and the remaining ones are all
pub record AreCopied (outer : Frames) (start : ℕ) (old new : Names) (all rest made : List Function) (end : ℕ) : Type 0 where
  pub done : List Function
  pub same : done ++ rest ≡ all
  pub keys : map (λ f. f.name.lexeme) made ≡ map (λ f. f.name.lexeme) done
  pub variables : (t : List ℕ) → variable_named new t ≡ variable_named old t
  pub pairs : (others : List (Token × ℕ)) → ((t : List ℕ) → variable_named old t ≡ first_named others t) → Pairwise (IsRenumberedFunction others) done made
  pub taken : AreTaken outer start (parameter_numbers made) end

abbrev pub invariant-loop-function : goal.invariant-loop-function
invariant-loop-function l = AreCopied (frames_view l.outer) l.fn.free.next l.fn.names l.names (map function_view l.functions)
    (map function_view l.function-iterator) (map function_view l.made) l.free.next
