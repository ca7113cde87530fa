use Rattle.std.proofs.Common.{◌≡◌, ℕ, List, map, take}
use Rattle.just_resolve.specs.Prelude.{AreTaken, Frames, Token, frames_view, parameter_view}
use Rattle.just_resolve.proofs.renumbered.parameters.Given as goal

-- the parameters so far
pub record IsDeclared (outer : Frames) (start : ℕ) (before now : List (Token × ℕ)) (end : ℕ) : Type 0 where
  pub names : map (λ p. p.0) now ≡ map (λ p. p.0) before
  pub taken : AreTaken outer start (map (λ p. p.1) now) end

abbrev pub invariant-loop-name : goal.invariant-loop-name
invariant-loop-name l = IsDeclared (frames_view l.outer) l.fn.free.next (map parameter_view (take l.name-index l.parameters)) (map parameter_view l.all.items)
    l.free.next
