use Rattle.std.proofs.Common.{◌≡◌, ℕ, List, map, take}
use Rattle.just_resolve.specs.Prelude.{AreTaken, Frames, Token, frames_view, name_view, parameter_view}
use Rattle.just_resolve.proofs.free_numbers.numbers_from.Given as goal

-- the names so far have numbers that were taken from the start on
pub record AreNumbered (outer : Frames) (start : ℕ) (before : List Token) (now : List (Token × ℕ)) (end : ℕ) : Type 0 where
  pub names : map (λ p. p.0) now ≡ before
  pub taken : AreTaken outer start (map (λ p. p.1) now) end

abbrev pub invariant-loop-name : goal.invariant-loop-name
invariant-loop-name l = AreNumbered (frames_view l.outer) l.fn.free.next (map name_view (take l.name-index l.names)) (map parameter_view l.all.items)
    l.free.next
