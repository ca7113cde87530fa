-- On a resolved module, a name-by-name run with dynamic scope is also one with lexical scope.
use Rattle.std.proofs.Common.{◌≡◌, inl, inr, List, [], ◌∷◌, refl, ap, subst}
use Rattle.just_syntax.specs.Lists.{IsIn}
use Rattle.just_host.specs.Interaction.{bind, freely, gives, Behaves, unchecked}
use Rattle.just_bench.specs.Prelude.{Extends, Frames, Goes, IsResolvedModule, Kept, Module, Outcome, Step, Token, Turn, Turns, dynamically, in_order, lexically}
use Rattle.just_meaning.specs.Module as runs
use Rattle.just_soundness.proofs.Lexical.{resolved_turn}
use Rattle.just_bench.specs.Blocks.{Finished, Breaks}

-- the turn of a name is the same under both
abbrev IsTurnSame : Module → Token → Type 0
IsTurnSame m t = (frames : Frames) → runs.turn dynamically m frames t ≡ runs.turn lexically m frames t

extends_lexical : {S : Type 0} {step : Step S} {old new : S} {frames : Frames} {outcome : Outcome Frames} (m : Module) (t : Token) → IsTurnSame m t
    → Extends dynamically step old (in_order m (t ∷ [])) frames outcome new → Extends lexically step old (in_order m (t ∷ [])) frames outcome new
extends_lexical {step = step} {old = old} {new = new} {frames = frames} m t same e = record {
  given = e.given;
  ran = subst (λ u. Behaves freely step unchecked old u e.given new) (ap (λ u. bind u (λ next. gives next)) (same ([] ∷ frames))) e.ran;
  bound = e.bound;
}

each_lexical : {S : Type 0} {step : Step S} {m : Module} {old new : S × List Kept} {frames : Frames} {left : List Token} {turns : List Turn}
    {outcome : Outcome Frames} → ((t : Token) → IsIn left t → IsTurnSame m t) → Turns dynamically step m old frames left turns outcome new
    → Turns lexically step m old frames left turns outcome new
each_lexical same Finished = Finished
each_lexical {m = m} {left = t ∷ left} same (Goes e rest) =
    Goes (extends_lexical m t (same t (inl refl)) e) (each_lexical (λ u among. same u (inr among)) rest)
each_lexical {m = m} {left = t ∷ left} same (Breaks r e) = Breaks r (extends_lexical m t (same t (inl refl)) e)

pub turns_lexical : {S : Type 0} {step : Step S} {m : Module} {old new : S × List Kept} {frames : Frames} {turns : List Turn} {outcome : Outcome Frames}
    (outer : Frames) → IsResolvedModule m outer
    → Turns dynamically step m old frames m.assignments.order turns outcome new → Turns lexically step m old frames m.assignments.order turns outcome new
turns_lexical {m = m} outer resolved walk = each_lexical (resolved_turn m outer resolved) walk
