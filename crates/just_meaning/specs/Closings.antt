-- Scoping disciplines: how a called body is evaluated under lexical and under dynamic scope. The number of calls that
-- may still be pending is the fuel.
use Rattle.std.specs.Prelude.{ℕ, zero, suc, List, [], ◌∷◌}
use Rattle.just_syntax.specs.Plain.{Token, Function}
use Rattle.just_value.specs.Value.{Value, Names}
use Rattle.just_value.specs.Frames.{Frame, over, value_in, with_bound, plainly_bound}
use Rattle.just_meaning.specs.Meaning.{Program, Situation, Deeper, AtLimit, WithinLimit, eval}

-- a frame with these parameters bound to these values
abbrev pub with_parameters : Frame → List (Token × ℕ) → List Value → Frame
with_parameters frame [] vs = frame
with_parameters frame (p ∷ ps) [] = frame
with_parameters frame (p ∷ ps) (v ∷ vs) = with_parameters (with_bound frame (plainly_bound p.0 p.1 v)) ps vs

-- A body's situation: its own parameters before these names, and its frame on those below. Everything else is its
-- caller's.
abbrev pub inside : Names → Situation → Function → List Value → Situation
inside names s f vs =
    let frame = with_parameters [] f.parameters vs in
    record {
      names = over frame names;
      environment = s.environment;
      recipe = s.recipe;
      is_dependency = s.is_dependency;
      lists = s.lists;
      shown = frame ∷ s.below;
      below = frame ∷ s.below;
    }

-- lexical scope: a body reads its own parameters and the base, and nothing of its caller
abbrev pub lexical : Program → Names → ℕ → Deeper
lexical c base zero = AtLimit
lexical c base (suc n) = WithinLimit (λ f s vs. eval c (lexical c base n) (inside base s f vs) f.body)

-- dynamic scope: below its own parameters a body reads the frames that its own is put on
abbrev pub dynamic : Program → ℕ → Deeper
dynamic c zero = AtLimit
dynamic c (suc n) = WithinLimit (λ f s vs. eval c (dynamic c n) (inside (value_in s.below) s f vs) f.body)
