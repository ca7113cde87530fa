-- Runs with the same turns are the same.
use Rattle.std.proofs.Common.{◌≡◌, inl, inr, Bool, List, [], ◌∷◌, if◌then◌else◌, refl}
use Rattle.just_syntax.specs.Plain.{Token, Assignment}
use Rattle.just_syntax.specs.Lists.{IsIn}
use Rattle.just_value.specs.Value.{Value}
use Rattle.just_value.specs.Frames.{Frames, bound_innermost}
use Rattle.just_host.specs.Interaction.{Begins, Binds, Tree, bind, gives, note}
use Rattle.just_meaning.specs.Module.{Closing, Module, bound_in, run, turn}

-- the turn of an assignment, by whether it is taken and the tree of its value
abbrev pub turn_by : Module → Frames → Assignment → Bool → Tree Value → Tree Frames
turn_by m frames a taken value =
    if taken then note (Begins a.number) (bind value (λ v. note (Binds a.number v) (gives (bound_innermost frames (bound_in m a v))))) else gives frames

pub same_run : (closing other : Closing) (m w : Module) (names : List Token)
    → ((t : Token) → IsIn names t → (frames : Frames) → turn closing m frames t ≡ turn other w frames t) → (frames : Frames)
    → run closing m frames names ≡ run other w frames names
same_run closing other m w [] same frames = refl
same_run closing other m w (t ∷ left) same frames =
    λ i. bind (same t (inl refl) frames i) (λ next. same_run closing other m w left (λ u among. same u (inr among)) next i)
