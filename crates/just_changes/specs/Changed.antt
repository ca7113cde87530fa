-- What an edit leaves unchanged.
use Rattle.std.specs.Prelude.{◌≡◌, ◌≢◌, ℕ, Contains, List, [], ◌∷◌, map}
use Rattle.std.specs.HashMap.{HashMap}
use Rattle.std.specs.declared.string.String.{String}
use Rattle.just_syntax.specs.View.{assignment_view, text_numbered}
use Rattle.just_value.specs.Frames.{Frames}
use Rattle.just_value.specs.Outcome.{Outcome, Stopped}
use Rattle.just_host.specs.declared.justfile.Justfile.{Justfile}
use Rattle.just_host.specs.Interaction.{Event, Path, freely}
use Rattle.just_meaning.specs.Blocks.{Block, blocks_of}
use Rattle.just_meaning.specs.Module.{Module, run, lexically, IsResolvedModule}
use Rattle.just_meaning.specs.View.{functions_view}
use Rattle.just_soundness.specs.Laws.{AreAnsweredAlike, AreSame}

-- A module that a run over this file with these overrides may have. Its order, its settings and all else are free.
pub record IsOver {A S : Type 0} (justfile : Justfile) (given : HashMap ℕ (String A) S) (m : Module) : Type 0 where
  pub assignments : m.assignments.all ≡ map assignment_view justfile.assignments
  pub functions : m.program.functions ≡ functions_view justfile
  pub overrides : (n : ℕ) → m.overrides n ≡ text_numbered given n

-- Two runs agree on a variable that both reach and that neither is stopped in: they give it the same value or refusal,
-- by the same questions. The runs are of two resolved modules in one outer scope, with the same fixed context and
-- limit. Whatever both ask, frames aside, must be answered alike.
abbrev pub AreAlikeAt : Module → Module → Frames → ℕ → Type 0
AreAlikeAt m w outer n = (es fs : List Event) (o p : Outcome Frames)
    → m.program.fixed ≡ w.program.fixed → m.limit ≡ w.limit → IsResolvedModule m outer → IsResolvedModule w outer
    → Path freely (run lexically m ([] ∷ outer) m.assignments.order) es o
    → Path freely (run lexically w ([] ∷ outer) w.assignments.order) fs p → AreAnsweredAlike es fs
    → (b c : Block) → Contains (blocks_of es o) b → Contains (blocks_of fs p) c → b.number ≡ n → c.number ≡ n
    → b.outcome ≢ Stopped → c.outcome ≢ Stopped → (b.outcome ≡ c.outcome) × AreSame b.events c.events
