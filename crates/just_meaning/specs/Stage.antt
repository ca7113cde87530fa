-- What a module's assignments mean before any run: which variables are settled, and which stay open.
use Rattle.std.specs.Prelude.{ℕ, Bool, false, ◌&&◌, ◌||◌, not, List, [], ◌∷◌, ◌++◌, Option, Some, None, nat_eq}
use Rattle.std.specs.Prelude.{if◌then◌else◌}
use Rattle.std.specs.Option.{is_some}
use Rattle.just_syntax.specs.Plain.{Text, Token, Expr, Assignment}
use Rattle.just_value.specs.Value.{Value}
use Rattle.just_value.specs.Frames.{Bound, Frames, innermost, bound_innermost}
use Rattle.just_value.specs.Refusal.{Const, Internal}
use Rattle.just_value.specs.Outcome.{Outcome, Gave, Refused, Stopped, UnlessStopped, and_then}
use Rattle.just_host.specs.Interaction.{Tree}
use Rattle.just_meaning.specs.Assignments.{Assignments, assignment_at}
use Rattle.just_meaning.specs.Constant.{constant, nowhere}
use Rattle.just_meaning.specs.Messages.{unknown_assignment_text}
use Rattle.just_meaning.specs.Meaning.{AtLimit, eval}
use Rattle.just_meaning.specs.Module.{bound_of, or_override, situation_at}

-- the inputs of a const stage besides its starting point
pub record Constants : Type 0 where
  pub assignments : Assignments
  pub overrides : ℕ → Option Text

-- the state of a const stage: whether lists are on, the frames with the settled values so far, and the open numbers
pub record StageState : Type 0 where
  pub lists : Bool
  pub frames : Frames
  pub is_open : ℕ → Bool

-- nothing is settled, and nothing is open
abbrev pub at_start : Bool → Frames → StageState
at_start lists outer = record { lists = lists; frames = [] ∷ outer; is_open = λ n. false }

-- one more number is open
abbrev pub with_open : StageState → ℕ → StageState
with_open s n = record { lists = s.lists; frames = s.frames; is_open = λ m. nat_eq m n || s.is_open m }

-- one more number is settled
abbrev pub with_settled : StageState → Bound → StageState
with_settled s b = record { lists = s.lists; frames = bound_innermost s.frames b; is_open = s.is_open }

-- What an expression means without a context: its usual tree, with nothing to call.
abbrev pub const_meaning : StageState → Expr → Tree Value
const_meaning s e = eval nowhere AtLimit (situation_at s.lists s.frames) e

-- The outcome of an expression before any run. It is refused where it would enter a call, run a command or read an open
-- number.
abbrev pub const_value : StageState → Expr → Outcome Value
const_value s e = constant s.is_open (const_meaning s e)

-- the outcome of an assignment: an override is one element; without one the expression is evaluated
abbrev pub const_assigned : Constants → StageState → Assignment → Outcome Value
const_assigned m s a = constant s.is_open (or_override (m.overrides a.number) (const_meaning s a.value))

-- the assignment is evaluated: it is referenced, and it is neither bound nor open
abbrev pub is_due : Constants → StageState → Assignment → Bool
is_due m s a =
    m.assignments.referenced a.number && (not (is_some (innermost a.number s.frames)) && not (s.is_open a.number))

-- The state after an assignment with this outcome. A value settles it, and a refusal of the const rules opens it. Any
-- other refusal ends the stage.
abbrev pub after_outcome : StageState → Assignment → Outcome Value → Outcome StageState
after_outcome s a (Gave v) = Gave (with_settled s (bound_of false a v))
after_outcome s a (Refused (Const c)) = Gave (with_open s a.number)
after_outcome s a (Refused r) = Refused r
after_outcome s a Stopped = Stopped

-- the state after a name: that of no assignment is refused, and an assignment that is not evaluated changes nothing
abbrev pub after_assignment : Constants → StageState → Token → Option Assignment → Outcome StageState
after_assignment m s t None = Refused (Internal (unknown_assignment_text t.lexeme) t)
after_assignment m s t (Some a) = if is_due m s a then after_outcome s a (const_assigned m s a) else Gave s

-- a const stage over the assignments with these names: the state at the end, or the refusal that ends it
abbrev pub stage : Constants → StageState → List Token → Outcome StageState
stage m s [] = Gave s
stage m s (t ∷ left) =
    and_then (after_assignment m s t (assignment_at m.assignments t.lexeme)) (λ next. stage m next left)

-- one assignment that was evaluated: its number and its outcome
pub record Found : Type 0 where
  pub number : ℕ
  pub outcome : Outcome Value

-- what is found for an assignment: its outcome, if it is evaluated
abbrev pub found_here : Constants → StageState → Option Assignment → List Found
found_here m s None = []
found_here m s (Some a) = if is_due m s a then record { number = a.number; outcome = const_assigned m s a } ∷ [] else []

-- what is found from the state on, if there is one
abbrev pub found_later : Outcome StageState → (StageState → List Found) → List Found
found_later (Gave s) go = go s
found_later _ go = []

-- what a const stage finds: the outcome of each assignment that it evaluates, in their order
abbrev pub stage_found : Constants → StageState → List Token → List Found
stage_found m s [] = []
stage_found m s (t ∷ left) = let a = assignment_at m.assignments t.lexeme in
    found_here m s a ++ found_later (after_assignment m s t a) (λ next. stage_found m next left)

-- A const stage over these names ends with this outcome. If memory runs out, it may stop at any point.
pub record Staged (m : Constants) (s : StageState) (names : List Token) (o : Outcome StageState) : Type 0 where
  pub ends : UnlessStopped o (stage m s names)
