-- The output for a case that is evaluated in two runs, name by name.
use Rattle.std.specs.Prelude.{◌≡◌, ◌↔◌, ℕ, Bool, true, false, IsTrue, List, [], ◌∷◌, ◌++◌, ◌&&◌, drop, length, map}
use Rattle.std.specs.Prelude.{nat_eq, Option, Some, None, if◌then◌else◌, codes}
use Rattle.std.specs.List.{flat_map, list_all}
use Rattle.std.specs.Map.{values_of}
use Rattle.std.specs.Option.{option_eq}
use Rattle.std.specs.Str.{bytes_eq}
use Rattle.just_syntax.specs.Plain.{Text, Token}
use Rattle.just_value.specs.Frames.{Bound, Frames, bound_at, bound_innermost, own_frame}
use Rattle.just_value.specs.Outcome.{Outcome, Gave, Refused, Stopped, and_then, without_value}
use Rattle.just_value.specs.Refusal.{Refusal}
use Rattle.just_value.specs.Value.{is_same}
use Rattle.just_host.specs.Recorded.{Kept}
use Rattle.just_host.specs.Interaction.{Behaves, Step, freely, unchecked}
use Rattle.just_case_reader.specs.Case.{Case}
use Rattle.just_meaning.specs.Module.{Closing, Module, run, dynamically, lexically, IsResolvedModule}
use Rattle.just_script.specs.Script.{Script}
use Rattle.just_bench.specs.Printed.{with_newline, order_line, question_lines, refusal_line}
use Rattle.just_bench.specs.Hosts.{case_script}
use Rattle.just_bench.specs.Run.{recording, unresolved_line}
use Rattle.just_bench.specs.Module.{case_module}
use Rattle.just_bench.specs.Taken.{taken_in}

-- ---- one name

-- a module with this order of assignments
abbrev pub in_order : Module → List Token → Module
in_order m order = record m { assignments = record m.assignments { order = order } }

-- frames with some bindings added in turn
abbrev pub grown : Frames → List Bound → Frames
grown frames [] = frames
grown frames (b ∷ bs) = grown (bound_innermost frames b) bs

-- A module is run in a scope on these frames, and its bindings are added to them.
pub record Extends (closing : Closing) {S : Type 0} (step : Step S) (old : S) (m : Module) (frames : Frames)
    (outcome : Outcome Frames) (new : S) : Type 0 where
  pub given : Outcome Frames
  pub ran : Behaves freely step unchecked old (run closing m ([] ∷ frames) m.assignments.order) given new
  pub bound : outcome ≡ and_then given (λ own. Gave (grown frames (values_of (own_frame own))))

-- ---- a name-by-name run

-- a name that was evaluated, and the questions asked for it
pub record Turn : Type 0 where
  pub name : Token
  pub asked : List Kept

-- the questions of a state after those of an earlier one
abbrev pub asked_since : {S : Type 0} → S × List Kept → S × List Kept → List Kept
asked_since old new = drop (length old.1) new.1

-- a name that was evaluated between two states
abbrev pub turn_between : {S : Type 0} → Token → S × List Kept → S × List Kept → Turn
turn_between t old new = record { name = t; asked = asked_since old new }

-- The names of an order are evaluated in turn, starting from some frames: each in a run of its own, on the frames that
-- the names before it left. A refusal ends it.
pub data Turns (closing : Closing) {S : Type 0} (step : Step S) (m : Module) : S × List Kept → Frames → List Token
    → List Turn → Outcome Frames → S × List Kept → Type 0 where
  Finished : {h : S × List Kept} {frames : Frames} → Turns closing step m h frames [] [] (Gave frames) h
  Goes : {h mid new : S × List Kept} {frames more : Frames} {t : Token} {left : List Token} {turns : List Turn}
      {o : Outcome Frames} → Extends closing (recording step) h (in_order m (t ∷ [])) frames (Gave more) mid
      → Turns closing step m mid more left turns o new
      → Turns closing step m h frames (t ∷ left) (turn_between t h mid ∷ turns) o new
  Breaks : {h new : S × List Kept} {frames : Frames} {t : Token} {left : List Token} (r : Option Refusal)
      → Extends closing (recording step) h (in_order m (t ∷ [])) frames (without_value r) new
      → Turns closing step m h frames (t ∷ left) (turn_between t h new ∷ []) (without_value r) new

-- ---- its output

-- the questions asked for a variable
pub record PrintedBlock : Type 0 where
  pub number : ℕ
  pub name : Token
  pub asked : List Kept

-- the number of the next of some variables, if it has this name
abbrev pub next_number : List (Token × ℕ) → Token → Option ℕ
next_number [] t = None
next_number (v ∷ vs) t = if bytes_eq v.0.lexeme t.lexeme then Some v.1 else None

-- a turn is a block if it has a number
abbrev pub block_of : Turn → Option ℕ → List PrintedBlock
block_of turn None = []
block_of turn (Some n) = record { number = n; name = turn.name; asked = turn.asked } ∷ []

-- the remaining variables after a turn: without the first, if the turn has its number
abbrev pub still_coming : List (Token × ℕ) → Option ℕ → List (Token × ℕ)
still_coming coming None = coming
still_coming coming (Some n) = drop 1 coming

-- the blocks of the remaining variables, each at the next turn of its name
abbrev pub blocks_in : List Turn → List (Token × ℕ) → List PrintedBlock
blocks_in [] coming = []
blocks_in (turn ∷ turns) coming =
    block_of turn (next_number coming turn.name) ++ blocks_in turns (still_coming coming (next_number coming turn.name))

-- a variable, and a line for each of its questions
abbrev pub block_lines : PrintedBlock → Text
block_lines b = with_newline (codes "block " ++ b.name.lexeme) ++ question_lines b.asked

-- the reason for the end, if it was refused
abbrev pub end_line : Outcome Frames → Text
end_line (Gave frames) = []
end_line (Refused r) = refusal_line (Some r)
end_line Stopped = refusal_line None

-- the lines of the questions of each variable, with those of one more
abbrev pub with_block : (ℕ → Option Text) → PrintedBlock → ℕ → Option Text
with_block asked b n = if nat_eq b.number n then Some (question_lines b.asked) else asked n

abbrev pub with_blocks : (ℕ → Option Text) → List PrintedBlock → ℕ → Option Text
with_blocks asked [] = asked
with_blocks asked (b ∷ bs) = with_blocks (with_block asked b) bs

-- the result of a run: its bindings, and the lines of the questions of each variable
pub record RunResult : Type 0 where
  pub frames : Frames
  pub asked : ℕ → Option Text

-- a refused run has no result
abbrev pub found_by : Outcome Frames → (ℕ → Option Text) → Option RunResult
found_by (Gave frames) asked = Some (record { frames = frames; asked = asked })
found_by (Refused r) asked = None
found_by Stopped asked = None

-- The names of an order are evaluated with dynamic scope (by the chain of frames). The output is the blocks of the
-- remaining variables and the reason for the end.
pub record Walks {S : Type 0} (step : Step S) (m : Module) (old : S × List Kept) (frames : Frames) (order : List Token)
    (coming : List (Token × ℕ)) (asked : ℕ → Option Text) (printed : Text) (found : Option RunResult) : Type 0 where
  pub turns : List Turn
  pub outcome : Outcome Frames
  pub new : S × List Kept
  pub walk : Turns dynamically step m old frames order turns outcome new
  pub text : printed ≡ flat_map block_lines (blocks_in turns coming) ++ end_line outcome
  pub finds : found ≡ found_by outcome (with_blocks asked (blocks_in turns coming))

abbrev pub names_of : List (Token × ℕ) → List Token
names_of = map (λ variable. variable.0)

-- A module is run in its order, name by name: always with dynamic scope (by the chain of frames), and also with lexical
-- scope if it is resolved. The output is the taken variables, followed by their blocks.
pub record OrderPrints {S : Type 0} (step : Step S) (old : S) (m : Module) (outer : Frames) (printed : Text)
    (found : Option RunResult) : Type 0 where
  pub lines : Text
  pub walks : Walks step m (old, []) ([] ∷ outer) m.assignments.order (taken_in m.assignments m.assignments.order)
      (λ n. None) lines found
  pub lexical : IsResolvedModule m outer
      → Turns lexically step m (old, []) ([] ∷ outer) m.assignments.order walks.turns walks.outcome walks.new
  pub text : printed ≡ order_line (names_of (taken_in m.assignments m.assignments.order)) ++ lines

-- ---- two runs

-- a binding of the first run, and the binding of the same number in the second, if there is one
abbrev pub is_alike : Option Text → Option Text → Bound → Option Bound → Bool
is_alike one_asked other_asked one None = true
is_alike one_asked other_asked one (Some other) =
    is_same other.value one.value && option_eq bytes_eq one_asked other_asked

-- each variable bound by both has the same value and the same questions in both
abbrev pub agree : RunResult → RunResult → Bool
agree one other =
    list_all (λ (b : Bound). is_alike (one.asked b.number) (other.asked b.number) b
    (bound_at b.number (own_frame other.frames))) (values_of (own_frame one.frames))

abbrev pub agreement_line : Bool → Text
agreement_line true = codes "same\n"
agreement_line false = codes "different\n"

-- The output of two runs: the second run follows if the first is not refused, and whether they agree if neither is.
pub data BothPrint {S : Type 0} (step : Step S) (one_host other_host : S) (first second : Module)
    (outer : Frames) : Text → ℕ → Type 0 where
  FirstRefused : {text : Text} → OrderPrints step one_host first outer text None
      → BothPrint step one_host other_host first second outer text 2
  SecondRefused : {text more : Text} {one : RunResult} → OrderPrints step one_host first outer text (Some one)
      → OrderPrints step other_host second outer more None
      → BothPrint step one_host other_host first second outer (text ++ more) 2
  Compared : {text more : Text} {one other : RunResult} → OrderPrints step one_host first outer text (Some one)
      → OrderPrints step other_host second outer more (Some other)
      → BothPrint step one_host other_host first second outer (text ++ (more ++ agreement_line (agree one other))) 0

-- the same after a line that reports whether both are resolved
pub record BothResolvedPrint {S : Type 0} (step : Step S) (one_host other_host : S) (first second : Module)
    (outer : Frames) (printed : Text) (status : ℕ) : Type 0 where
  pub resolved : Bool
  pub test : IsTrue resolved ↔ IsResolvedModule first outer × IsResolvedModule second outer
  pub lines : Text
  pub prints : BothPrint step one_host other_host first second outer lines status
  pub text : printed ≡ unresolved_line resolved ++ lines

-- A case is evaluated in two runs, in its order and then in another, each with a host that starts by the script of the
-- case.
pub record BlocksPrints {S : Type 0} (step : Step S) (Starts : Script → S → Type 0) (c : Case) (second : List Token)
    (outer : Frames) (printed : Text) (status : ℕ) : Type 0 where
  pub one_host : S
  pub other_host : S
  pub one_starts : Starts (case_script c) one_host
  pub other_starts : Starts (case_script c) other_host
  pub prints : BothResolvedPrint step one_host other_host (case_module c) (in_order (case_module c) second)
      outer printed status
