-- The output for a case that is evaluated before any run.
use Rattle.std.specs.Prelude.{◌≡◌, ◌↔◌, ℕ, Bool, IsTrue, List, [], ◌++◌, nat_eq, Option, Some, None, if◌then◌else◌}
use Rattle.std.specs.List.{flat_map, list_any}
use Rattle.just_syntax.specs.Plain.{Text, Token, Assignment}
use Rattle.just_value.specs.Frames.{Frames, value_in}
use Rattle.just_value.specs.Outcome.{Outcome, Gave, Refused, Stopped}
use Rattle.just_value.specs.Value.{Value}
use Rattle.just_case_reader.specs.Case.{Case}
use Rattle.just_meaning.specs.Resolved.{IsResolvedConst}
use Rattle.just_meaning.specs.Stage.{Constants, StageState, Staged, at_start}
use Rattle.just_bench.specs.Printed.{const_refusal_line, open_line, value_line}
use Rattle.just_bench.specs.Run.{status_of, unresolved_line}
use Rattle.just_bench.specs.Taken.{taken_in}

-- the number is that of an assignment
abbrev pub assigned_in : List Assignment → ℕ → Bool
assigned_in assignments n = list_any (λ (a : Assignment). nat_eq n a.number) assignments

-- without a set, each assigned variable is referenced
abbrev pub const_references : Option (ℕ → Bool) → List Assignment → ℕ → Bool
const_references None assignments = assigned_in assignments
const_references (Some referenced) assignments = referenced

abbrev pub case_constants : Case → Constants
case_constants c = record {
  assignments = record {
    all = c.assignments;
    order = c.evaluation_order;
    referenced = const_references c.references c.assignments;
  };
  overrides = c.overrides;
}

-- the line of a variable that has a value
abbrev pub settled_line : Token → Option Value → Text
settled_line t None = []
settled_line t (Some v) = value_line t v

-- the line of a variable: its value, or that it is open
abbrev pub variable_line : StageState → Token × ℕ → Text
variable_line s taken =
    if s.is_open taken.1 then open_line taken.0 else settled_line taken.0 (value_in s.frames taken.1)

-- the lines of the taken variables, or that of the refusal
abbrev pub stage_lines : Constants → Outcome StageState → Text
stage_lines m (Gave s) = flat_map (variable_line s) (taken_in m.assignments m.assignments.order)
stage_lines m (Refused r) = const_refusal_line (Some r)
stage_lines m Stopped = const_refusal_line None

-- The output says whether the stage is resolved, and then the state of its variables or the refusal, by the const
-- rules.
pub record ConstPrints (c : Case) (outer : Frames) (printed : Text) (status : ℕ) : Type 0 where
  pub resolved : Bool
  pub test : IsTrue resolved ↔ IsResolvedConst (case_constants c).assignments outer
  pub outcome : Outcome StageState
  pub staged : Staged (case_constants c) (at_start c.lists outer) c.evaluation_order outcome
  pub text : printed ≡ unresolved_line resolved ++ stage_lines (case_constants c) outcome
  pub ends : status ≡ status_of outcome
