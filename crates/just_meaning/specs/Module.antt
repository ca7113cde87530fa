-- What a run over a module's assignments means.
use Rattle.std.specs.Prelude.{ℕ, Bool, false, ◌&&◌, ◌||◌, ◌-◌, not, List, [], ◌∷◌, map, Option, Some, None}
use Rattle.std.specs.Prelude.{if◌then◌else◌}
use Rattle.std.specs.Option.{is_some}
use Rattle.just_syntax.specs.Plain.{Text, Token, Assignment, Expr, StringLiteral}
use Rattle.just_value.specs.Value.{Value}
use Rattle.just_value.specs.Frames.{Bound, Frames, innermost, value_in, bound_innermost}
use Rattle.just_value.specs.Refusal.{Internal}
use Rattle.just_host.specs.Interaction.{Begins, Binds, Tree, bind, note, gives, refuses}
use Rattle.just_meaning.specs.Assignments.{Assignments, assignment_at}
use Rattle.just_meaning.specs.Messages.{unknown_assignment_text}
use Rattle.just_meaning.specs.Meaning.{Program, Situation, Deeper, eval}
use Rattle.just_meaning.specs.Closings.{lexical, dynamic}
use Rattle.just_meaning.specs.Resolved.{IsResolved}

-- the inputs of a run besides its frames
pub record Module : Type 0 where
  pub program : Program
  pub assignments : Assignments
  pub limit : ℕ
  pub overrides : ℕ → Option Text

-- an assignment reads the bindings so far; a called body's frame is put on all of them
abbrev pub situation_at : Bool → Frames → Situation
situation_at lists frames = record {
  names = value_in frames;
  environment = [];
  recipe = None;
  is_dependency = false;
  lists = lists;
  shown = frames;
  below = frames;
}

-- the binding of an assignment
abbrev pub bound_of : Bool → Assignment → Value → Bound
bound_of export a v = record {
  attributes = [];
  eager = a.eager;
  export = a.export || export;
  file_depth = 0;
  name = a.name;
  number = a.number;
  prelude = false;
  private = a.private;
  value = v;
}

-- the binding of an assignment of a module
abbrev pub bound_in : Module → Assignment → Value → Bound
bound_in m = bound_of m.program.fixed.settings.export

-- what evaluation of the module's assignments reads is resolved
abbrev pub IsResolvedModule : Module → Frames → Type 0
IsResolvedModule m = IsResolved m.program.functions m.assignments

-- an override, as a literal, in place of the expression
abbrev pub overridden : Option Text → Expr → Expr
overridden (Some text) e = StringLiteral (record { cooked = text; lexeme = []; indented = false })
overridden None e = e

abbrev pub with_override : (ℕ → Option Text) → Assignment → Assignment
with_override overrides a = record a { value = overridden (overrides a.number) a.value }

-- the assignments with the overrides in place of the expressions that they override
abbrev pub with_overrides : (ℕ → Option Text) → Assignments → Assignments
with_overrides overrides assignments = record assignments { all = map (with_override overrides) assignments.all }

-- The same, but for the expressions of overridden assignments, which a run does not evaluate.
abbrev pub IsResolvedRun : Module → Frames → Type 0
IsResolvedRun m = IsResolved m.program.functions (with_overrides m.overrides m.assignments)

-- an override is one element; without one the expression is evaluated
abbrev pub or_override : Option Text → Tree Value → Tree Value
or_override (Some text) t = gives (text ∷ [])
or_override None t = t

-- A scoping discipline: what a call may still do, by the frames at its assignment.
abbrev pub Closing : Type 0
Closing = Module → Frames → Deeper

-- lexical scope: a body reads its own parameters and the values bound so far
abbrev pub lexically : Closing
lexically m frames = lexical m.program (value_in frames) (m.limit - 1)

-- dynamic scope: below its own parameters a body reads the frames that its own is put on
abbrev pub dynamically : Closing
dynamically m frames = dynamic m.program (m.limit - 1)

-- the value of an assignment, from the frames so far
abbrev pub assigned : Closing → Module → Frames → Assignment → Tree Value
assigned closing m frames a =
    or_override (m.overrides a.number)
    (eval m.program (closing m frames) (situation_at m.program.fixed.settings.lists frames) a.value)

-- an assignment is taken if it is referenced and no frame binds its number
abbrev pub is_taken : Module → Frames → Assignment → Bool
is_taken m frames a = m.assignments.referenced a.number && not (is_some (innermost a.number frames))

-- An assignment is evaluated, and its value is bound. Two notes mark where this begins and ends.
abbrev pub evaluated : Closing → Module → Frames → Assignment → Tree Frames
evaluated closing m frames a =
    note (Begins a.number) (bind (assigned closing m frames a)
    (λ v. note (Binds a.number v) (gives (bound_innermost frames (bound_in m a v)))))

-- the turn of a name: that of no assignment is refused, and an assignment that is not taken changes nothing
abbrev pub turn_of : Closing → Module → Frames → Token → Option Assignment → Tree Frames
turn_of closing m frames t None = refuses (Internal (unknown_assignment_text t.lexeme) t)
turn_of closing m frames t (Some a) = if is_taken m frames a then evaluated closing m frames a else gives frames

abbrev pub turn : Closing → Module → Frames → Token → Tree Frames
turn closing m frames t = turn_of closing m frames t (assignment_at m.assignments t.lexeme)

-- a run of the assignments with these names from these frames: it gives the frames at the end
abbrev pub run : Closing → Module → Frames → List Token → Tree Frames
run closing m frames [] = gives frames
run closing m frames (t ∷ left) = bind (turn closing m frames t) (λ next. run closing m next left)
