-- Evaluation reaches no more than what is listed: expressions, and runs over the assignments of a module.
use Rattle.std.proofs.Common.{◌≡◌, ◌⊎◌, inl, inr, ◌-◌, Bool, true, false, ◌&&◌, not, cond, if◌then◌else◌, List, [], ◌∷◌, Option, Some, None, refl, subst, sym}
use Rattle.std.specs.Option.{is_some}
use Rattle.std.specs.Str.{bytes_eq}
use Rattle.just_syntax.proofs.Lists.{each_in}
use Rattle.just_syntax.specs.Plain.{Assignment, Expr, Text, Token}
use Rattle.just_syntax.specs.Keyed.{value_at}
use Rattle.just_syntax.specs.Lists.{IsIn}
use Rattle.just_value.specs.Frames.{Bound, Frames, innermost, value_in}
use Rattle.just_value.specs.Outcome.{Outcome}
use Rattle.just_value.specs.Value.{Value}
use Rattle.just_host.specs.Interaction as note
use Rattle.just_host.specs.Interaction.{Asked, Event, Noted, Path, freely, gives}
use Rattle.just_host.specs.Question.{Question}
use Rattle.just_builtins.specs.Shape.{builtin_of}
use Rattle.just_meaning.specs.Meaning.{Deeper, Program, Situation, eval}
use Rattle.just_meaning.specs.Assignments.{assignment_at}
use Rattle.just_meaning.specs.Module.{Closing, Module, assigned, dynamically, evaluated, lexically, or_override, run, situation_at, turn, turn_of}
use Rattle.just_reach.specs.Law.{ByBuiltIn, ByCommand, ComesFrom, ComesFromRun, Dynamically, IsScoped, Lexically, MayAsk, ReachesNoMore}
use Rattle.just_reach.specs.Asking.{IsCommand, may_ask, may_run_command}
use Rattle.just_reach.specs.Member.{PlainMember}
use Rattle.just_reach.specs.Reached.{IsReached, IsReachedInRun}
use Rattle.just_reach.proofs.Asking.{IsAskedBy, IsQuestion, built_in_asks}
use Rattle.just_reach.proofs.Recipe.{line_reaches, parameters_reach}
use Rattle.just_reach.proofs.Covered.{scoped_covered}
use Rattle.just_reach.proofs.Reaching.{closed, closed_in_run}
use Rattle.just_interaction.proofs.Events.{AllEvents, events_alike, events_bind, events_path}

expression_reaches : (c : Program) (d : Deeper) → IsScoped c d → (s : Situation) (e : Expr) (es : List Event) (o : Outcome Value)
    → Path freely (eval c d s e) es o → (x : Event) → IsIn es x → ComesFrom c s.environment (IsReached c.functions e) x
expression_reaches c d scoped s e es o path x i =
    each_in (ComesFrom c s.environment (IsReached c.functions e)) es (events_path (ComesFrom c s.environment (IsReached c.functions e)) path
    (scoped_covered c s.environment (IsReached c.functions e) (closed c.functions e) d scoped s refl e (λ y occurs. inl occurs))) x i

-- ---- runs

-- the assignment with a name is one of them
assignment_in : (assignments : List Assignment) (name : Text) (a : Assignment) → value_at (λ b. b.name.lexeme) name assignments ≡ Some a → IsIn assignments a
assignment_in [] name a found = absurd (cc)
assignment_in (b ∷ bs) name a found = by (bytes_eq name b.name.lexeme) found (assignment_in bs name a)
  where
    by : (t : Bool) → cond t (Some b) (value_at (λ b. b.name.lexeme) name bs) ≡ Some a → (value_at (λ b. b.name.lexeme) name bs ≡ Some a → IsIn bs a)
        → IsIn (b ∷ bs) a
    by true found later = inl (cc)
    by false found later = inr (later found)

-- the scoping discipline is lexical or dynamic at each assignment
abbrev IsScoping : Closing → Type 0
IsScoping closing = (m : Module) (frames : Frames) → IsScoped m.program (closing m frames)

is_scoping : (closing : Closing) → (closing ≡ lexically) ⊎ (closing ≡ dynamically) → IsScoping closing
is_scoping closing (inl is) = subst IsScoping (sym is) (λ m frames. Lexically (value_in frames) (m.limit - 1))
is_scoping closing (inr is) = subst IsScoping (sym is) (λ m frames. Dynamically (m.limit - 1))

module _ (closing : Closing) (scoping : IsScoping closing) (m : Module) where
  abbrev ReachedInRun : PlainMember → Type 0
  ReachedInRun = IsReachedInRun m.program.functions m.assignments.all m.assignments.referenced

  abbrev Comes : Event → Type 0
  Comes = ComesFrom m.program [] ReachedInRun

  value_covered : (frames : Frames) (a : Assignment) → IsIn m.assignments.all a → m.assignments.referenced a.number ≡ true
      → AllEvents Comes (assigned closing m frames a)
  value_covered frames a among referenced = by (m.overrides a.number)
    where
      by : (o : Option Text) → AllEvents Comes (or_override o (eval m.program (closing m frames) (situation_at m.program.fixed.settings.lists frames) a.value))
      by (Some text) = tt
      by None = scoped_covered m.program [] ReachedInRun (closed_in_run m.program.functions m.assignments.all m.assignments.referenced) (closing m frames)
          (scoping m frames) (situation_at m.program.fixed.settings.lists frames) refl a.value
          (λ y occurs. record { assignment = a; among = among; referenced = referenced; reached = inl occurs })

  -- the same with the marks
  abbrev ComesOrMarks : Event → Type 0
  ComesOrMarks = ComesFromRun m.program ReachedInRun

  or_marks : (x : Event) → Comes x → ComesOrMarks x
  or_marks (Noted (note.Begins n)) h = tt
  or_marks (Noted (note.Binds n v)) h = tt
  or_marks x h = h

  evaluated_covered : (frames : Frames) (a : Assignment) → IsIn m.assignments.all a → m.assignments.referenced a.number ≡ true
      → AllEvents ComesOrMarks (evaluated closing m frames a)
  evaluated_covered frames a among referenced = (
    tt,
    events_bind ComesOrMarks (assigned closing m frames a) _
        (events_alike ComesOrMarks Comes or_marks (assigned closing m frames a) (value_covered frames a among referenced)) (λ v. (tt, tt)),
  )

  turn_covered : (frames : Frames) (t : Token) (x : Option Assignment) → assignment_at m.assignments t.lexeme ≡ x
      → AllEvents ComesOrMarks (turn_of closing m frames t x)
  turn_covered frames t None found = tt
  turn_covered frames t (Some a) found = by (m.assignments.referenced a.number) refl (innermost a.number frames)
    where
      by : (r : Bool) → m.assignments.referenced a.number ≡ r → (b : Option Bound)
          → AllEvents ComesOrMarks (if r && not (is_some b) then evaluated closing m frames a else gives frames)
      by false e b = tt
      by true e (Some b) = tt
      by true e None = evaluated_covered frames a (assignment_in m.assignments.all t.lexeme a found) e

  run_covered : (frames : Frames) (names : List Token) → AllEvents ComesOrMarks (run closing m frames names)
  run_covered frames [] = tt
  run_covered frames (t ∷ left) =
      events_bind ComesOrMarks (turn closing m frames t) _ (turn_covered frames t (assignment_at m.assignments t.lexeme) refl)
      (λ next. run_covered next left)

-- ---- questions

member_asks : (c : Program) (environment : List (Text × Text)) (q : Question) {m : PlainMember} → MayAsk c environment q m
    → (may_ask m ≡ true) × (IsCommand q.blind → may_run_command m ≡ true)
member_asks c environment q (ByCommand t text shown on is) = (refl, λ command. refl)
member_asks c environment q (ByBuiltIn t f s vs same asked) =
    each_in (IsQuestion (IsAskedBy (builtin_of f))) asked.events
    (events_path (IsQuestion (IsAskedBy (builtin_of f))) asked.path (built_in_asks c s t f vs)) (Asked q asked.answer) asked.asked

pub reaches_no_more : ReachesNoMore
reaches_no_more = record {
  expressions = expression_reaches;
  lines = line_reaches;
  parameters = parameters_reach;
  questions = λ c environment q m h. member_asks c environment q h;
  runs = λ closing either m frames names es o path x i.
      let comes = ComesFromRun m.program (IsReachedInRun m.program.functions m.assignments.all m.assignments.referenced) in
      each_in comes es (events_path comes path (run_covered closing (is_scoping closing either) m frames names)) x i;
}
