-- The law that evaluation reaches no more than what is listed.
use Rattle.std.specs.Prelude.{◌≡◌, ◌⊎◌, ℕ, Bool, true, false, List, [], ◌++◌, Option, Some, None}
use Rattle.just_syntax.specs.Plain.{Text, Token, Expr, Fragment, Parameter, Recipe}
use Rattle.just_syntax.specs.Lists.{IsIn}
use Rattle.just_value.specs.Value.{Value, Names}
use Rattle.just_value.specs.Frames.{Frames}
use Rattle.just_value.specs.Outcome.{Outcome}
use Rattle.just_host.specs.Interaction.{Asked, Checked, Event, Note, Noted, Path, Tree, freely}
use Rattle.just_host.specs.Interaction as note
use Rattle.just_host.specs.Question.{Question, Answer, command_question}
use Rattle.just_builtins.specs.declared.function.Function as built_in
use Rattle.just_meaning.specs.Closings.{dynamic, lexical}
use Rattle.just_meaning.specs.Here.{attribute_expressions, parameter_expressions}
use Rattle.just_meaning.specs.Line.{line, line_expressions}
use Rattle.just_meaning.specs.Meaning.{Deeper, Program, Situation, built_in_call, eval}
use Rattle.just_meaning.specs.Module.{Closing, Module, run, dynamically, lexically}
use Rattle.just_meaning.specs.Parameters.{Arguments, parameters}
use Rattle.just_reach.specs.Asking.{IsCommand, may_ask, may_run_command}
use Rattle.just_reach.specs.Member.{PlainMember, BuiltIn, Call, Command, Unknown, Variable}
use Rattle.just_reach.specs.Reached.{IsReached, IsReachedByOne, IsReachedInRun}

-- the note that evaluation makes when it reaches the member, if it makes one
abbrev pub note_of : PlainMember → Option Note
note_of (BuiltIn t f) = Some (note.Entered t)
note_of (Call t) = Some (note.Entered t)
note_of (Command t text) = Some (note.Command t)
note_of (Unknown t) = Some (note.Entered t)
note_of (Variable t (Some n)) = Some (note.Read t n)
note_of (Variable t None) = None

-- the question is asked in some trace of the tree
pub record IsAskedIn {A : Type 0} (tree : Tree A) (q : Question) : Type 0 where
  pub events : List Event
  pub outcome : Outcome A
  pub path : Path freely tree events outcome
  pub answer : Answer
  pub asked : IsIn events (Asked q answer)

-- The member asks the question by itself. Either it is a command, outside of a dry run, and the question is to run it,
-- with this environment and some frames. Or it is a call of a built-in function, which asks the question in some
-- situation with this environment, given some values.
pub data MayAsk (c : Program) (environment : List (Text × Text)) (q : Question) : PlainMember → Type 0 where
  ByCommand : (t : Token) (text : Text) (shown : Frames) → c.fixed.config.dry_run ≡ false
      → q ≡ command_question c.fixed environment shown text None → MayAsk c environment q (Command t text)
  ByBuiltIn : (t : Token) (f : built_in.Function) (s : Situation) (vs : List Value) → s.environment ≡ environment
      → IsAskedIn (built_in_call c s t f vs) q → MayAsk c environment q (BuiltIn t f)

-- The event comes from a member that is reached: it is its note, or a question that it asks by itself. No value is
-- checked.
abbrev pub ComesFrom : Program → List (Text × Text) → (PlainMember → Type 0) → Event → Type 0
ComesFrom c environment reached (Noted x) = (m : PlainMember) × reached m × (note_of m ≡ Some x)
ComesFrom c environment reached (Asked q a) = (m : PlainMember) × reached m × MayAsk c environment q m
ComesFrom c environment reached (Checked p v a) = ⊥

-- The same for a recipe with these parameters. Its attributes set variables of the environment, and its parameters'
-- values are checked.
abbrev pub ComesFromRecipe : Program → List Parameter → (PlainMember → Type 0) → Event → Type 0
ComesFromRecipe c ps reached (Checked p v a) = IsIn ps p
ComesFromRecipe c ps reached x = (environment : List (Text × Text)) × ComesFrom c environment reached x

-- The same for a run, which also marks where each assignment begins and what it binds.
abbrev pub ComesFromRun : Program → (PlainMember → Type 0) → Event → Type 0
ComesFromRun c reached (Noted (note.Begins n)) = Unit {0}
ComesFromRun c reached (Noted (note.Binds n v)) = Unit {0}
ComesFromRun c reached x = ComesFrom c [] reached x

-- what a call may still do, under lexical or under dynamic scope
pub data IsScoped (c : Program) : Deeper → Type 0 where
  Lexically : (base : Names) (n : ℕ) → IsScoped c (lexical c base n)
  Dynamically : (n : ℕ) → IsScoped c (dynamic c n)

-- Each event of an evaluation comes from a member that is reached, whatever is answered and however it ends: of an
-- expression or a line in any situation, of a recipe's attributes and parameters, and of a run over a module's
-- assignments. A member asks only if `may_ask` holds, and asks to run a command only if `may_run_command` does.
pub record ReachesNoMore : Type 0 where
  pub expressions : (c : Program) (d : Deeper) → IsScoped c d → (s : Situation) (e : Expr) (es : List Event)
      (o : Outcome Value) → Path freely (eval c d s e) es o → (x : Event) → IsIn es x
      → ComesFrom c s.environment (IsReached c.functions e) x
  pub lines : (c : Program) (d : Deeper) → IsScoped c d → (s : Situation) (continued : Bool) (fragments : List Fragment)
      (es : List Event) (o : Outcome Text) → Path freely (line (eval c d s) continued fragments) es o → (x : Event)
      → IsIn es x → ComesFrom c s.environment (IsReachedByOne c.functions (line_expressions fragments)) x
  pub parameters : (c : Program) (d : Deeper) → IsScoped c d → (s : Situation) (recipe : Recipe) (ps : List Parameter)
      (arguments : List Value) (es : List Event) (o : Outcome Arguments)
      → Path freely (parameters (eval c d) s recipe ps arguments) es o → (x : Event) → IsIn es x
      → ComesFromRecipe c ps (IsReachedByOne c.functions (attribute_expressions recipe.attributes
      ++ parameter_expressions ps)) x
  pub runs : (closing : Closing) → (closing ≡ lexically) ⊎ (closing ≡ dynamically) → (m : Module) (frames : Frames)
      (names : List Token) (es : List Event) (o : Outcome Frames) → Path freely (run closing m frames names) es o
      → (x : Event) → IsIn es x
      → ComesFromRun m.program (IsReachedInRun m.program.functions m.assignments.all m.assignments.referenced) x
  pub questions : (c : Program) (environment : List (Text × Text)) (q : Question) (m : PlainMember)
      → MayAsk c environment q m → (may_ask m ≡ true) × (IsCommand q.blind → may_run_command m ≡ true)
