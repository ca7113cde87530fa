-- What a recipe's parameters mean: the environment that its attributes give, the positional words, and the bindings.
use Rattle.std.specs.Prelude.{◌≡◌, ◌||◌, ℕ, zero, suc, Bool, true, false, List, [], ◌∷◌, ◌++◌, length, Option, Some}
use Rattle.std.specs.Prelude.{None, nat_eq, if◌then◌else◌}
use Rattle.std.specs.List.{AllByRecursion}
use Rattle.std.specs.BTreeMap.{insert_entry}
use Rattle.std.specs.Cmp.Lexicographic.{slice_cmp}
use Rattle.std.specs.Ordering.{nat_cmp}
use Rattle.just_syntax.specs.Plain.{Text, Token, Attribute, Env, Expr, Other, Parameter, Recipe}
use Rattle.just_syntax.specs.ParameterKind.{is_variadic}
use Rattle.just_syntax.specs.StringContext.{EnvKey}
use Rattle.just_syntax.specs.declared.parameter_kind.ParameterKind.{ParameterKind}
use Rattle.just_syntax.specs.declared.parameter_kind.ParameterKind.TheVariants.{Star}
use Rattle.just_value.specs.Value.{Value, joined}
use Rattle.just_value.specs.Frames.{Bound, Frame, Frames, bound_innermost, value_in}
use Rattle.just_value.specs.Refusal.{Check, EmptyListArgument, Internal}
use Rattle.just_value.specs.Outcome.{Outcome, Gave, Refused, Stopped}
use Rattle.just_host.specs.Interaction.{Rejected, Passed, Tree, Undecided, Verdict, bind, check, done, gives, refuses}
use Rattle.just_meaning.specs.Line.{string}
use Rattle.just_meaning.specs.Meaning.{Situation}
use Rattle.just_meaning.specs.Messages.{mismatched_text}

-- what expressions mean in a situation
abbrev pub Meanings : Type 0
Meanings = Situation → Expr → Tree Value

-- ---- attributes

-- an environment with one more variable, which replaces one of the same name
abbrev pub with_variable : List (Text × Text) → Text → Value → List (Text × Text)
with_variable environment key [] = environment
with_variable environment key (x ∷ xs) = insert_entry (slice_cmp nat_cmp) environment key (joined (x ∷ xs))

-- The environment that attributes give, one after another: first the key, then the joined value. Each of them can read
-- the environment so far. A value of no element sets no variable.
abbrev pub environment : Meanings → Situation → List (Attribute × Token) → Tree (List (Text × Text))
environment means s [] = gives s.environment
environment means s ((Env key value, name) ∷ left) =
    bind (string (means s) (EnvKey name) key)
    (λ k. bind (means s value)
    (λ v. environment means (record s { environment = with_variable s.environment k v }) left))
environment means s ((Other, name) ∷ left) = environment means s left

-- ---- one parameter

abbrev pub is_star : ParameterKind → Bool
is_star Star = true
is_star _ = false

-- no element, if the parameter may have none
abbrev pub none_or_refused : Text → Parameter → Outcome Value
none_or_refused recipe p =
    if is_star p.kind || p.flag then Gave [] else Refused (EmptyListArgument p.name.lexeme recipe)

-- the value for an empty argument: the default, or no element
abbrev pub default_or_none : (Expr → Tree Value) → Text → Parameter → Option Expr → Tree Value
default_or_none means recipe p (Some e) = means e
default_or_none means recipe p None = done (none_or_refused recipe p)

-- the elements of a value, repeated this many times
abbrev pub repeated : ℕ → Value → Value
repeated zero v = []
repeated (suc n) v = v ++ repeated n v

-- the value for any other argument: the argument itself or, unless the recipe runs as a dependency, the parameter's own
-- value, once for each of the argument's elements
abbrev pub argument_or_value : (Expr → Tree Value) → Bool → Value → Option Expr → Tree Value
argument_or_value means is_dependency argument None = gives argument
argument_or_value means is_dependency argument (Some e) =
    if is_dependency then gives argument else bind (means e) (λ v. gives (repeated (length argument) v))

abbrev pub valued : (Expr → Tree Value) → Bool → Text → Parameter → Value → Tree Value
valued means is_dependency recipe p [] = default_or_none means recipe p p.default
valued means is_dependency recipe p (x ∷ xs) = argument_or_value means is_dependency (x ∷ xs) p.value

-- the outcome of a value check
abbrev pub judged : Parameter → Value → Verdict → Outcome Value
judged p v Passed = Gave v
judged p v (Rejected message) = Refused (Check p.name.lexeme message)
judged p v Undecided = Stopped

-- the value of a parameter, after the check
abbrev pub checked : (Expr → Tree Value) → Bool → Text → Parameter → Value → Tree Value
checked means is_dependency recipe p argument =
    bind (valued means is_dependency recipe p argument) (λ v. check p v (λ a. done (judged p v a)))

-- the positional words that a parameter's value gives: its elements if there may be many, else one word
abbrev pub words_of : Parameter → Value → List Text
words_of p v = if is_variadic p.kind || p.multiple then v else joined v ∷ []

-- the binding of a parameter: its value with lists, else one text
abbrev pub parameter_bound : Bool → Parameter → Value → Bound
parameter_bound lists p v = record {
  attributes = [];
  eager = false;
  export = p.export;
  file_depth = 0;
  name = p.name;
  number = p.number;
  prelude = false;
  private = false;
  value = if lists then v else joined v ∷ [];
}

-- ---- all parameters

-- the frames at the end, the positional words, and the environment
pub record Arguments : Type 0 where
  pub frames : Frames
  pub words : List Text
  pub environment : List (Text × Text)

-- a situation that reads other frames
abbrev pub seeing : Frames → Situation → Situation
seeing frames s = record s { names = value_in frames; shown = frames }

-- The parameters, one after another, with their words after those so far: each gets its value, which is checked and
-- bound. A default can read the earlier parameters.
abbrev pub bindings : Meanings → Text → Situation → List Text → List Parameter → List Value → Tree Arguments
bindings means recipe s words (p ∷ ps) (argument ∷ arguments) =
    bind (checked (means s) s.is_dependency recipe p argument)
    (λ v. bindings means recipe (seeing (bound_innermost s.shown (parameter_bound s.lists p v)) s)
    (words ++ words_of p v) ps arguments)
bindings means recipe s words _ _ = gives (record { frames = s.shown; words = words; environment = s.environment })

-- The attributes first, then the number of arguments, then the parameters.
abbrev pub parameters : Meanings → Situation → Recipe → List Parameter → List Value → Tree Arguments
parameters means s recipe ps arguments =
    bind (environment means s recipe.attributes)
    (λ e. if nat_eq (length arguments) (length ps) then bindings means recipe.name.lexeme (record s { environment = e })
    [] ps arguments else refuses (Internal mismatched_text recipe.name))

-- each value that a frame binds has one element
abbrev pub HaveOneElement : Frame → Type 0
HaveOneElement frame = AllByRecursion (λ b. length b.1.value ≡ 1) frame
