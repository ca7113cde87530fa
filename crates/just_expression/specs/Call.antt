-- Calls, up to the entry of what they reach.
use Rattle.std.specs.Prelude.{◌≡◌, ℕ, suc, false, Bool, List, length, Option, Some, None}
use Rattle.just_syntax.specs.Keyed.{value_at}
use Rattle.just_syntax.specs.Plain as plain
use Rattle.just_syntax.specs.Plain.{Text, Token}
use Rattle.just_syntax.specs.View.{function_view}
use Rattle.just_syntax.specs.declared.function_definition.FunctionDefinition.{FunctionDefinition}
use Rattle.just_value.specs.Frames.{value_in}
use Rattle.just_value.specs.Refusal.{Refusal}
use Rattle.just_value.specs.Value.{Value}
use Rattle.just_host.specs.Interaction.{Tree, bind, refuses}
use Rattle.just_builtins.specs.Argument.{IsExpected}
use Rattle.just_builtins.specs.Shape.{is_text}
use Rattle.just_builtins.specs.Table.{function_named}
use Rattle.just_builtins.specs.declared.function.Function as built_in
use Rattle.just_meaning.specs.Callee as meant
use Rattle.just_meaning.specs.Closings.{dynamic, inside}
use Rattle.just_meaning.specs.Meaning.{Program, Row, Situation, as_it_is, built_in_call, called, eval, texts_of}
use Rattle.just_expression.specs.declared.callee.Callee.{Callee}
use Rattle.just_expression.specs.declared.callee.Callee.TheVariants as reached

-- what a call reaches: a built-in function, or one of the file with the number of calls that may still be pending in
-- its body
pub data Reached : Type 0 where
  BuiltIn : built_in.Function → Reached
  Defined : plain.Function → ℕ → Reached

abbrev pub reached_view : Callee → Reached
reached_view (reached.BuiltIn f) = BuiltIn f
reached_view (reached.Defined f left) = Defined (function_view f.now) left

-- whether the argument with an index must be a text
abbrev pub requires_text : Reached → ℕ → Bool
requires_text (BuiltIn f) i = is_text f i
requires_text (Defined f left) i = false

-- the function that each of its arguments is passed to
abbrev pub look : Reached → Token → ℕ → Value → Tree Value
look (BuiltIn f) t = texts_of f t
look (Defined f left) t = as_it_is

-- what it means with its arguments
abbrev pub entered : Program → Situation → Token → Reached → List Value → Tree Value
entered p s t (BuiltIn f) vs = built_in_call p s t f vs
entered p s t (Defined f left) vs = eval p (dynamic p left) (inside (value_in s.below) s f vs) f.body

-- A call with `n` arguments, of a name with this meaning, while `calls` calls may still be pending: first its arguments
-- are evaluated, and then what it reaches.
abbrev pub Enters : Program → Token → meant.Callee → ℕ → ℕ → Reached → Type 0
Enters p t c calls n r =
    (s : Situation) (row : Row) → called p t c (dynamic p calls) s n row ≡ bind (row (look r t)) (entered p s t r)

-- The call is refused before its arguments are evaluated, or memory runs out.
abbrev pub EndsBefore : Program → Token → meant.Callee → ℕ → ℕ → Option Refusal → Type 0
EndsBefore p t c calls n (Some e) = (s : Situation) (row : Row) → called p t c (dynamic p calls) s n row ≡ refuses e
EndsBefore p t c calls n None = Unit {0}

-- What is reached has this name, takes this many arguments, and leaves one call fewer.
abbrev pub Fits : List FunctionDefinition → Text → ℕ → ℕ → Callee → Type 0
Fits functions name calls n (reached.BuiltIn f) = (function_named name ≡ Some f) × IsExpected f n
Fits functions name calls n (reached.Defined f left) =
    (value_at (λ g. g.name.token.lexeme.now) name functions ≡ Some f.now) × (calls ≡ suc left)
    × (length f.now.parameters.items ≡ n)

-- it is this refusal, or memory ran out
abbrev pub RefusesWith : Option Refusal → Refusal → Type 0
RefusesWith (Some s) r = s ≡ r
RefusesWith None r = Unit {0}
