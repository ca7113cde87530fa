-- The arguments of a call.
use Rattle.std.specs.Prelude.{◌≡◌, ℕ, ◌≤◌, ◌<◌, true, List, [], ◌∷◌, Option, Some, None, option_map, unwrap_or, length}
use Rattle.std.specs.Prelude.{slice_get}
use Rattle.std.specs.Borrow.{Bor}
use Rattle.just_syntax.specs.Plain.{Text}
use Rattle.just_value.specs.Value.{Value}
use Rattle.just_builtins.specs.declared.function.Function.{Function}
use Rattle.just_builtins.specs.Shape.{fewest_arguments, most_arguments, is_text}

-- the first element
abbrev pub first : Value → Text
first [] = []
first (text ∷ texts) = text

-- the argument at a position, from 0
abbrev pub argument_at : List Value → ℕ → Value
argument_at vs i = unwrap_or (slice_get vs i) []

-- the text at a position: its one element
abbrev pub text_at : List Value → ℕ → Text
text_at vs i = first (argument_at vs i)

-- the text at a position, if there is one
abbrev pub text_given : List Value → ℕ → Option Text
text_given vs i = option_map first (slice_get vs i)

-- the arguments for an optional text
abbrev pub texts_given : Option (Bor Text) → List Value
texts_given (Some text) = (text.now ∷ []) ∷ []
texts_given None = []

-- the arguments for an optional value
abbrev pub values_given : Option (Bor Value) → List Value
values_given (Some value) = value.now ∷ []
values_given None = []

-- each argument has one element
abbrev pub HasOneEach : List Value → Type 0
HasOneEach vs = (i : ℕ) → i < length vs → length (argument_at vs i) ≡ 1

-- a function may have this many arguments
abbrev pub IsExpected : Function → ℕ → Type 0
IsExpected f n = (fewest_arguments f ≤ n) × (n ≤ most_arguments f)

-- each argument at the position of a text has one element
abbrev pub HasTexts : Function → List Value → Type 0
HasTexts f vs = (i : ℕ) → i < length vs → is_text f i ≡ true → length (argument_at vs i) ≡ 1
