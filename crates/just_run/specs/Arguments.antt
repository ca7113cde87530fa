-- How the words of a call are given to a recipe's parameters.
use Rattle.std.specs.Prelude.{ℕ, Bool, true, false, not, ◌&&◌, ◌||◌, ◌+◌, ◌==◌, List, [], ◌∷◌, Option, Some, None}
use Rattle.std.specs.Prelude.{Result, Ok, Err, is_some, if◌then◌else◌, nat_le, take, drop, length, option_map}
use Rattle.just_syntax.specs.declared.parameter_kind.ParameterKind.{ParameterKind}
use Rattle.just_syntax.specs.declared.parameter_kind.ParameterKind.TheVariants.{Singular, Plus, Star}
use Rattle.just_syntax.specs.Prelude.{is_variadic}
use Rattle.just_syntax.specs.Plain.{Text, Parameter}
use Rattle.just_value.specs.Value.{Value}

-- whether a kind of parameter may be without a word
abbrev pub takes_none : ParameterKind → Bool
takes_none Singular = false
takes_none Plus = false
takes_none Star = true

-- whether a parameter needs a word: it has no default, and may not be without a word
abbrev pub needs_word : Parameter → Bool
needs_word p = not (is_some p.default) && not (takes_none p.kind)

-- the fewest words
abbrev pub fewest : List Parameter → ℕ
fewest [] = 0
fewest (p ∷ ps) = (if needs_word p then 1 else 0) + fewest ps

-- the most words, if there is a limit
abbrev pub most : List Parameter → Option ℕ
most [] = Some 0
most (p ∷ ps) = if is_variadic p.kind then None else option_map (λ n. 1 + n) (most ps)

-- whether a number is at most the limit, if there is one
abbrev pub is_within : ℕ → Option ℕ → Bool
is_within n None = true
is_within n (Some limit) = nat_le n limit

-- how many of the words that are left a parameter takes: all if it may take more than one, else one if there is one
abbrev pub share : Parameter → ℕ → ℕ
share p left = if is_variadic p.kind || left == 0 then left else 1

-- Each parameter takes its share of the words, in order. What takes no word has the empty argument.
abbrev pub grouped : List Parameter → List Text → List Value
grouped [] words = []
grouped (p ∷ ps) words =
    let n = share p (length words) in
    take n words ∷ grouped ps (drop n words)

-- a number of words that does not fit a recipe's parameters
pub record Miscount : Type 0 where
  pub recipe : Text
  pub found : ℕ
  pub fewest : ℕ
  pub most : Option ℕ

-- the argument of each parameter, in order; refused, if there are too few or too many words
abbrev pub arguments : Text → List Parameter → List Text → Result (List Value) Miscount
arguments recipe ps words =
    if nat_le (fewest ps) (length words) && is_within (length words) (most ps)
    then Ok (grouped ps words)
    else Err (record { recipe = recipe; found = length words; fewest = fewest ps; most = most ps })
