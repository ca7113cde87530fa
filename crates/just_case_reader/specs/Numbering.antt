-- The numbers of names.
use Rattle.std.specs.Prelude.{ℕ, suc, List, [], ◌∷◌, Option, Some, None, unwrap_or, if◌then◌else◌}
use Rattle.std.specs.Option.{is_some}
use Rattle.std.specs.Str.{bytes_eq}
use Rattle.just_syntax.specs.Plain.{Text, Token}
use Rattle.just_case_reader.specs.Token.{token_of}

-- the numbers of the known names, and how many there are
pub record KnownNames : Type 0 where
  pub number : Text → Option ℕ
  pub count : ℕ

-- no known names
abbrev pub no_names : KnownNames
no_names = record { number = λ name. None; count = 0 }

-- the number of a known name, or the next number for a new one
abbrev pub number_of : KnownNames → Text → ℕ
number_of names name = unwrap_or (names.number name) names.count

-- the names after this one is added
abbrev pub with_name : KnownNames → Text → KnownNames
with_name names name =
    if is_some (names.number name) then names else
    record {
      number = λ other. if bytes_eq other name then Some names.count else names.number other;
      count = suc names.count;
    }

-- the names after these are added
abbrev pub with_names : KnownNames → List Text → KnownNames
with_names names [] = names
with_names names (x ∷ xs) = with_names (with_name names x) xs

-- a list built from names and their numbers, the names being added in turn
abbrev pub with_numbers : {A : Type 0} → (Text → ℕ → A) → KnownNames → List Text → List A
with_numbers make names [] = []
with_numbers make names (x ∷ xs) = make x (number_of names x) ∷ with_numbers make (with_name names x) xs

abbrev pub numbers_of_names : KnownNames → List Text → List ℕ
numbers_of_names = with_numbers (λ name number. number)

abbrev pub parameters_with_numbers : KnownNames → List Text → List (Token × ℕ)
parameters_with_numbers = with_numbers (λ name number. (token_of name, number))
