-- Words in a sentence.
use Rattle.std.specs.Prelude.{ℕ, ◌+◌, ◌==◌, ◌++◌, List, [], ◌∷◌, length, Option, Some, option_map, option_and_then}
use Rattle.std.specs.Prelude.{codes, if◌then◌else◌}
use Rattle.just_syntax.specs.Plain.{Text}

-- the text before the word at an index, of a given number of words: the conjunction before the last, and a comma before
-- all but the first of more than two
abbrev pub before : Text → ℕ → ℕ → Text
before conjunction count at =
    if at == 0 then []
    else (if count == 2 then (codes " " ++ conjunction) ++ codes " "
    else (if at + 1 == count then (codes ", " ++ conjunction) ++ codes " "
    else codes ", "))

-- the words from an index on, of a given number of words
abbrev pub listed_from : Text → ℕ → ℕ → List Text → Text
listed_from conjunction count at [] = []
listed_from conjunction count at (word ∷ words) =
    (before conjunction count at ++ word) ++ listed_from conjunction count (at + 1) words

-- nothing, `a`, `a or b`, `a, b, or c`
abbrev pub listed : Text → List Text → Text
listed conjunction words = listed_from conjunction (length words) 0 words

-- what all items write, if the output of each is specified
abbrev pub outputs : {T : Type 0} → (T → Option Text) → List T → Option (List Text)
outputs output [] = Some []
outputs output (item ∷ items) =
    option_and_then (λ text. option_map (λ texts. text ∷ texts) (outputs output items)) (output item)
