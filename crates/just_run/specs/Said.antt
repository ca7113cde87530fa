-- The messages of wrong numbers of words.
use Rattle.std.specs.Prelude.{ℕ, Option, Some, None, codes, decimal, if◌then◌else◌, nat_lt, ◌++◌, ◌==◌}
use Rattle.just_syntax.specs.OutOfMemory.{no_memory_text}
use Rattle.just_syntax.specs.Plain.{Text}
use Rattle.just_run.specs.Arguments.{Miscount}

-- the number that is required: `takes 2` and `only takes 2`, `takes at least 1`, `takes at most 3`
abbrev pub required : ℕ → ℕ → Option ℕ → Text
required found fewest None = codes "takes at least " ++ decimal fewest
required found fewest (Some most) =
    if fewest == most then (if nat_lt most found then codes "only takes " else codes "takes ") ++ decimal most
    else if nat_lt found fewest then codes "takes at least " ++ decimal fewest
    else codes "takes at most " ++ decimal most

-- the number that there is
abbrev pub counted : ℕ → Text
counted found = if found == 1 then codes "1 argument" else decimal found ++ codes " arguments"

-- `recipe build got 1 argument but takes 2`, with the recipe in backticks
abbrev pub miscount_text : Miscount → Text
miscount_text m =
    let is_required = codes " but " ++ required m.found m.fewest m.most in
    codes "recipe `" ++ (m.recipe ++ (codes "` got " ++ (counted m.found ++ is_required)))

abbrev pub argument_error_text : Option Miscount → Text
argument_error_text (Some m) = miscount_text m
argument_error_text None = no_memory_text
