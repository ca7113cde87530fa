-- Names in strict order of bytes.
use Rattle.std.specs.Prelude.{Bool, true, false, List, [], ◌∷◌, ◌&&◌, nat_lt}
use Rattle.std.specs.Cmp.Lexicographic.{slice_cmp}
use Rattle.std.specs.Ordering.{is_lt, nat_cmp}
use Rattle.just_syntax.specs.Plain.{Text}

-- a name is below the first of the others, if there is one
abbrev pub is_below : Text → List Text → Bool
is_below name [] = true
is_below name (next ∷ names) = is_lt (slice_cmp nat_cmp name next)

-- each name is below the next, so there are no duplicates
abbrev pub rises : List Text → Bool
rises [] = true
rises (name ∷ names) = is_below name names && rises names

-- whether a text is below another by their first bytes alone
abbrev pub begins_below : Text → Text → Bool
begins_below text [] = false
begins_below [] (c ∷ cs) = true
begins_below (b ∷ bs) (c ∷ cs) = nat_lt b c
