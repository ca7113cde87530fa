-- Texts split into pieces.
use Rattle.std.specs.Prelude.{◌≡◌, ℕ, zero, suc, ◌-◌, ◌<◌, ◌==◌, Bool, not, if◌then◌else◌, List, [], ◌∷◌, length, map}
use Rattle.std.specs.Prelude.{filter, nat_eq, chars, encode_utf8, encode_utf8_all}
use Rattle.std.specs.Char.{is_whitespace}
use Rattle.std.specs.List.{All, starts_with, join_by, onto_first, slice_split}
use Rattle.std.specs.Str.Iter.{HasSubslice}
use Rattle.just_syntax.specs.Plain.{Text}

-- whether a piece is not empty
abbrev pub is_filled : Text → Bool
is_filled piece = not (length piece == 0)

-- the pieces between white space that are not empty, from characters
abbrev pub words_in : List ℕ → List Text
words_in characters = map encode_utf8_all (filter is_filled (slice_split is_whitespace characters))

-- the words of a text: the pieces between characters of the property White_Space that are not empty
unfoldable pub words : Text → List Text
words text = words_in (chars text)

-- the characters of a text
abbrev pub characters : Text → List Text
characters text = map encode_utf8 (chars text)

-- the pieces of a text between the occurrences of a separator, after the first `left` bytes are skipped
abbrev pub pieces_after : Text → ℕ → Text → List Text
pieces_after separator left [] = [] ∷ []
pieces_after separator (suc left) (b ∷ bs) = pieces_after separator left bs
pieces_after separator zero (b ∷ bs) =
    if starts_with nat_eq (b ∷ bs) separator
    then [] ∷ pieces_after separator (length separator - 1) bs
    else onto_first b (pieces_after separator zero bs)

-- the pieces between the leftmost occurrences of a separator that do not overlap
unfoldable pub pieces : Text → Text → List Text
pieces separator text = pieces_after separator 0 text

-- the pieces between the occurrences of a separator; for an empty one, the characters
abbrev pub split : Text → Text → List Text
split text separator = if length separator == 0 then characters text else pieces separator text

-- the pieces joined by the separator are the original text
abbrev pub PiecesGiveTextBack : Type 0
PiecesGiveTextBack =
    (separator text : Text) → 0 < length separator → join_by (λ piece. piece) separator (pieces separator text) ≡ text

-- no piece contains the separator
abbrev pub NoPieceHoldsSeparator : Type 0
NoPieceHoldsSeparator = (separator text : Text) → 0 < length separator
    → All (λ piece. ¬ (HasSubslice piece separator)) (pieces separator text)
