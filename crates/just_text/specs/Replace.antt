-- Texts with the occurrences of a text replaced.
use Rattle.std.specs.Prelude.{ℕ, ◌++◌, ◌==◌, if◌then◌else◌, [], ◌∷◌, length, chars, encode_utf8}
use Rattle.std.specs.List.{flat_map, join_by}
use Rattle.just_syntax.specs.Plain.{Text}
use Rattle.just_text.specs.Split.{pieces}

-- `to` before each character of the text and at its end
abbrev pub interleaved : Text → Text → Text
interleaved text to = flat_map (λ c. to ++ encode_utf8 c) (chars text) ++ to

-- the pieces between the occurrences of `from`, joined by `to`; an empty `from` occurs before each character and at the
-- end
abbrev pub replaced : Text → Text → Text → Text
replaced text from to = if length from == 0 then interleaved text to else join_by (λ piece. piece) to (pieces from text)

-- a byte, or `to` instead of it if it is `from`
abbrev pub substituted : ℕ → Text → ℕ → Text
substituted from to b = if b == from then to else b ∷ []

-- a byte, or the byte `to` instead of it if it is `from`
abbrev pub exchanged : ℕ → ℕ → ℕ → ℕ
exchanged from to b = if b == from then to else b
