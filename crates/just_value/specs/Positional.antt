-- Positional words: overrides, a search directory, arguments.
use Rattle.std.specs.Prelude.{◌≡◌, ◌↔◌, ℕ, ◌==◌, ◌||◌, Bool, ◌++◌, List, [], ◌∷◌, map, Option, Some, None, option_map}
use Rattle.std.specs.Prelude.{option_to_list, codes, if◌then◌else◌}
use Rattle.std.specs.Str.{bytes_eq}
use Rattle.just_syntax.specs.Plain.{Text}

pub record Positional : Type 0 where
  pub arguments : List Text
  pub overrides : List (Text × Text)
  pub search_directory : Option Text

-- the texts before and after the first occurrence of a byte
abbrev pub cut_at_first : ℕ → Text → Option (Text × Text)
cut_at_first c [] = None
cut_at_first c (b ∷ bs) = if b == c then Some ([], bs) else option_map (λ p. (b ∷ p.0, p.1)) (cut_at_first c bs)

-- the text up to and including the last occurrence of a byte, and the text after it
abbrev pub after_last : ℕ → ℕ → Text → Option (Text × Text) → Option (Text × Text)
after_last c b bs (Some p) = Some (b ∷ p.0, p.1)
after_last c b bs None = if b == c then Some (b ∷ [], bs) else None

abbrev pub cut_after_last : ℕ → Text → Option (Text × Text)
cut_after_last c [] = None
cut_after_last c (b ∷ bs) = after_last c b bs (cut_after_last c bs)

-- an override, cut at its first `=`
abbrev pub override_of : Text → Option (Text × Text)
override_of word = cut_at_first 61 word

-- `.` and `..`
abbrev pub is_dots : Text → Bool
is_dots word = bytes_eq word (codes ".") || bytes_eq word (codes "..")

-- a directory, up to and including the last slash, and a tail
abbrev pub directory_and_tail : Text → Option (Text × Text)
directory_and_tail word = cut_after_last 47 word

-- a tail before other words, if it is not empty
abbrev pub tail_before : Text → List Text → List Text
tail_before [] words = words
tail_before tail words = tail ∷ words

-- The words after the overrides if the first is not `.` or `..`. One with a slash is a directory and a tail.
abbrev pub with_directory : Text → List Text → Option (Text × Text) → Positional
with_directory word words (Some p) =
    record { arguments = tail_before p.1 words; overrides = []; search_directory = Some p.0 }
with_directory word words None = record { arguments = word ∷ words; overrides = []; search_directory = None }

-- the meaning of the words after the overrides
abbrev pub after_overrides : Text → List Text → Positional
after_overrides word words = if is_dots word then record {
  arguments = words;
  overrides = [];
  search_directory = Some word;
} else with_directory word words (directory_and_tail word)

-- the meaning of a word followed by others: it is an override, or the first word after the overrides
abbrev pub with_first : Text → List Text → Positional → Option (Text × Text) → Positional
with_first word words meant (Some override) =
    record {
      arguments = meant.arguments;
      overrides = override ∷ meant.overrides;
      search_directory = meant.search_directory;
    }
with_first word words meant None = after_overrides word words

-- The meaning of words: the longest prefix of words with `=` are overrides, then a directory, then arguments.
abbrev pub positional : List Text → Positional
positional [] = record { arguments = []; overrides = []; search_directory = None }
positional (word ∷ words) = with_first word words (positional words) (override_of word)

-- the words, the directory's word split into the directory and the tail, if that is not empty
abbrev pub cut_directory : Text → List Text → Option (Text × Text) → List Text
cut_directory word words (Some p) = p.0 ∷ tail_before p.1 words
cut_directory word words None = word ∷ words

abbrev pub cut_after_overrides : Text → List Text → List Text
cut_after_overrides word words =
    if is_dots word then word ∷ words else cut_directory word words (directory_and_tail word)

abbrev pub cut_first : Text → List Text → List Text → Option (Text × Text) → List Text
cut_first word words cut (Some override) = word ∷ cut
cut_first word words cut None = cut_after_overrides word words

abbrev pub cut_words : List Text → List Text
cut_words [] = []
cut_words (word ∷ words) = cut_first word words (cut_words words) (override_of word)

-- the words of a meaning: the overrides with `=` between their parts, the directory, the arguments
abbrev pub put_back : Positional → List Text
put_back p = (map (λ o. (o.0 ++ codes "=") ++ o.1) p.overrides ++ option_to_list p.search_directory) ++ p.arguments

-- the words of a meaning are the original words, except that the directory's word is split
abbrev pub KeepsWords : Type 0
KeepsWords = (words : List Text) → put_back (positional words) ≡ cut_words words

-- split words have the same meaning
abbrev pub MeansTheCut : Type 0
MeansTheCut = (words : List Text) → positional (cut_words words) ≡ positional words

-- words have the same meaning exactly if they are equal after the split
abbrev pub SameExactlyIfCutAlike : Type 0
SameExactlyIfCutAlike =
    (words others : List Text) → (positional words ≡ positional others) ↔ (cut_words words ≡ cut_words others)

-- the meaning p with one more word, which is an override or the first word after the overrides
abbrev pub with_override_or_word : Positional → Text → Option (Text × Text) → Positional
with_override_or_word p word (Some override) = record p { overrides = p.overrides ++ override ∷ [] }
with_override_or_word p word None = record (after_overrides word []) { overrides = p.overrides }

-- the same for any word; after a directory or an argument it is an argument
abbrev pub with_next : Positional → Text → Option Text → List Text → Positional
with_next p word None [] = with_override_or_word p word (override_of word)
with_next p word None (argument ∷ arguments) = record p { arguments = p.arguments ++ word ∷ [] }
with_next p word (Some directory) arguments = record p { arguments = p.arguments ++ word ∷ [] }

abbrev pub with_word : Positional → Text → Positional
with_word p word = with_next p word p.search_directory p.arguments
