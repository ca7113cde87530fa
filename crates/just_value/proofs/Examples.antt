-- The definitions applied to literal texts.
use Rattle.std.proofs.Common.{◌≡◌, [], ◌∷◌, None, Some, codes, refl}
use lib.Utf8.{encode}
use Rattle.std.specs.Str.{chars}
use Rattle.just_syntax.specs.ListOperator.{separator}
use Rattle.just_syntax.specs.declared.list_operator.ListOperator.TheVariants.{Concatenate, Join}
use Rattle.just_value.specs.Applied.{applied}
use Rattle.just_value.specs.Prelude.{cut_words, joined, listed, positional, shown}

two_empty : joined ([] ∷ [] ∷ []) ≡ codes " "
two_empty = refl

spread : applied (separator Concatenate) (codes "a" ∷ []) (codes "b" ∷ codes "c" ∷ []) ≡ Some (codes "ab" ∷ codes "ac" ∷ [])
spread = refl

slashes : applied (separator Join) (codes "a" ∷ codes "b" ∷ []) (codes "c" ∷ codes "d" ∷ []) ≡ Some (codes "a/c" ∷ codes "b/d" ∷ [])
slashes = refl

one_and_none : applied (separator Concatenate) (codes "a" ∷ []) [] ≡ None
one_and_none = refl

one_word : listed (codes "or") (codes "1" ∷ []) ≡ codes "1"
one_word = refl

two_words : listed (codes "and") (codes "1" ∷ codes "2" ∷ []) ≡ codes "1 and 2"
two_words = refl

three_words : listed (codes "or") (codes "1" ∷ codes "2" ∷ codes "3" ∷ []) ≡ codes "1, 2, or 3"
three_words = refl

shown_none : shown [] ≡ codes "[]"
shown_none = refl

shown_tab : shown (codes "a\tb\"c" ∷ []) ≡ codes "\"a\\tb\\\"c\""
unfolding chars encode
shown_tab = refl

words : positional (codes "./x=1" ∷ codes "a/b" ∷ codes "c=d" ∷ [])
    ≡ record { arguments = codes "b" ∷ codes "c=d" ∷ []; overrides = (codes "./x", codes "1") ∷ []; search_directory = Some (codes "a/") }
words = refl

dots : positional (codes ".." ∷ codes "a=b" ∷ []) ≡ record { arguments = codes "a=b" ∷ []; overrides = []; search_directory = Some (codes "..") }
dots = refl

cut : cut_words (codes "./x=1" ∷ codes "a/b" ∷ codes "c=d" ∷ []) ≡ codes "./x=1" ∷ codes "a/" ∷ codes "b" ∷ codes "c=d" ∷ []
cut = refl
