-- The definitions applied to literal texts.
use Rattle.std.proofs.Common.{◌≡◌, [], ◌∷◌, None, Some, codes, refl}
use lib.Utf8.{encode}
use Rattle.std.specs.Str.{chars}
use Rattle.just_text.specs.Prelude.{encoded, extension, file_name, file_stem, joined_paths, parent, percent_encode_byte, pieces, replaced, single_quoted}
use Rattle.just_text.specs.Prelude.{without_ends, without_starts, words}
use Rattle.just_text.specs.Case.{capitalize}
use Rattle.just_text.specs.Split.{split}

one : parent (codes "a") ≡ Some []
unfolding parent
one = refl

doubled : parent (codes "a//b") ≡ Some (codes "a")
unfolding parent
doubled = refl

below_root : parent (codes "/a") ≡ Some (codes "/")
unfolding parent
below_root = refl

below_dot : parent (codes "./a") ≡ Some (codes ".")
unfolding parent
below_dot = refl

dot : parent (codes ".") ≡ Some []
unfolding parent
dot = refl

root : parent (codes "/") ≡ None
unfolding parent
root = refl

dot_in_root : parent (codes "//.") ≡ None
unfolding parent
dot_in_root = refl

last : file_name (codes "a/.") ≡ Some (codes "a")
unfolding file_name
last = refl

up : file_name (codes "a/..") ≡ None
unfolding file_name
up = refl

tarred : extension (codes "a.tar.gz") ≡ Some (codes "gz")
unfolding extension file_name
tarred = refl

empty : extension (codes "foo.") ≡ Some []
unfolding extension file_name
empty = refl

hidden : extension (codes ".bashrc") ≡ None
unfolding extension file_name
hidden = refl

stem : file_stem (codes "/x/a.tar.gz") ≡ Some (codes "a.tar")
unfolding file_stem file_name
stem = refl

hidden_stem : file_stem (codes ".bashrc") ≡ Some (codes ".bashrc")
unfolding file_stem file_name
hidden_stem = refl

second_rooted : joined_paths (codes "a") (codes "/b") ≡ codes "/b"
second_rooted = refl

one_slash : joined_paths (codes "a/") (codes "b") ≡ codes "a/b"
one_slash = refl

starts : without_starts (codes "ab") (codes "ababa") ≡ codes "a"
unfolding without_starts
starts = refl

ends : without_ends (codes "aa") (codes "aaa") ≡ codes "a"
unfolding without_ends
ends = refl

nothing : without_ends [] (codes "ab") ≡ codes "ab"
unfolding without_ends
nothing = refl

commas : split (codes "a,,b") (codes ",") ≡ codes "a" ∷ [] ∷ codes "b" ∷ []
unfolding pieces
commas = refl

empty_text : split [] (codes ",") ≡ [] ∷ []
unfolding pieces
empty_text = refl

letters : split (codes "ab") [] ≡ codes "a" ∷ codes "b" ∷ []
unfolding chars encode
letters = refl

white : words (codes " a  b ") ≡ codes "a" ∷ codes "b" ∷ []
unfolding words chars encode
white = refl

overlap : replaced (codes "aaa") (codes "aa") (codes "b") ≡ codes "ba"
unfolding pieces
overlap = refl

everywhere : replaced (codes "ab") [] (codes "-") ≡ codes "-a-b-"
unfolding chars encode
everywhere = refl

capital : capitalize (codes "hELLO") ≡ Some (codes "Hello")
capital = refl

past_ascii : capitalize (195 ∷ 169 ∷ []) ≡ None
past_ascii = refl

quote : single_quoted (codes "'") ≡ codes "''\\'''"
quote = refl

escaped : encoded (97 ∷ 32 ∷ 98 ∷ 38 ∷ 195 ∷ 169 ∷ []) ≡ codes "a%20b%26%C3%A9"
unfolding percent_encode_byte
escaped = refl
