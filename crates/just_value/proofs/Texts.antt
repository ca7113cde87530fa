-- Lists of texts: joined, compared, and shown.
use Rattle.std.proofs.Common.{◌≡◌, ◌≢◌, ℕ, ◌+◌, ◌<◌, cond, eqb, List, [], ◌∷◌, ◌++◌, length, take, get_or, refl, ap, sym, ◌∙◌, codes, arith}
use Rattle.std.specs.Cmp.Lexicographic.{pointwise_decides, bytes_decides}
use Rattle.std.specs.List.{join_by}
use Rattle.just_value.specs.Prelude.{SameExactlyIfEqual, quoted, shown}
use Rattle.std.proofs.lemmas.List.{append-nil, append_assoc, take_more, length-take-le}
use Rattle.std.proofs.lemmas.Bool.{ne_eqb}
use Rattle.std.proofs.lemmas.List.Concat.{flat_map-append}

-- one more text at the end, after a separator if it is not the first
pub joined_push : {A : Type 0} (f : A → List ℕ) (separator : List ℕ) (xs : List A) (x : A)
    → join_by f separator (xs ++ x ∷ []) ≡ join_by f separator xs ++ (cond (eqb (length xs) 0) [] separator ++ f x)
joined_push f separator [] x = append-nil (f x)
joined_push f separator (y ∷ ys) x =
    rw (ne_eqb (length (y ∷ ys)) 0 (λ e. absurd (omega arith))) (simp (flat_map-append (λ t. separator ++ f t) ys (x ∷ []), append-nil, append_assoc))

-- one more of the texts
pub joined_more : (f : List ℕ → List ℕ) (separator : List ℕ) (xs : List (List ℕ)) (i : ℕ) (x : List ℕ) → i < length xs → x ≡ get_or xs i x
    → join_by f separator (take i xs) ++ (cond (eqb i 0) [] separator ++ f x) ≡ join_by f separator (take (i + 1) xs)
joined_more f separator xs i x within is =
    let front : length (take i xs) ≡ i = length-take-le i xs (omega arith) in
    let more : take (i + 1) xs ≡ take i xs ++ x ∷ [] = take_more xs i x within ∙ ap (λ y. take i xs ++ y ∷ []) (sym is) in
    sym (ap (join_by f separator) more
    ∙ (joined_push f separator (take i xs) x ∙ ap (λ n. join_by f separator (take i xs) ++ (cond (eqb n 0) [] separator ++ f x)) front))

-- a value whose length is not one is shown in brackets
pub shown_many : (v : List (List ℕ)) → length v ≢ 1 → shown v ≡ codes "[" ++ (join_by quoted (codes ", ") v ++ codes "]")
shown_many [] many = refl
shown_many (x ∷ []) many = absurd (many refl)
shown_many (x ∷ y ∷ ys) many = refl

-- the comparison of values yields `Equal` exactly if they are equal
pub same_exactly_if_equal : SameExactlyIfEqual
same_exactly_if_equal v w = pointwise_decides bytes_decides v w
