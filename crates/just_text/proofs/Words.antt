-- The words of a text that `split_whitespace` gives.
use Rattle.std.proofs.Common.{◌≡◌, ℕ, zero, suc, ◌<◌, List, [], ◌∷◌, ◌++◌, length, get_or, Bool, true, false, not, sym, refl, ap, subst, ◌∙◌, arith, chars}
use Rattle.std.proofs.Common.{encode_utf8, encode_utf8_all, IsUtf8}
use lib.Utf8.{scalar, scalars}
use Rattle.std.specs.Char.{is_whitespace, is_not_whitespace}
use Rattle.std.specs.declared.str.SplitWhitespace.{SplitWhitespace}
use Rattle.std.specs.Str.{NonePass, NoCharPasses, EmptyOrStartsWithPassing}
use Rattle.std.specs.Str.Iter.{split_whitespace_steps, split_whitespace_rest}
use Rattle.std.proofs.lemmas.Bool.{ne_eqb, not-false, and_parts}
use Rattle.std.proofs.lemmas.Iterator.{YieldsList}
use Rattle.std.proofs.lemmas.Iterator.Splits.{YieldsList-from_shown_while}
use Rattle.std.proofs.lemmas.List.{append-nil, append_assoc}
use Rattle.std.proofs.lemmas.List.Elements.{All-from_get_or}
use Rattle.std.proofs.lemmas.List.Splits.{slice_split_none, slice_split_at}
use Rattle.std.proofs.lemmas.Str.{chars-encodes, encodes-chars, scalars-chars, cons_from_encodes, encodes_same, encode_same, length-le-encodes}
use Rattle.just_text.specs.Prelude.{words}
use Rattle.just_text.specs.Split.{words_in, is_filled}

-- a text continued after some characters
peel : (ds cs rest : List ℕ) → encode_utf8_all ds ≡ encode_utf8_all cs ++ rest → (es : List ℕ) × (ds ≡ cs ++ es) × (encode_utf8_all es ≡ rest)
peel ds [] rest e = (ds, refl, e)
peel ds (c ∷ cs) rest e =
    let first = cons_from_encodes ds (encode_utf8_all cs ++ rest) c (e ∙ append_assoc (encode_utf8 c) (encode_utf8_all cs) rest) in
    let others = peel first.0 cs rest first.2 in
    (others.0, first.1 ∙ ap (λ es. c ∷ es) others.1, others.2)

scalars_rest : (cs es : List ℕ) → scalars (cs ++ es) ≡ true → scalars es ≡ true
scalars_rest [] es h = h
scalars_rest (c ∷ cs) es h = scalars_rest cs es (and_parts (scalar c) (scalars (cs ++ es)) h).1

none_at : (p : ℕ → Bool) (cs : List ℕ) → NonePass p cs → (i : ℕ) → i < length cs → p (get_or cs i 0) ≡ false
none_at p [] none i h = absurd (omega arith)
none_at p (c ∷ cs) none zero h = none.0
none_at p (c ∷ cs) none (suc i) h = none_at p cs none.1 i (omega arith)

-- white space before a word is skipped
words_gap : (gap ds : List ℕ) → NonePass is_not_whitespace gap → words_in (gap ++ ds) ≡ words_in ds
words_gap [] ds none = refl
words_gap (c ∷ cs) ds none = rw (not-false (is_whitespace c) none.0) (words_gap cs ds none.1)

pub filled_is : (x : List ℕ) → 0 < length x → is_filled x ≡ true
filled_is [] some = absurd (omega arith)
filled_is (c ∷ cs) some = ap not (ne_eqb (length (c ∷ cs)) 0 (λ e. absurd (omega arith)))

-- a word, before white space or at the end
words_first : (x ds : List ℕ) → 0 < length x → NonePass is_whitespace x → (0 < length ds → is_whitespace (get_or ds 0 0) ≡ true)
    → words_in (x ++ ds) ≡ encode_utf8_all x ∷ words_in ds
words_first x [] some none gap =
    rw (append-nil x, slice_split_none is_whitespace x (All-from_get_or (λ c. is_whitespace c ≡ false) x 0 (none_at is_whitespace x none)), filled_is x some)
words_first x (d ∷ ds) some none gap =
    rw (
      slice_split_at is_whitespace x d ds (All-from_get_or (λ c. is_whitespace c ≡ false) x 0 (none_at is_whitespace x none)) (gap (omega arith)),
      filled_is x some,
      gap (omega arith),
    )

-- white space alone has no word
words_none : (cs : List ℕ) → NonePass is_not_whitespace cs → words_in cs ≡ []
words_none cs none = rw (← append-nil cs) (words_gap cs [] none)

starts_gap : (bs es more : List ℕ) → encode_utf8_all es ≡ bs → EmptyOrStartsWithPassing is_whitespace bs more → 0 < length es
    → is_whitespace (get_or es 0 0) ≡ true
starts_gap bs [] more e starts some = absurd (omega arith)
starts_gap bs (d ∷ es) more e starts some =
    let found = starts (omega (arith, length-le-encodes (d ∷ es), ap length e)) in
    rw (encode_same d found.0 (encode_utf8_all es) more (e ∙ found.2)).0 found.1

chars_some : (xs x : List ℕ) → encode_utf8_all xs ≡ x → 0 < length x → 0 < length xs
chars_some [] x e some = absurd (omega (arith, ap length e))
chars_some (c ∷ cs) x e some = omega arith

-- a step of the iterator takes the first word
step : (bs gap x rest more : List ℕ) → IsUtf8 bs → bs ≡ gap ++ (x ++ rest) → 0 < length x → NoCharPasses is_not_whitespace gap → NoCharPasses is_whitespace x
    → EmptyOrStartsWithPassing is_whitespace rest more
    → IsUtf8 rest × (words bs ≡ x ∷ words rest)
unfolding words
step bs gap x rest more utf8 e some (gs, spells_gap, all_gap) (xs, spells_x, all_x) starts =
    let one = peel (chars bs) gs (x ++ rest) (encodes-chars bs utf8 ∙ (e ∙ ap (λ t. t ++ (x ++ rest)) (sym spells_gap))) in
    let two = peel one.0 xs rest (one.2 ∙ ap (λ t. t ++ rest) (sym spells_x)) in
    let whole : chars bs ≡ gs ++ (xs ++ two.0) = one.1 ∙ ap (λ t. gs ++ t) two.1 in
    let good : scalars two.0 ≡ true =
    scalars_rest xs two.0 (subst (λ t. scalars t ≡ true) two.1 (scalars_rest gs one.0 (subst (λ t. scalars t ≡ true) one.1 (scalars-chars bs utf8)))) in
    let after : chars rest ≡ two.0 = ap chars (sym two.2) ∙ chars-encodes two.0 good in (
      (two.0, (good, two.2)),
      rw (whole, words_gap gs (xs ++ two.0) all_gap, after)
          (words_first xs two.0 (chars_some xs x spells_x some) all_x (starts_gap rest two.0 more two.2 starts) ∙ ap (λ t. t ∷ words_in two.0) spells_x),
    )

finish : (bs : List ℕ) → IsUtf8 bs → NoCharPasses is_not_whitespace bs → length (words bs) ≡ 0
unfolding words
finish bs utf8 (cs, spells, all) = rw (encodes_same (chars bs) cs (encodes-chars bs utf8 ∙ sym spells), words_none cs all)

pub YieldsList-from_words : {s : SplitWhitespace} (bs : List ℕ) → IsUtf8 bs → split_whitespace_rest s ≡ bs
    → YieldsList split_whitespace_steps (λ x. x.now) s (words bs)
YieldsList-from_words {s} bs utf8 e =
    rw (← e) (YieldsList-from_shown_while split_whitespace_steps (λ x. x.now) (λ t. words (split_whitespace_rest t)) (λ t. IsUtf8 (split_whitespace_rest t))
    (λ t u good none. finish (split_whitespace_rest t) good none.1)
    (λ t x u good (gap, cut, some, before, inside, (more, after)). step (split_whitespace_rest t) gap x.now (split_whitespace_rest u) more good cut some
    before inside after)
    s (rw e utf8))
