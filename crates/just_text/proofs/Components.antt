-- The components of a path, split at its last slash; `std::path` agrees with them.
use Rattle.std.proofs.Common.{◌≡◌, ◌≢◌, ◌⊎◌, ℕ, zero, suc, ◌+◌, ◌-◌, ◌<◌, ◌≤◌, List, [], ◌∷◌, ◌++◌, length, take, drop, reverse, get_or, slice_range, Option}
use Rattle.std.proofs.Common.{Some, None, MatchOption, option_map, true, false, not, ◌&&◌, ◌||◌, cond, eqb, ltb, sym, refl, ap, ap₂, subst, ◌∙◌, inl, inr}
use Rattle.std.proofs.Common.{arith, zero-add}
use Rattle.std.specs.List.{onto_first}
use Rattle.std.specs.Path.{slash, root_dir, cur_dir, is_name, is_trailing, trimmed_len, trim_trailing, rsplit_once, parent_before_slash, parent_and_last}
use Rattle.std.specs.Path.{split_last_component, path_parent, normal_name, path_file_name}
use Rattle.std.specs.Option.{option_flatten}
use Rattle.std.specs.Str.{bytes_eq}
use Rattle.std.proofs.lemmas.Bool.{ne_eqb, eq-eqb, eqb-true, lt-ltb, cases_Bool, cond-true, cond-false, cond_both, and_from, and_left, and_right, or_from}
use Rattle.std.proofs.lemmas.Bool.{or_left, or_right, or_cases, or_parts, not-true, not-false, not_from_false}
use Rattle.std.proofs.lemmas.List.{append_assoc, append-nil, length-append, length-drop, reverse-append, take_all, drop_at, take-append-le, drop-append-le}
use Rattle.std.proofs.lemmas.List.{nil_from_length, get_or_at, get_or-append-add, get_or_append_left}
use Rattle.std.proofs.lemmas.List.Elements.{All-from_get_or}
use Rattle.std.proofs.lemmas.List.Splits.{slice_split_none, length-slice_split}
use Rattle.std.proofs.lemmas.Slice.Eq.{bytes_eq-Decides}
use Rattle.just_syntax.proofs.Lists.{LacksByte}
use Rattle.just_text.specs.Prelude.{file_name, parent}
use Rattle.just_text.specs.Path.{segments, place_of, places_from, components, from_last, up_to, before_the_last, last_name}
use Rattle.just_text.proofs.LastByte.{rsplit_once_parts}

-- the length in bytes of segments, each followed by a slash
total : List (List ℕ) → ℕ
total [] = 0
total (s ∷ ss) = (length s + 1) + total ss

-- the segments of a path before and after its last slash
segments_some : (path : List ℕ) → 0 < length (segments path)
segments_some path = omega (arith, length-slice_split (λ b. eqb b 47) path)

onto_push : (b : ℕ) (ss : List (List ℕ)) (last : List ℕ) → 0 < length ss → onto_first b (ss ++ last ∷ []) ≡ onto_first b ss ++ last ∷ []
onto_push b [] last some = absurd (omega arith)
onto_push b (s ∷ ss) last some = refl

whole : (last : List ℕ) → LacksByte slash last → segments last ≡ last ∷ []
whole last lacks = slice_split_none (λ b. eqb b 47) last (All-from_get_or (λ b. eqb b 47 ≡ false) last 0 (λ i h. ne_eqb (get_or last i 0) 47 (lacks i h)))

segments_last : (dir last : List ℕ) → LacksByte slash last → segments (dir ++ 47 ∷ last) ≡ segments dir ++ last ∷ []
segments_last [] last lacks = ap (λ ss. [] ∷ ss) (whole last lacks)
segments_last (b ∷ bs) last lacks =
    elim (cases_Bool (eqb b 47)) [
      | inl e ↦ rw e (ap (λ ss. [] ∷ ss) (segments_last bs last lacks))
      | inr e ↦ rw e (ap (onto_first b) (segments_last bs last lacks) ∙ onto_push b (segments bs) last (segments_some bs))
    ]

onto_total : (b : ℕ) (ss : List (List ℕ)) → 0 < length ss → total (onto_first b ss) ≡ 1 + total ss
unfolding total
onto_total b [] some = absurd (omega arith)
onto_total b (s ∷ ss) some = omega arith

total_segments : (path : List ℕ) → total (segments path) ≡ length path + 1
unfolding total
total_segments [] = refl
total_segments (b ∷ bs) =
    cond_both (eqb b 47) ([] ∷ segments bs) (onto_first b (segments bs)) (λ ss. total ss ≡ length (b ∷ bs) + 1)
    (λ e. omega (arith, total_segments bs)) (λ e. omega (arith, onto_total b (segments bs) (segments_some bs), total_segments bs))

-- the components before and after the last slash
places_push : (at n : ℕ) (ss : List (List ℕ)) (last : List ℕ) → total ss ≡ n → places_from at (ss ++ last ∷ []) ≡ places_from at ss ++ place_of (at + n) last
unfolding total
places_push at n [] last e =
    let same : at ≡ at + n = omega (arith, e) in
    append-nil (place_of at last) ∙ ap (λ k. place_of k last) same
places_push at n (s ∷ ss) last e =
    let same : (at + (length s + 1)) + total ss ≡ at + n = omega (arith, e) in
    ap (λ qs. place_of at s ++ qs) (places_push (at + (length s + 1)) (total ss) ss last refl
    ∙ ap (λ k. places_from (at + (length s + 1)) ss ++ place_of k last) same)
    ∙ sym (append_assoc (place_of at s) (places_from (at + (length s + 1)) ss) (place_of (at + n) last))

components_last : (dir last : List ℕ) → LacksByte slash last → components (dir ++ 47 ∷ last) ≡ components dir ++ place_of (length dir + 1) last
components_last dir last lacks =
    ap (places_from 0) (segments_last dir last lacks) ∙ (places_push 0 (length dir + 1) (segments dir) last (total_segments dir)
    ∙ ap (λ k. components dir ++ place_of k last) (zero-add (length dir + 1)))

reverse_place : (at : ℕ) (segment : List ℕ) → reverse (place_of at segment) ≡ place_of at segment
reverse_place at segment = cond_both (not (eqb (length segment) 0) && (eqb at 0 || not (bytes_eq segment (46 ∷ [])))) ((at, at + length segment) ∷ []) []
    (λ qs. reverse qs ≡ qs) (λ e. refl) (λ e. refl)

from_last_slash : (dir last : List ℕ) → LacksByte slash last → from_last (dir ++ 47 ∷ last) ≡ place_of (length dir + 1) last ++ from_last dir
from_last_slash dir last lacks =
    ap reverse (components_last dir last lacks)
    ∙ (reverse-append (components dir) (place_of (length dir + 1) last) ∙ ap (λ qs. qs ++ from_last dir) (reverse_place (length dir + 1) last))

-- a name is a component; an empty segment or `.` after a slash is not
named_place : (n : ℕ) (last : List ℕ) → is_name last ≡ true → place_of (n + 1) last ≡ (n + 1, (n + 1) + length last) ∷ []
named_place n last named =
    let neither = or_parts (eqb (length last) 0) (bytes_eq last (46 ∷ [])) (not-true (eqb (length last) 0 || bytes_eq last (46 ∷ [])) named) in
    cond-true _ _ _
    (and_from _ _ (not_from_false (eqb (length last) 0) neither.0) (or_right (eqb (n + 1) 0) _ (not_from_false (bytes_eq last (46 ∷ [])) neither.1)))

dot_place : (n : ℕ) → place_of (n + 1) (46 ∷ []) ≡ []
dot_place n = rw (ne_eqb (n + 1) 0 (λ e. absurd (omega arith))) refl

one_place : (b : ℕ) (bs : List ℕ) → LacksByte slash (b ∷ bs) → from_last (b ∷ bs) ≡ (0, 0 + length (b ∷ bs)) ∷ []
one_place b bs lacks =
    let place : place_of 0 (b ∷ bs) ≡ (0, 0 + length (b ∷ bs)) ∷ [] = rw (ne_eqb (length (b ∷ bs)) 0 (λ e. absurd (omega arith))) refl in
    ap (λ ss. reverse (places_from 0 ss)) (whole (b ∷ bs) lacks) ∙ ap (λ qs. reverse (qs ++ [])) place

-- trailing bytes, and bytes that are not trailing
trailing_no : (path : List ℕ) (i : ℕ) → get_or path i 0 ≢ 47 → (get_or path i 0 ≢ 46) ⊎ (get_or path (i - 1) 0 ≢ 47) → is_trailing path i ≡ false
trailing_no path i no_slash other =
    and_right (ltb 0 i) (eqb (get_or path i 0) 47 || (eqb (get_or path i 0) 46 && eqb (get_or path (i - 1) 0) 47))
    (or_from (eqb (get_or path i 0) 47) (eqb (get_or path i 0) 46 && eqb (get_or path (i - 1) 0) 47) (ne_eqb (get_or path i 0) 47 no_slash)
    (elim other [
      | inl no_dot ↦ and_left (eqb (get_or path i 0) 46) (eqb (get_or path (i - 1) 0) 47) (ne_eqb (get_or path i 0) 46 no_dot)
      | inr no_more ↦ and_right (eqb (get_or path i 0) 46) (eqb (get_or path (i - 1) 0) 47) (ne_eqb (get_or path (i - 1) 0) 47 no_more)
    ]))

trimmed_len_trailing : (path : List ℕ) (n : ℕ) → 0 < n → is_trailing path (n - 1) ≡ true → trimmed_len path n ≡ trimmed_len path (n - 1)
trimmed_len_trailing path n some e = ap (trimmed_len path) {x = n} {y = suc (n - 1)} (omega arith) ∙ cond-true _ _ _ e

trimmed_len_kept : (path : List ℕ) (n : ℕ) → 0 < n → is_trailing path (n - 1) ≡ false → trimmed_len path n ≡ n
trimmed_len_kept path n some e = ap (trimmed_len path) {x = n} {y = suc (n - 1)} (omega arith) ∙ cond-false _ _ _ e ∙ omega arith

trim_whole : (path : List ℕ) → (0 < length path → is_trailing path (length path - 1) ≡ false) → trim_trailing path ≡ path
unfolding trim_trailing
trim_whole [] ends = refl
trim_whole (b ∷ bs) ends =
    ap (λ k. take k (b ∷ bs)) (trimmed_len_kept (b ∷ bs) (length (b ∷ bs)) (omega arith) (ends (omega arith)))
    ∙ take_all (length (b ∷ bs)) (b ∷ bs) (omega arith)

trim_one : (path : List ℕ) → LacksByte slash path → trim_trailing path ≡ path
trim_one path lacks =
    trim_whole path (λ some. trailing_no path (length path - 1) (lacks (length path - 1) (omega arith)) (inr (lacks (length path - 1 - 1) (omega arith))))

after_slash : (dir last : List ℕ) (k : ℕ) → LacksByte slash last → k < length last → get_or (dir ++ 47 ∷ last) (length dir + suc k) 0 ≢ 47
after_slash dir last k lacks less e = lacks k less (sym (get_or-append-add dir (47 ∷ last) (suc k) 0) ∙ e)

named_ends : (dir last : List ℕ) → LacksByte slash last → is_name last ≡ true → is_trailing (dir ++ 47 ∷ last) (length (dir ++ 47 ∷ last) - 1) ≡ false
named_ends dir [] lacks named = cc
named_ends dir (a ∷ []) lacks named =
    let path = dir ++ 47 ∷ a ∷ [] in
    let n : length path - 1 ≡ length dir + suc 0 = omega (arith, length-append dir (47 ∷ a ∷ [])) in
    let no_dot : get_or path (length dir + suc 0) 0 ≢ 46 = λ e. let same : a ≡ 46 =
    sym (get_or-append-add dir (47 ∷ a ∷ []) (suc 0) 0) ∙ e in let wrong : is_name (46 ∷ []) ≡ true = rw same at named in cc in
    ap (is_trailing path) n ∙ trailing_no path (length dir + suc 0) (after_slash dir (a ∷ []) 0 lacks (omega arith)) (inl no_dot)
named_ends dir (a ∷ b ∷ rest) lacks named =
    let path = dir ++ 47 ∷ a ∷ b ∷ rest in
    let n : length path - 1 ≡ length dir + suc (suc (length rest)) = omega (arith, length-append dir (47 ∷ a ∷ b ∷ rest)) in
    let before : (length dir + suc (suc (length rest))) - 1 ≡ length dir + suc (length rest) = omega arith in
    ap (is_trailing path) n ∙ trailing_no path (length dir + suc (suc (length rest))) (after_slash dir (a ∷ b ∷ rest) (suc (length rest)) lacks (omega arith))
    (inr (λ e. after_slash dir (a ∷ b ∷ rest) (length rest) lacks (omega arith) (ap (λ k. get_or path k 0) (sym before) ∙ e)))

-- trimming a prefix of a path does not depend on the rest
trimmed_front : (dir rest : List ℕ) (k : ℕ) → k ≤ length dir → trimmed_len (dir ++ rest) k ≡ trimmed_len dir k
trimmed_front dir rest zero fits = refl
trimmed_front dir rest (suc k) fits =
    let same : is_trailing (dir ++ rest) k ≡ is_trailing dir k =
    ap₂ (λ x y. ltb 0 k && (eqb x 47 || (eqb x 46 && eqb y 47))) (get_or_append_left dir rest 0 k (omega arith))
    (get_or_append_left dir rest 0 (k - 1) (omega arith)) in
    ap₂ (λ t n. cond t n (suc k)) same (trimmed_front dir rest k (omega arith))

trimmed_le : (path : List ℕ) (k : ℕ) → trimmed_len path k ≤ k
trimmed_le path zero = omega arith
trimmed_le path (suc k) =
    cond_both (is_trailing path k) (trimmed_len path k) (suc k) (λ n. n ≤ suc k) (λ e. omega (arith, trimmed_le path k)) (λ e. omega arith)

trim_back : (dir rest : List ℕ) → trimmed_len (dir ++ rest) (length (dir ++ rest)) ≡ trimmed_len (dir ++ rest) (length dir)
    → trim_trailing (dir ++ rest) ≡ trim_trailing dir
unfolding trim_trailing
trim_back dir rest e =
    ap (λ k. take k (dir ++ rest)) (e ∙ trimmed_front dir rest (length dir) (omega arith))
    ∙ take-append-le (trimmed_len dir (length dir)) dir rest (trimmed_le dir (length dir))

slash_trails : (dir rest : List ℕ) → 0 < length dir → trimmed_len (dir ++ 47 ∷ rest) (length dir + 1) ≡ trimmed_len (dir ++ 47 ∷ rest) (length dir)
slash_trails dir rest some =
    let path = dir ++ 47 ∷ rest in
    let back : (length dir + 1) - 1 ≡ length dir = omega arith in
    let trails : is_trailing path (length dir) ≡ true =
    and_from _ _ (lt-ltb 0 (length dir) some) (or_left _ _ (eq-eqb (get_or path (length dir) 0) 47 (get_or_at dir 47 rest 0 (length dir) refl))) in
    trimmed_len_trailing path (length dir + 1) (omega arith) (ap (is_trailing path) back ∙ trails) ∙ ap (trimmed_len path) back

trim_slash : (dir : List ℕ) → 0 < length dir → trim_trailing (dir ++ 47 ∷ []) ≡ trim_trailing dir
trim_slash dir some =
    let n : length (dir ++ 47 ∷ []) ≡ length dir + 1 = omega (arith, length-append dir (47 ∷ [])) in
    trim_back dir (47 ∷ []) (ap (trimmed_len (dir ++ 47 ∷ [])) n ∙ slash_trails dir [] some)

trim_dot : (dir : List ℕ) → 0 < length dir → trim_trailing (dir ++ 47 ∷ 46 ∷ []) ≡ trim_trailing dir
trim_dot dir some =
    let path = dir ++ 47 ∷ 46 ∷ [] in
    let n : length path ≡ (length dir + 1) + 1 = omega (arith, length-append dir (47 ∷ 46 ∷ [])) in
    let back : ((length dir + 1) + 1) - 1 ≡ length dir + 1 = omega arith in
    let before : (length dir + 1) - 1 ≡ length dir = omega arith in
    let is_dot = eq-eqb (get_or path (length dir + 1) 0) 46 (get_or-append-add dir (47 ∷ 46 ∷ []) 1 0) in
    let is_slash = eq-eqb (get_or path ((length dir + 1) - 1) 0) 47 (ap (λ k. get_or path k 0) before ∙ get_or_at dir 47 (46 ∷ []) 0 (length dir) refl) in
    let trails : is_trailing path (length dir + 1) ≡ true =
    and_from _ _ (lt-ltb 0 (length dir + 1) (omega arith)) (or_right _ _ (and_from _ _ is_dot is_slash)) in
    let once = trimmed_len_trailing path ((length dir + 1) + 1) (omega arith) (ap (is_trailing path) back ∙ trails) ∙ ap (trimmed_len path) back in
    trim_back dir (47 ∷ 46 ∷ []) (ap (trimmed_len path) n ∙ (once ∙ slash_trails dir (46 ∷ []) some))

-- each place lies within the first n bytes, and its start is not after its end
Within : ℕ → List (ℕ × ℕ) → Type 0
Within n [] = Unit {0}
Within n (q ∷ qs) = (q.0 ≤ q.1) × (q.1 ≤ n) × Within n qs

within_more : (m n : ℕ) (qs : List (ℕ × ℕ)) → m ≤ n → Within m qs → Within n qs
unfolding Within
within_more m n [] fits w = tt
within_more m n (q ∷ qs) fits (order, below, more) = (order, omega arith, within_more m n qs fits more)

-- the two parts of a path split at its last component, given its components in reverse order
described : List ℕ → List (ℕ × ℕ) → Option (List ℕ × List ℕ)
described path [] = None
described path (last ∷ before) = Some (up_to path before, slice_range path last.0 last.1)

-- the functions of std on a path, in terms of its components
record Known (path : List ℕ) : Type 0 where
  within : Within (length path) (from_last path)
  trimmed : trim_trailing path ≡ up_to path (from_last path)
  parts : split_last_component path ≡ described path (from_last path)

split_same : (path other : List ℕ) → trim_trailing path ≡ trim_trailing other → split_last_component path ≡ split_last_component other
unfolding split_last_component
split_same path other e = ap (λ t. cond (eqb (length t) 0 || bytes_eq t root_dir) None (Some (parent_and_last t (rsplit_once slash t)))) e

split_whole : (path : List ℕ) → trim_trailing path ≡ path → 0 < length path → bytes_eq path root_dir ≡ false
    → split_last_component path ≡ Some (parent_and_last path (rsplit_once slash path))
unfolding split_last_component
split_whole path e some other =
    ap (λ t. cond (eqb (length t) 0 || bytes_eq t root_dir) None (Some (parent_and_last t (rsplit_once slash t)))) e
    ∙ cond-false _ _ _ (or_from _ _ (ne_eqb (length path) 0 (λ z. absurd (omega arith))) other)

-- places within a prefix of a path
up_to_front : (d : ℕ) (ds rest : List ℕ) (qs : List (ℕ × ℕ)) → Within (length (d ∷ ds)) qs → up_to ((d ∷ ds) ++ rest) qs ≡ up_to (d ∷ ds) qs
unfolding Within
up_to_front d ds rest [] w = refl
up_to_front d ds rest (q ∷ qs) (order, below, more) = take-append-le q.1 (d ∷ ds) rest below

range_front : (dir rest : List ℕ) (i j : ℕ) → i ≤ j → j ≤ length dir → slice_range (dir ++ rest) i j ≡ slice_range dir i j
range_front dir rest i j order below =
    ap (take (j - i)) (drop-append-le i dir rest (omega arith)) ∙ take-append-le (j - i) (drop i dir) rest (omega (arith, length-drop i dir))

described_front : (d : ℕ) (ds rest : List ℕ) (qs : List (ℕ × ℕ)) → Within (length (d ∷ ds)) qs → described ((d ∷ ds) ++ rest) qs ≡ described (d ∷ ds) qs
unfolding Within described
described_front d ds rest [] w = refl
described_front d ds rest (q ∷ qs) (order, below, more) =
    ap₂ (λ a b. Some (a, b)) (up_to_front d ds rest qs more) (range_front (d ∷ ds) rest q.0 q.1 order below)

-- a suffix that adds no component changes nothing
known_trailing : (d : ℕ) (ds rest : List ℕ) → from_last ((d ∷ ds) ++ rest) ≡ from_last (d ∷ ds) → trim_trailing ((d ∷ ds) ++ rest) ≡ trim_trailing (d ∷ ds)
    → Known (d ∷ ds) → Known ((d ∷ ds) ++ rest)
known_trailing d ds rest same trims k =
    let path = (d ∷ ds) ++ rest in
    record {
      within = subst (Within (length path)) (sym same)
          (within_more (length (d ∷ ds)) (length path) (from_last (d ∷ ds)) (omega (arith, length-append (d ∷ ds) rest)) k.within);
      trimmed = trims ∙ (k.trimmed ∙ (sym (up_to_front d ds rest (from_last (d ∷ ds)) k.within) ∙ ap (up_to path) (sym same)));
      parts = split_same path (d ∷ ds) trims ∙ (k.parts ∙ (sym (described_front d ds rest (from_last (d ∷ ds)) k.within) ∙ ap (described path) (sym same)));
    }

none : LacksByte slash []
none i fits = absurd (omega arith)

known_slash : (dir : List ℕ) → Known dir → Known (dir ++ 47 ∷ [])
unfolding Within described trim_trailing split_last_component
known_slash [] k = record { within = tt; trimmed = refl; parts = refl }
known_slash (d ∷ ds) k = known_trailing d ds (47 ∷ []) (from_last_slash (d ∷ ds) [] none) (trim_slash (d ∷ ds) (omega arith)) k

no_slash : LacksByte slash (46 ∷ [])
no_slash zero fits e = omega arith
no_slash (suc i) fits e = absurd (omega arith)

known_dot : (dir : List ℕ) → Known dir → Known (dir ++ 47 ∷ 46 ∷ [])
unfolding Within described trim_trailing split_last_component
known_dot [] k = record { within = tt; trimmed = refl; parts = refl }
known_dot (d ∷ ds) k =
    known_trailing d ds (47 ∷ 46 ∷ []) (from_last_slash (d ∷ ds) (46 ∷ []) no_slash ∙ ap (λ qs. qs ++ from_last (d ∷ ds)) (dot_place (length (d ∷ ds))))
    (trim_dot (d ∷ ds) (omega arith)) k

-- a path of one component
known_one : (path : List ℕ) → LacksByte slash path → rsplit_once slash path ≡ None → Known path
unfolding Within described trim_trailing split_last_component
known_one [] lacks e = record { within = tt; trimmed = refl; parts = refl }
known_one (b ∷ bs) lacks e =
    let path = b ∷ bs in
    let trims = trim_one path lacks in
    let place = one_place b bs lacks in
    let unrooted : eqb b 47 ≡ false = ne_eqb b 47 (lacks 0 (omega arith)) in
    let whole_path : take (0 + length path) path ≡ path = take_all (0 + length path) path (omega arith) in
    let whole_range : slice_range path 0 (0 + length path) ≡ path = take_all ((0 + length path) - 0) path (omega arith) in
    record {
      within = subst (Within (length path)) (sym place) (omega arith, omega arith, tt);
      trimmed = trims ∙ (sym whole_path ∙ ap (up_to path) (sym place));
      parts = split_whole path trims (omega arith) (and_left (eqb b 47) (bytes_eq bs []) unrooted) ∙ (ap (λ r. Some (parent_and_last path r)) e
          ∙ (ap₂ (λ a t. Some (a, t)) (sym (cond-false (eqb b 47) (47 ∷ []) [] unrooted)) (sym whole_range) ∙ ap (described path) (sym place)));
    }

-- a name after the last slash
before_slash : (dir last : List ℕ) → Known dir → parent_before_slash dir ≡ up_to (dir ++ 47 ∷ last) (from_last dir)
before_slash [] last k = refl
before_slash (d ∷ ds) last k =
    cond-false _ _ _ (ne_eqb (length (d ∷ ds)) 0 (λ e. absurd (omega arith))) ∙ (k.trimmed ∙ sym (up_to_front d ds (47 ∷ last) (from_last (d ∷ ds)) k.within))

after_range : (dir last : List ℕ) → slice_range (dir ++ 47 ∷ last) (length dir + 1) ((length dir + 1) + length last) ≡ last
after_range dir last =
    let n : ((length dir + 1) + length last) - (length dir + 1) ≡ length last = omega arith in
    let after : drop (length dir + 1) (dir ++ 47 ∷ last) ≡ last =
    rw (← append_assoc dir (47 ∷ []) last) (drop_at (dir ++ 47 ∷ []) last (length dir + 1) (length-append dir (47 ∷ []))) in
    ap₂ (λ k t. take k t) n after ∙ take_all (length last) last (omega arith)

not_root : (dir last : List ℕ) → is_name last ≡ true → bytes_eq (dir ++ 47 ∷ last) root_dir ≡ false
not_root [] [] named = cc
not_root [] (a ∷ last) named = refl
not_root (d ∷ []) last named = and_right (eqb d 47) false refl
not_root (d ∷ e ∷ ds) last named = and_right (eqb d 47) false refl

known_named : (dir last : List ℕ) → LacksByte slash last → is_name last ≡ true → rsplit_once slash (dir ++ 47 ∷ last) ≡ Some (dir, last) → Known dir
    → Known (dir ++ 47 ∷ last)
unfolding Within described
known_named dir last lacks named e k =
    let path = dir ++ 47 ∷ last in
    let n : length path ≡ (length dir + 1) + length last = omega (arith, length-append dir (47 ∷ last)) in
    let trims = trim_whole path (λ some. named_ends dir last lacks named) in
    let place : from_last path ≡ (length dir + 1, (length dir + 1) + length last) ∷ from_last dir =
    from_last_slash dir last lacks ∙ ap (λ qs. qs ++ from_last dir) (named_place (length dir) last named) in
    let whole_path : take ((length dir + 1) + length last) path ≡ path = take_all ((length dir + 1) + length last) path (omega (arith, n)) in
    record {
      within = subst (Within (length path)) (sym place) (
        omega arith,
        omega (arith, n),
        within_more (length dir) (length path) (from_last dir)
            (omega (arith, n)) k.within,
      );
      trimmed = trims ∙ (sym whole_path ∙ ap (up_to path) (sym place));
      parts = split_whole path trims (omega (arith, n)) (not_root dir last named) ∙ (ap (λ r. Some (parent_and_last path r)) e
          ∙ (ap₂ (λ a t. Some (a, t)) (before_slash dir last k) (sym (after_range dir last)) ∙ ap (described path) (sym place)));
    }

known_split : (dir last : List ℕ) → LacksByte slash last → rsplit_once slash (dir ++ 47 ∷ last) ≡ Some (dir, last) → Known dir → Known (dir ++ 47 ∷ last)
known_split dir last lacks e k =
    elim (cases_Bool (is_name last)) [
      | inl named ↦ known_named dir last lacks named e k
      | inr other ↦ elim (or_cases (eqb (length last) 0) (bytes_eq last cur_dir) (not-false (eqb (length last) 0 || bytes_eq last cur_dir) other)) [
        | inl empty ↦ subst (λ t. Known (dir ++ 47 ∷ t)) (sym (nil_from_length last (eqb-true (length last) 0 empty))) (known_slash dir k)
        | inr is_dot ↦ subst (λ t. Known (dir ++ 47 ∷ t)) (sym ((bytes_eq-Decides last cur_dir).0 is_dot)) (known_dot dir k)
      ]
    ]

known_by : (path : List ℕ) (r : Option (List ℕ × List ℕ)) → rsplit_once slash path ≡ r
    → MatchOption r (LacksByte slash path) (λ parts. (path ≡ parts.0 ++ slash ∷ parts.1) × LacksByte slash parts.1)
    → ((dir : List ℕ) → length dir < length path → Known dir) → Known path
known_by path None e lacks below = known_one path lacks e
known_by path (Some parts) e (split, lacks) below =
    subst Known (sym split) (known_split parts.0 parts.1 lacks (subst (λ t. rsplit_once slash t ≡ Some parts) split e)
    (below parts.0 (omega (arith, ap length split, length-append parts.0 (slash ∷ parts.1)))))

known_below : (n : ℕ) (path : List ℕ) → length path ≤ n → Known path
known_below zero path fits = known_by path (rsplit_once slash path) refl (rsplit_once_parts slash path) (λ dir less. absurd (omega arith))
known_below (suc n) path fits = known_by path (rsplit_once slash path) refl (rsplit_once_parts slash path) (λ dir less. known_below n dir (omega arith))

known : (path : List ℕ) → Known path
known path = known_below (length path) path (omega arith)

-- the results of std's `parent` and `file_name`
parent_described : (path : List ℕ) (qs : List (ℕ × ℕ)) → option_map (λ parts. parts.0) (described path qs) ≡ before_the_last path qs
unfolding described
parent_described path [] = refl
parent_described path (q ∷ qs) = refl

pub parent_is : (path : List ℕ) → path_parent path ≡ parent path
unfolding path_parent parent
parent_is path = ap (option_map (λ parts. parts.0)) (known path).parts ∙ parent_described path (from_last path)

name_described : (path : List ℕ) (qs : List (ℕ × ℕ)) → option_flatten (option_map (λ parts. normal_name parts.1) (described path qs)) ≡ last_name path qs
unfolding described
name_described path [] = refl
name_described path (q ∷ qs) = refl

pub file_name_is : (path : List ℕ) → path_file_name path ≡ file_name path
unfolding path_file_name file_name
file_name_is path = ap (λ r. option_flatten (option_map (λ parts. normal_name parts.1) r)) (known path).parts ∙ name_described path (from_last path)
