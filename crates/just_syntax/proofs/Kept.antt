-- Lists of entries, each stored under its value's own key.
use Rattle.std.proofs.Common.{◌≡◌, ℕ, cond, List, [], ◌∷◌, map, refl, ap, sym, ◌∙◌, subst, Some, string_bytes}
use Rattle.std.specs.declared.cmp.Ordering.{Ordering}
use Rattle.std.specs.declared.cmp.Ordering.TheVariants.{Less, Equal, Greater}
use Rattle.std.specs.declared.string.String.{String}
use Rattle.std.specs.Ordering.{nat_cmp, match_ordering}
use Rattle.std.specs.Cmp.Lexicographic.{slice_cmp}
use Rattle.std.specs.Str.{bytes_eq}
use Rattle.std.specs.String.{string_cmp}
use Rattle.std.specs.Map.{lookup, keys_of, values_of}
use Rattle.std.specs.BTreeMap.{insert_entry, is_at}
use Rattle.std.specs.List.{AllByRecursion}
use Rattle.std.specs.List.Sorted.{IsStrictlySortedBy}
use Rattle.std.proofs.lemmas.Map.Text.{is_eq-slice_cmp}
use Rattle.std.proofs.lemmas.Map.Lookups.{exact_bytes}
use Rattle.just_syntax.specs.Prelude.{IsInOrder, IsKeyed, value_at, with_value}
use Rattle.just_syntax.proofs.Maps.{map_choice}

module _ {A V : Type 0} (key : V → List ℕ) where
  -- the keys' bytes are the keys of the values
  texts_are_keys : (es : List (String A × V)) → IsKeyed key es → map string_bytes (keys_of es) ≡ map key (values_of es)
  texts_are_keys [] k = refl
  texts_are_keys (e ∷ es) k = ap (λ t. t ∷ map string_bytes (keys_of es)) k.0 ∙ ap (λ ts. key e.1 ∷ ts) (texts_are_keys es k.1)

  -- a look-up by bytes finds the value whose key has these bytes
  pub value_at_kept : (q : List ℕ) (es : List (String A × V)) → IsKeyed key es → lookup (is_at (λ (k : String A). slice_cmp nat_cmp q (string_bytes k))) es
      ≡ value_at key q (values_of es)
  value_at_kept q [] k = refl
  value_at_kept q (e ∷ es) k =
      ap (λ b. cond b (Some e.1) (lookup (is_at (λ (k : String A). slice_cmp nat_cmp q (string_bytes k))) es)) (is_eq-slice_cmp q (string_bytes e.0)
      ∙ ap (bytes_eq q) k.0)
      ∙ ap (cond (bytes_eq q (key e.1)) (Some e.1)) (value_at_kept q es k.1)

  kept_choice : (o : Ordering) (a b c : List (String A × V)) → IsKeyed key a → (o ≡ Equal → IsKeyed key b) → IsKeyed key c
      → IsKeyed key (match_ordering o a b c)
  kept_choice Less a b c p q r = p
  kept_choice Equal a b c p q r = q refl
  kept_choice Greater a b c p q r = r

  -- inserting a value under its own key keeps each value under its own
  pub kept_insert : (es : List (String A × V)) (k : String A) (v : V) → string_bytes k ≡ key v → IsKeyed key es → IsKeyed key (insert_entry string_cmp es k v)
  kept_insert [] k v e h = (e, tt)
  kept_insert (x ∷ xs) k v e h =
      kept_choice (string_cmp k x.0) _ _ _ (e, h) (λ same. (sym (exact_bytes (string_bytes k) (string_bytes x.0) same) ∙ e, h.1))
      (h.0, kept_insert xs k v e h.1)

  -- and the values are the old ones with this one inserted
  pub values_insert : (es : List (String A × V)) (k : String A) (v : V) → string_bytes k ≡ key v → IsKeyed key es → values_of (insert_entry string_cmp es k v)
      ≡ with_value key (values_of es) v
  values_insert [] k v e h = refl
  values_insert (x ∷ xs) k v e h =
      map_choice (λ (e : String A × V). e.1) (string_cmp k x.0) ((k, v) ∷ x ∷ xs) ((x.0, v) ∷ xs) (x ∷ insert_entry string_cmp xs k v)
      ∙ ap (λ o. match_ordering o (v ∷ x.1 ∷ values_of xs) (v ∷ values_of xs) (x.1 ∷ values_of (insert_entry string_cmp xs k v)))
      (ap (λ t. slice_cmp nat_cmp t (string_bytes x.0)) e ∙ ap (slice_cmp nat_cmp (key v)) h.0)
      ∙ ap (λ l. match_ordering (slice_cmp nat_cmp (key v) (key x.1)) (v ∷ x.1 ∷ values_of xs) (v ∷ values_of xs) (x.1 ∷ l)) (values_insert xs k v e h.1)

all_texts : {A : Type 0} (x : String A) (ks : List (String A)) → AllByRecursion (λ y. string_cmp x y ≡ Less) ks
    → AllByRecursion (λ y. slice_cmp nat_cmp (string_bytes x) y ≡ Less) (map string_bytes ks)
all_texts x [] h = tt
all_texts x (k ∷ ks) h = (h.0, all_texts x ks h.1)

texts_sorted : {A : Type 0} (ks : List (String A)) → IsStrictlySortedBy string_cmp ks → IsStrictlySortedBy (slice_cmp nat_cmp) (map string_bytes ks)
unfolding IsStrictlySortedBy
texts_sorted [] h = tt
texts_sorted (k ∷ ks) h = (all_texts k ks h.0, texts_sorted ks h.1)

-- the values are in order
pub in_order : {A V : Type 0} (key : V → List ℕ) (es : List (String A × V)) → IsKeyed key es → IsStrictlySortedBy string_cmp (keys_of es)
    → IsInOrder key (values_of es)
in_order key es k s = subst (IsStrictlySortedBy (slice_cmp nat_cmp)) (texts_are_keys key es k) (texts_sorted (keys_of es) s)
