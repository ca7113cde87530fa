-- Look-ups of names, one after another.
use Rattle.std.proofs.Common.{◌≡◌, inl, inr, ℕ, Bool, true, false, cond, List, [], ◌∷◌, ◌++◌, Option, Some, None, Bor, map, refl, ap, sym, ◌∙◌, subst}
use Rattle.std.specs.BTreeMap.{is_at}
use Rattle.std.specs.Cmp.Lexicographic.{slice_cmp}
use Rattle.std.specs.Map.{lookup, values_of}
use Rattle.std.specs.Option.{option_or}
use Rattle.std.specs.Ordering.{is_eq, nat_cmp}
use Rattle.std.specs.declared.cmp.Ordering.TheVariants.{Less}
use Rattle.std.proofs.lemmas.Map.Keys.{sorted_head, sorted_tail}
use Rattle.std.proofs.lemmas.Map.Text.{is_eq-slice_cmp}
use Rattle.std.proofs.lemmas.Slice.Eq.{bytes_eq-Decides}
use Rattle.just_value.specs.Frames.{Bound}
use Rattle.std.specs.Str.{bytes_eq}
use Rattle.just_syntax.specs.Keyed.{IsInOrder, value_at}
use Rattle.just_resolve.specs.Prelude.{Frame, IsIn, Text, Token, first_named, frame_names}
use Rattle.just_resolve.proofs.Indexing.{all_in}
use Rattle.just_syntax.proofs.Lists.{in_map}

-- what a look-up finds is in the list
pub found_there : {V : Type 0} (key : V → Text) (name : Text) (all : List V) (v : V) → value_at key name all ≡ Some v → IsIn all v
found_there key name [] v is = absurd (cc)
found_there key name (x ∷ xs) v is = by (λ e. found_there key name xs v e) (bytes_eq name (key x)) is
  where
    by : (value_at key name xs ≡ Some v → IsIn xs v) → (t : Bool) → cond t (Some x) (value_at key name xs) ≡ Some v → IsIn (x ∷ xs) v
    by later true e = inl (let same : x ≡ v = cc in same)
    by later false e = inr (later e)

-- a value of a table is found by its key
pub found_in_order : {V : Type 0} (key : V → Text) (vs : List V) (v : V) → IsInOrder key vs → IsIn vs v → value_at key (key v) vs ≡ Some v
found_in_order key [] v h there = absurd there
found_in_order key (x ∷ xs) v h (inl same) =
    subst (λ y. value_at key (key y) (x ∷ xs) ≡ Some y) same
    (ap (λ t. cond t (Some x) (value_at key (key x) xs)) ((bytes_eq-Decides (key x) (key x)).1 refl))
found_in_order key (x ∷ xs) v h (inr later) =
    by (bytes_eq (key v) (key x)) refl (found_in_order key xs v (sorted_tail (slice_cmp nat_cmp) (key x) (map key xs) h) later)
  where
    less : slice_cmp nat_cmp (key x) (key v) ≡ Less
    less = all_in (λ k. slice_cmp nat_cmp (key x) k ≡ Less) (map key xs) (key v) (sorted_head (slice_cmp nat_cmp) (key x) (map key xs) h)
        ((in_map key xs (key v)).1 (v, later, refl))

    other : key v ≡ key x → ⊥
    other same =
        let on : bytes_eq (key x) (key v) ≡ true = (bytes_eq-Decides (key x) (key v)).1 (sym same) in
        let bad : false ≡ true = ap is_eq (sym less) ∙ is_eq-slice_cmp (key x) (key v) ∙ on in
        cc

    by : (t : Bool) → bytes_eq (key v) (key x) ≡ t → value_at key (key v) xs ≡ Some v → cond t (Some x) (value_at key (key v) xs) ≡ Some v
    by true is rest = absurd (other ((bytes_eq-Decides (key v) (key x)).0 is))
    by false is rest = rest

-- the first of three
pub or_assoc : {A : Type 0} (a b d : Option A) → option_or (option_or a b) d ≡ option_or a (option_or b d)
or_assoc None b d = refl
or_assoc (Some x) b d = refl

pub or_none : {A : Type 0} (a : Option A) → option_or a None ≡ a
or_none None = refl
or_none (Some x) = refl

-- the first of two lists of names
pub first_named-append : (ps qs : List (Token × ℕ)) (t : Text) → first_named (ps ++ qs) t ≡ option_or (first_named ps t) (first_named qs t)
first_named-append [] qs t = refl
first_named-append (p ∷ ps) qs t = by (bytes_eq t p.0.lexeme) (first_named-append ps qs t)
  where
    by : (b : Bool) → first_named (ps ++ qs) t ≡ option_or (first_named ps t) (first_named qs t)
        → cond b (Some p.1) (first_named (ps ++ qs) t) ≡ option_or (cond b (Some p.1) (first_named ps t)) (first_named qs t)
    by true rest = refl
    by false rest = rest

-- a name that was looked up, then one that is looked up now, and then the others
pub looked_on : (old new : Option ℕ) (p : Token × ℕ) (ps : List (Token × ℕ)) (t : Text) → new ≡ option_or old (first_named (p ∷ []) t)
    → option_or new (first_named ps t) ≡ option_or old (first_named (p ∷ ps) t)
looked_on old new p ps t is = ap (λ o. option_or o (first_named ps t)) is ∙ or_assoc old (first_named (p ∷ []) t) (first_named ps t)
    ∙ ap (option_or old) (sym (first_named-append (p ∷ []) ps t))

-- the same for several names that are looked up now
pub looked_more : (old new : Option ℕ) (ps qs : List (Token × ℕ)) (t : Text) → new ≡ option_or old (first_named ps t)
    → option_or new (first_named qs t) ≡ option_or old (first_named (ps ++ qs) t)
looked_more old new ps qs t is =
    ap (λ o. option_or o (first_named qs t)) is ∙ or_assoc old (first_named ps t) (first_named qs t) ∙ ap (option_or old) (sym (first_named-append ps qs t))

-- a frame's bindings, in order, are its names
pub names_of_bindings : (frame : Frame) → map (λ (b : Bound). (b.name, b.number)) (values_of frame) ≡ frame_names frame
names_of_bindings [] = refl
names_of_bindings (e ∷ es) = ap (λ ps. (e.1.name, e.1.number) ∷ ps) (names_of_bindings es)

-- an empty map
pub nothing_named : (es : List (Bor Text × ℕ)) (t : Text) → es ≡ [] → lookup (is_at (λ k. slice_cmp nat_cmp t k.now)) es ≡ None
nothing_named es t empty = ap (lookup (is_at (λ k. slice_cmp nat_cmp t k.now))) empty
