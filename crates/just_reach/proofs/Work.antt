-- The work of the walk: what the bodies of the names that are not called yet may still add.
use Rattle.std.proofs.Common.{◌≡◌, ◌⊎◌, inl, inr, ⊎_elim, ◌+◌, ◌≤◌, ◌<◌, ℕ, Bool, true, false, cond, List, [], ◌∷◌, ◌++◌, length, map, Option, Some, None}
use Rattle.std.proofs.Common.{IsTrue, refl, ap, sym, ◌∙◌, arith, drop, length-append}
use Rattle.std.proofs.lemmas.List.{drop-append-le, drop-map, length-map}
use Rattle.std.specs.List.{flat_map}
use Rattle.std.specs.Str.{bytes_eq}
use Rattle.std.proofs.lemmas.Slice.Eq.{bytes_eq-Decides}
use Rattle.just_syntax.specs.Plain.{Text, Function}
use Rattle.just_syntax.specs.Lists.{IsIn}
use Rattle.just_meaning.specs.Reaches.{function_at}
use Rattle.just_meaning.proofs.Names.{AddsName}
use Rattle.just_reach.specs.Member.{PlainMember}
use Rattle.just_reach.specs.Members.{body_members, members_of_body}

-- the names of functions
abbrev pub function_names : List Function → List Text
function_names fs = map (λ f. f.name.lexeme) fs

module _ (fs : List Function) where
  -- how many members the bodies of these names have, if they are not called yet
  abbrev pub member_work : List Text → (Text → Bool) → ℕ
  member_work [] called = 0
  member_work (t ∷ ts) called = cond (called t) 0 (length (body_members fs t)) + member_work ts called

  -- with no name called, it is all members of bodies
  pub work_begins : (called : Text → Bool) → ((t : Text) → called t ≡ false) → (gs : List Function)
      → member_work (function_names gs) called ≡ length (flat_map (λ (g : Function). body_members fs g.name.lexeme) gs)
  work_begins called none [] = refl
  work_begins called none (g ∷ gs) =
      let rest = work_begins called none gs in
      let here : cond (called g.name.lexeme) 0 (length (body_members fs g.name.lexeme)) ≡ length (body_members fs g.name.lexeme) =
      ap (λ b. cond b 0 (length (body_members fs g.name.lexeme))) (none g.name.lexeme) in
      omega (arith, here, rest, length-append (body_members fs g.name.lexeme) (flat_map (λ (f : Function). body_members fs f.name.lexeme) gs))

  -- a name that no function has adds nothing
  body_known : (gs : List Function) (name : Text) → IsIn (function_names gs) name ⊎ (function_at gs name ≡ None)
  body_known [] name = inr refl
  body_known (g ∷ gs) name = by (bytes_eq name g.name.lexeme) refl (body_known gs name)
    where
      by : (b : Bool) → bytes_eq name g.name.lexeme ≡ b → IsIn (function_names gs) name ⊎ (function_at gs name ≡ None)
          → IsIn (function_names (g ∷ gs)) name ⊎ (cond b (Some g) (function_at gs name) ≡ None)
      by true is rest = inl (inl (sym ((bytes_eq-Decides name g.name.lexeme).0 is)))
      by false is rest = ⊎_elim (λ h. inl (inr h)) (λ none. inr none) rest

  module _ (old new : Text → Bool) (name : Text) (adds : AddsName old new name) where
    part_kept : (a b : Bool) (k : ℕ) → (IsTrue a → IsTrue b) → cond b 0 k ≤ cond a 0 k
    part_kept true true k h = omega arith
    part_kept true false k h = absurd (let e : false ≡ true = h refl in cc)
    part_kept false true k h = omega arith
    part_kept false false k h = omega arith

    kept : (t : Text) → cond (new t) 0 (length (body_members fs t)) ≤ cond (old t) 0 (length (body_members fs t))
    kept t = part_kept (old t) (new t) (length (body_members fs t)) (λ h. (adds t).1 (inr h))

    pub work_kept : (ts : List Text) → member_work ts new ≤ member_work ts old
    work_kept [] = omega arith
    work_kept (t ∷ ts) = let here = kept t in let rest = work_kept ts in omega (arith, here, rest)

    part_falls : (a b : Bool) (k : ℕ) → a ≡ false → b ≡ true → cond b 0 k + k ≤ cond a 0 k
    part_falls true b k off on = absurd (cc)
    part_falls false true k off on = omega arith
    part_falls false false k off on = absurd (cc)

    work_falls : (ts : List Text) → old name ≡ false → IsIn ts name → member_work ts new + length (body_members fs name) ≤ member_work ts old
    work_falls [] off h = absurd h
    work_falls (t ∷ ts) off (inl same) =
        let here = part_falls (old t) (new t) (length (body_members fs t)) (ap old same ∙ off) ((adds t).1 (inl (sym same))) in
        let size : length (body_members fs t) ≡ length (body_members fs name) = ap (λ (u : Text). length (body_members fs u)) same in
        let rest = work_kept ts in
        omega (arith, here, size, rest)
    work_falls (t ∷ ts) off (inr later) = let here = kept t in let rest = work_falls ts off later in omega (arith, here, rest)

    pub work_left : old name ≡ false → member_work (function_names fs) new + length (body_members fs name) ≤ member_work (function_names fs) old
    work_left off = ⊎_elim (work_falls (function_names fs) off)
        (λ none. let size : length (body_members fs name) ≡ 0 = ap (λ (o : Option Function). length (members_of_body fs [] o)) none in
        let rest = work_kept (function_names fs) in omega (arith, size, rest)) (body_known fs name)

    -- the first pending member is passed, and the members in the body of its name are pending
    pub falls : (m : PlainMember) (pending rest next : List PlainMember) → old name ≡ false → pending ≡ m ∷ rest → next ≡ rest ++ body_members fs name
        → member_work (function_names fs) new + length next < member_work (function_names fs) old + length pending
    falls m pending rest next off is more =
        let left = work_left off in
        let size : length pending ≡ length (m ∷ rest) = ap length is in
        let grown : length next ≡ length rest + length (body_members fs name) = ap length more ∙ length-append rest (body_members fs name) in
        omega (arith, left, size, grown)

-- the rest of a list to which something is added
pub rest_added : {X Y : Type 0} (f : X → Y) (xs ys : List X) (added : List Y) (i : ℕ) → map f ys ≡ map f xs ++ added → i ≤ length xs
    → map f (drop i ys) ≡ map f (drop i xs) ++ added
rest_added f xs ys added i is within =
    let inside : i ≤ length (map f xs) = omega (arith, length-map xs f) in
    sym (drop-map f i ys) ∙ ap (drop i) is ∙ drop-append-le i (map f xs) added inside ∙ ap (λ zs. zs ++ added) (drop-map f i xs)
