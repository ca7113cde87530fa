-- A table that lists each short name next to its long form.
use Rattle.std.proofs.Common.{◌≡◌, ◌-◌, Bool, true, false, cond, if◌then◌else◌, List, [], ◌∷◌, ◌++◌, ◌&&◌, ◌||◌, Option, Some, None, refl, sym, ap, subst, ◌∙◌}
use Rattle.std.proofs.Common.{arith, length, drop, map, codes, nat_eq, bytes_eq, find, is_some, option_map}
use Rattle.std.specs.List.{ends_with, list_all}
use Rattle.std.proofs.lemmas.Bool.{and_parts}
use Rattle.std.proofs.lemmas.Bool.Decides.{same_from_decides}
use Rattle.std.proofs.lemmas.List.{append-nil, drop_at, take_at, take-append-drop, length-append}
use Rattle.std.proofs.lemmas.Slice.Eq.{bytes_eq-Decides}
use Rattle.just_builtins.specs.Prelude.{Text, find_in, whole_name}
use Rattle.just_builtins.specs.declared.function.Function.{Function}
use Rattle.just_builtins.specs.Table.{is_among, without_last}

-- if the name ends with `long`, the table has the name with `short` instead
abbrev occurs : (long short : Text) → List Text → Text → Bool
occurs long short written name = cond (ends_with nat_eq name long) (is_among written (without_last name (length long) ++ short)) true

-- the table has each name, and each short form of it
abbrev pub spells_out : List Text → List Text → Bool
spells_out written names = list_all (occurs [] [] written) names && (list_all (occurs (codes "_directory") (codes "_dir") written) names
    && list_all (occurs (codes "_directory_native") (codes "_dir_native") written) names)

-- a text ends with its own suffix
ends : (front back : Text) → ends_with nat_eq (front ++ back) back ≡ true
ends front back =
    let rest : drop (length (front ++ back) - length back) (front ++ back) ≡ back = drop_at front back _ (omega (arith, length-append front back)) in
    (bytes_eq-Decides back _).1 (sym rest)

front_of : (front back : Text) → without_last (front ++ back) (length back) ≡ front
front_of front back = take_at front back _ (omega (arith, length-append front back))

-- a text that ends with `back` is what precedes it, followed by `back`
parts : (name back : Text) → ends_with nat_eq name back ≡ true → without_last name (length back) ++ back ≡ name
parts name back is = ap (λ t. without_last name (length back) ++ t) ((bytes_eq-Decides back _).0 is) ∙ take-append-drop (length name - length back) name

-- a test that all names pass is passed by each name among them
passes : (p : Text → Bool) (names : List Text) (name : Text) → list_all p names ≡ true → is_among names name ≡ true → p name ≡ true
passes p [] name all among = absurd (cc)
passes p (n ∷ names) name all among =
    let both = and_parts (p n) (list_all p names) all in
    elim (bytes_eq n name) as (λ b. bytes_eq n name ≡ b → (b || is_among names name) ≡ true → p name ≡ true) [
      | true ↦ λ same _. sym (ap p ((bytes_eq-Decides n name).0 same)) ∙ both.0
      | false ↦ λ _ later. passes p names name both.1 later
    ] refl among

-- if a name that ends with `long` is among the names, the table has its short form
shorter : (long short front : Text) (written names : List Text) → list_all (occurs long short written) names ≡ true → is_among names (front ++ long) ≡ true
    → is_among written (front ++ short) ≡ true
shorter long short front written names all among =
    let there = is_among written (without_last (front ++ long) (length long) ++ short) in
    ap (λ t. is_among written (t ++ short)) (sym (front_of front long)) ∙ ap (λ b. cond b there true) (sym (ends front long))
    ∙ passes (occurs long short written) names (front ++ long) all among

module _ (written names : List Text) (all : spells_out written names ≡ true) where
  -- the table has each name whose long form is among the names
  spelled : (name : Text) → is_among names (whole_name name) ≡ true → is_among written name ≡ true
  spelled name among =
      let short = codes "_dir" in
      let native = codes "_dir_native" in
      let whole = list_all (occurs [] [] written) names in
      let first = list_all (occurs (codes "_directory") short written) names in
      let second = list_all (occurs (codes "_directory_native") native written) names in
      let each = and_parts whole (first && second) all in
      let others = and_parts first second each.1 in
      let front = without_last name 4 in
      let native_front = without_last name 11 in
      elim (ends_with nat_eq name short) as (λ b. ends_with nat_eq name short ≡ b
      → is_among names (if b then front ++ codes "_directory" else (if ends_with nat_eq name native then native_front ++ codes "_directory_native"
      else name)) ≡ true → is_among written name ≡ true) [
        | true ↦ λ is found. subst (λ t. is_among written t ≡ true) (parts name short is)
            (shorter (codes "_directory") short front written names others.0 found)
        | false ↦ λ _. elim (ends_with nat_eq name native) as (λ b. ends_with nat_eq name native ≡ b
            → is_among names (if b then native_front ++ codes "_directory_native" else name) ≡ true → is_among written name ≡ true) [
              | true ↦ λ is found. subst (λ t. is_among written t ≡ true) (parts name native is)
                  (shorter (codes "_directory_native") native native_front written names others.1 found)
              | false ↦ λ _ found. subst (λ t. is_among written t ≡ true) (append-nil name)
                  (shorter [] [] name written names each.0 (subst (λ t. is_among names t ≡ true) (sym (append-nil name)) found))
            ] refl
      ] refl among

  -- so the table has exactly those names, if the long form of each of its names is among them
  pub same_among : list_all (λ name. is_among names (whole_name name)) written ≡ true → (name : Text) → is_among written name ≡ is_among names (whole_name name)
  same_among back name =
      let P : Type 0 = is_among names (whole_name name) ≡ true in
      same_from_decides {P = P} (is_among written name) (is_among names (whole_name name)) (
        passes (λ t. is_among names (whole_name t)) written name back,
        spelled name,
      ) (λ is. is, λ is. is)

-- an entry is found exactly if its name is among the names
named : (entries : List (Text × Function)) (name : Text) → is_some (find_in entries name) ≡ is_among (map (λ entry. entry.0) entries) name
named [] name = refl
named (e ∷ es) name = elim (bytes_eq e.0 name) as (λ b. is_some (option_map (λ entry. entry.1) (cond b (Some e) (find (λ entry. bytes_eq entry.0 name) es)))
    ≡ (b || is_among (map (λ entry. entry.0) es) name)) [ true ↦ refl | false ↦ named es name ]

-- the entry found for a name has the function g gives, if that holds for each entry
agreed : (g : Text → Option Function) (entries : List (Text × Function)) (name : Text) (f : Function)
    → map (λ entry. g entry.0) entries ≡ map (λ entry. Some entry.1) entries → find_in entries name ≡ Some f → g name ≡ Some f
agreed g [] name f all found = absurd (cc)
agreed g (e ∷ es) name f all found =
    let head : g e.0 ≡ Some e.1 = cc in
    let tail : map (λ entry. g entry.0) es ≡ map (λ entry. Some entry.1) es = cc in
    elim (bytes_eq e.0 name) as (λ b. bytes_eq e.0 name ≡ b → option_map (λ entry. entry.1) (cond b (Some e) (find (λ entry. bytes_eq entry.0 name) es))
    ≡ Some f → g name ≡ Some f) [
      | true ↦ λ same here. sym (ap g ((bytes_eq-Decides e.0 name).0 same)) ∙ head ∙ here
      | false ↦ λ _ later. agreed g es name f tail later
    ] refl found

-- a table of long and short names gives the same look-ups as the table of long names alone
pub same_found : (written entries : List (Text × Function)) → spells_out (map (λ entry. entry.0) written) (map (λ entry. entry.0) entries) ≡ true
    → map (λ entry. find_in entries (whole_name entry.0)) written ≡ map (λ entry. Some entry.1) written → (name : Text)
    → find_in written name ≡ find_in entries (whole_name name)
same_found written entries all each name =
    elim (find_in written name) as (λ o. find_in written name ≡ o → o ≡ find_in entries (whole_name name)) [
      | Some f ↦ λ is. sym (agreed (λ t. find_in entries (whole_name t)) written name f each is)
      | None ↦ λ is. elim (find_in entries (whole_name name)) as (λ o. find_in entries (whole_name name) ≡ o → None ≡ o) [
        | Some f ↦ λ there.
            let among =
            spelled (map (λ entry. entry.0) written) (map (λ entry. entry.0) entries) all name (sym (named entries (whole_name name)) ∙ ap is_some there) in
            let missing : false ≡ true = sym (ap is_some is) ∙ named written name ∙ among in
            absurd (cc)
        | None ↦ λ _. refl
      ] refl
    ] refl
