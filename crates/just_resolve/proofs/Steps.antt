-- The steps of a walk.
use Rattle.std.proofs.Common.{◌≡◌, ◌↔◌, inl, inr, ⊎_elim, ℕ, List, [], ◌∷◌, ◌++◌, map, reverse, refl, ap, sym, ◌∙◌, subst}
use Rattle.std.proofs.lemmas.List.{append_assoc, append-nil, reverse-append}
use Rattle.std.proofs.lemmas.List.Concat.{flat_map-append}
use Rattle.just_syntax.proofs.Lists.{in_append}
use Rattle.just_resolve.specs.Prelude.{Enter, IsIn, Leave, OfVariable, PlainNode, PlainStep, all_entered, path_in, variable_in, variables_in}
use Rattle.just_resolve.specs.Walk.{entered_node}

-- the last node is entered first
pub entered_last : (xs : List PlainNode) (x : PlainNode) → all_entered (xs ++ x ∷ []) ≡ Enter x ∷ all_entered xs
entered_last xs x = ap (map Enter) (reverse-append xs (x ∷ []))

-- the steps so far, and then those of nodes of which the last was moved
pub entered_more : (old new : List PlainStep) (xs : List PlainNode) (x : PlainNode) → new ≡ old ++ Enter x ∷ []
    → new ++ all_entered xs ≡ old ++ all_entered (xs ++ x ∷ [])
entered_more old new xs x is =
    ap (λ ss. ss ++ all_entered xs) is ∙ append_assoc old (Enter x ∷ []) (all_entered xs) ∙ ap (λ ss. old ++ ss) (sym (entered_last xs x))

-- ---- membership

pub in_reverse : {A : Type 0} (xs : List A) (x : A) → IsIn (reverse xs) x ↔ IsIn xs x
in_reverse [] x = ((λ h. h), (λ h. h))
in_reverse (y ∷ ys) x =
    let rest = in_reverse ys x in
    let both = in_append (reverse ys) (y ∷ []) x in
    let is : reverse (y ∷ ys) ≡ reverse ys ++ y ∷ [] = reverse-append (y ∷ []) ys in (
      (λ h. ⊎_elim (λ k. inr (rest.0 k)) (λ k. ⊎_elim (λ e. inl e) (λ bad. absurd bad) k) (both.0 (subst (λ zs. IsIn zs x) is h))),
      (λ h. subst (λ zs. IsIn zs x) (sym is) (both.1 (⊎_elim (λ e. inr (inl e)) (λ k. inl (rest.1 k)) h))),
    )

in_map_enter : (xs : List PlainNode) (x : PlainNode) → IsIn (map Enter xs) (Enter x) ↔ IsIn xs x
in_map_enter [] x = ((λ h. h), (λ h. h))
in_map_enter (y ∷ ys) x =
    let rest = in_map_enter ys x in (
      (λ h. ⊎_elim (λ e. inl (let bad : Enter y ≡ Enter x = e in let same : y ≡ x = cc in same)) (λ k. inr (rest.0 k)) h),
      (λ h. ⊎_elim (λ e. inl (ap Enter e)) (λ k. inr (rest.1 k)) h),
    )

-- the nodes that are to be entered
pub in_entered : (xs : List PlainNode) (x : PlainNode) → IsIn (all_entered xs) (Enter x) ↔ IsIn xs x
in_entered xs x =
    let a = in_map_enter (reverse xs) x in
    let b = in_reverse xs x in ((λ h. b.0 (a.0 h)), (λ h. a.1 (b.1 h)))

pub in_variables : (ns : List ℕ) (n : ℕ) → IsIn (map OfVariable ns) (OfVariable n) ↔ IsIn ns n
in_variables [] n = ((λ h. h), (λ h. h))
in_variables (k ∷ ns) n =
    let rest = in_variables ns n in (
      (λ h. ⊎_elim (λ e. inl (let bad : OfVariable k ≡ OfVariable n = e in let same : k ≡ n = cc in same)) (λ j. inr (rest.0 j)) h),
      (λ h. ⊎_elim (λ e. inl (ap OfVariable e)) (λ j. inr (rest.1 j)) h),
    )

-- ---- the path

pub path_entered : (xs : List PlainNode) → path_in (map Enter xs) ≡ []
path_entered [] = refl
path_entered (x ∷ xs) = path_entered xs

-- the variables of the path
abbrev pub on_path : List PlainStep → List ℕ
on_path steps = variables_in (path_in steps)

pub on_path-append : (ss ts : List PlainStep) → on_path (ss ++ ts) ≡ on_path ss ++ on_path ts
on_path-append ss ts = ap variables_in (flat_map-append entered_node ss ts) ∙ flat_map-append variable_in (path_in ss) (path_in ts)

pub on_path-enter : (ss : List PlainStep) (x : PlainNode) → on_path (ss ++ Enter x ∷ []) ≡ on_path ss
on_path-enter ss x = on_path-append ss (Enter x ∷ []) ∙ append-nil (on_path ss)

pub on_path-leave : (ss : List PlainStep) (x : PlainNode) → on_path (ss ++ Leave x ∷ []) ≡ on_path ss ++ variable_in x
on_path-leave ss x = on_path-append ss (Leave x ∷ []) ∙ ap (λ ns. on_path ss ++ ns) (append-nil (variable_in x))

pub on_path-begun : (ss : List PlainStep) (x : PlainNode) (xs : List PlainNode) → on_path (ss ++ Leave x ∷ all_entered xs) ≡ on_path ss ++ variable_in x
on_path-begun ss x xs = on_path-append ss (Leave x ∷ all_entered xs)
    ∙ ap (λ ns. on_path ss ++ ns) (ap (λ p. variable_in x ++ variables_in p) (path_entered (reverse xs)) ∙ append-nil (variable_in x))
