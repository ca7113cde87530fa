-- Two versions can differ only at nodes that one of them knows.
use Rattle.std.proofs.Common.{◌≡◌, ◌⊎◌, inl, inr, ⊎_elim, ℕ, Bool, true, false, cond, List, [], ◌∷◌, ◌++◌, map, nat_eq, if◌then◌else◌, Some, None, refl, ap}
use Rattle.std.proofs.Common.{sym, ◌∙◌, subst, arith, string_bytes, option_map}
use Rattle.std.specs.HashMap.{keys}
use Rattle.std.specs.Map.{keys_of, lookup}
use Rattle.std.specs.Str.{bytes_eq}
use Rattle.std.proofs.lemmas.Bool.Decides.{nat_tests}
use Rattle.std.proofs.lemmas.Slice.Eq.{bytes_eq-Decides}
use Rattle.just_changes.specs.Prelude.{Assignment, Function, IsIn, IsUnchanged, IsWhole, OfFunction, OfVariable, PlainNode, Text, Version, all_nodes}
use Rattle.just_changes.specs.Prelude.{assignment_numbered, assignment_view, function_at, function_view, version_view}
use Rattle.just_syntax.proofs.Lists.{in_append, in_first, in_second}
use Rattle.just_changes.specs.declared.version.Version.{Version as Declared}

-- the version has nothing at this node
abbrev pub IsAbsent : Version → PlainNode → Type 0
IsAbsent v (OfFunction t) = v.function t ≡ None
IsAbsent v (OfVariable n) = (v.assignment n ≡ None) × (v.override n ≡ None)

assignments_covered : (all : List Assignment) (n : ℕ) → IsIn (map (λ a. OfVariable a.number) all) (OfVariable n) ⊎ (assignment_numbered all n ≡ None)
assignments_covered [] n = inr refl
assignments_covered (a ∷ more) n = by (nat_eq a.number n) refl (assignments_covered more n)
  where
    by : (b : Bool) → nat_eq a.number n ≡ b → IsIn (map (λ a. OfVariable a.number) more) (OfVariable n) ⊎ (assignment_numbered more n ≡ None)
        → ((OfVariable a.number ≡ OfVariable n) ⊎ IsIn (map (λ a. OfVariable a.number) more) (OfVariable n))
        ⊎ ((if b then Some a else assignment_numbered more n) ≡ None)
    by true is rest = inl (inl (let e : a.number ≡ n = grind (arith, nat_tests) in ap OfVariable e))
    by false is rest = ⊎_elim (λ k. inl (inr k)) (λ k. inr k) rest

functions_covered : (fs : List Function) (t : Text) → IsIn (map (λ f. OfFunction f.name.lexeme) fs) (OfFunction t) ⊎ (function_at fs t ≡ None)
functions_covered [] t = inr refl
functions_covered (f ∷ more) t = by (bytes_eq t f.name.lexeme) refl (functions_covered more t)
  where
    by : (b : Bool) → bytes_eq t f.name.lexeme ≡ b → IsIn (map (λ f. OfFunction f.name.lexeme) more) (OfFunction t) ⊎ (function_at more t ≡ None)
        → ((OfFunction f.name.lexeme ≡ OfFunction t) ⊎ IsIn (map (λ f. OfFunction f.name.lexeme) more) (OfFunction t))
        ⊎ (cond b (Some f) (function_at more t) ≡ None)
    by true is rest = inl (inl (ap OfFunction (sym ((bytes_eq-Decides t f.name.lexeme).0 is))))
    by false is rest = ⊎_elim (λ k. inl (inr k)) (λ k. inr k) rest

overrides_covered : {X : Type 0} (es : List (ℕ × X)) (n : ℕ) → IsIn (map OfVariable (keys_of es)) (OfVariable n) ⊎ (lookup (nat_eq n) es ≡ None)
overrides_covered [] n = inr refl
overrides_covered (e ∷ more) n = by (nat_eq n e.0) refl (overrides_covered more n)
  where
    by : (b : Bool) → nat_eq n e.0 ≡ b → IsIn (map OfVariable (keys_of more)) (OfVariable n) ⊎ (lookup (nat_eq n) more ≡ None)
        → ((OfVariable e.0 ≡ OfVariable n) ⊎ IsIn (map OfVariable (keys_of more)) (OfVariable n)) ⊎ (cond b (Some e.1) (lookup (nat_eq n) more) ≡ None)
    by true is rest = inl (inl (let k : e.0 ≡ n = grind (arith, nat_tests) in ap OfVariable k))
    by false is rest = ⊎_elim (λ k. inl (inr k)) (λ k. inr k) rest

-- one of three lists
module _ (xs ys zs : List PlainNode) (x : PlainNode) where
  first : IsIn xs x → IsIn (xs ++ ys ++ zs) x
  first h = in_first (xs ++ ys) zs x (in_first xs ys x h)

  second : IsIn ys x → IsIn (xs ++ ys ++ zs) x
  second h = in_first (xs ++ ys) zs x (in_second xs ys x h)

  third : IsIn zs x → IsIn (xs ++ ys ++ zs) x
  third h = in_second (xs ++ ys) zs x h

abbrev variable_nodes : Declared → List PlainNode
variable_nodes v = map (λ a. OfVariable a.number) (map assignment_view v.assignments.now)

abbrev function_nodes : Declared → List PlainNode
function_nodes v = map (λ f. OfFunction f.name.lexeme) (map function_view v.functions.now)

abbrev overridden_nodes : Declared → List PlainNode
overridden_nodes v = map OfVariable (keys v.overrides.now)

pub covered : (v : Declared) → IsWhole v → (x : PlainNode) → IsIn (all_nodes v) x ⊎ IsAbsent (version_view v) x
covered v whole (OfFunction t) =
    ⊎_elim (λ k. inl (second (variable_nodes v) (function_nodes v) (overridden_nodes v) (OfFunction t) k)) (λ k. inr k)
    (functions_covered (map function_view v.functions.now) t)
covered v whole (OfVariable n) =
    ⊎_elim (λ k. inl (first (variable_nodes v) (function_nodes v) (overridden_nodes v) (OfVariable n) k))
    (λ none. ⊎_elim (λ k. inl (third (variable_nodes v) (function_nodes v) (overridden_nodes v) (OfVariable n) k))
    (λ k. inr (whole n ∙ none, ap (λ o. option_map string_bytes o) k))
    (overrides_covered v.overrides.now.entries n))
    (assignments_covered (map assignment_view v.assignments.now) n)

absent_same : (v u : Version) (x : PlainNode) → IsAbsent v x → IsAbsent u x → IsUnchanged v u x
absent_same v u (OfFunction t) h k = h ∙ sym k
absent_same v u (OfVariable n) h k = (h.0 ∙ sym k.0, h.1 ∙ sym k.1)

-- what neither version knows is the same, and what one of them knows was compared
pub all_compared : (v u : Declared) → IsWhole v → IsWhole u → (nodes different : List PlainNode) → nodes ≡ all_nodes v ++ all_nodes u
    → ((x : PlainNode) → IsIn nodes x → IsIn different x ⊎ IsUnchanged (version_view v) (version_view u) x) → (x : PlainNode)
    → IsIn different x ⊎ IsUnchanged (version_view v) (version_view u) x
all_compared v u whole other nodes different is compared x =
    ⊎_elim (λ k. compared x (subst (λ ys. IsIn ys x) (sym is) (in_first (all_nodes v) (all_nodes u) x k)))
    (λ none. ⊎_elim (λ k. compared x (subst (λ ys. IsIn ys x) (sym is) (in_second (all_nodes v) (all_nodes u) x k)))
    (λ no_other. inr (absent_same (version_view v) (version_view u) x none no_other)) (covered u other x))
    (covered v whole x)

-- ---- one node after another

module _ (S : PlainNode → Type 0) (taken different : List PlainNode) (node : PlainNode) (all : (x : PlainNode) → IsIn taken x → IsIn different x ⊎ S x) where
  -- a node that is the same
  pub same_compared : S node → (next : List PlainNode) → next ≡ taken ++ node ∷ [] → (x : PlainNode) → IsIn next x → IsIn different x ⊎ S x
  same_compared same next is x h =
      ⊎_elim (λ k. all x k) (λ k. ⊎_elim (λ e. inr (subst S e same)) (λ bad. absurd bad) k) ((in_append taken (node ∷ []) x).0 (subst (λ ys. IsIn ys x) is h))

  -- a node that differs
  pub different_compared : (next more : List PlainNode) → next ≡ taken ++ node ∷ [] → more ≡ different ++ node ∷ [] → (x : PlainNode) → IsIn next x
      → IsIn more x ⊎ S x
  different_compared next more is now x h =
      let there : IsIn (different ++ node ∷ []) x → IsIn more x = (λ k. subst (λ ys. IsIn ys x) (sym now) k) in
      ⊎_elim (λ k. ⊎_elim (λ j. inl (there (in_first different (node ∷ []) x j))) (λ s. inr s) (all x k))
      (λ k. inl (there (in_second different (node ∷ []) x k)))
      ((in_append taken (node ∷ []) x).0 (subst (λ ys. IsIn ys x) is h))

pub differ_more : (S : PlainNode → Type 0) (different more : List PlainNode) (node : PlainNode) → more ≡ different ++ node ∷ [] → (S node → ⊥)
    → ((x : PlainNode) → IsIn different x → S x → ⊥) → (x : PlainNode) → IsIn more x → S x → ⊥
differ_more S different more node now other differ x h same =
    ⊎_elim (λ k. differ x k same) (λ k. ⊎_elim (λ e. other (subst S (sym e) same)) (λ bad. bad) k)
    ((in_append different (node ∷ []) x).0 (subst (λ ys. IsIn ys x) now h))
