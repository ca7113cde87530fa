-- Maps of lists of nodes, after a list is removed or inserted.
use Rattle.std.proofs.Common.{◌≡◌, ◌↔◌, ◌⊎◌, inl, inr, ⊎_elim, ℕ, Bool, true, false, cond, List, [], ◌∷◌, ◌++◌, map, Option, Some, None, Vec, Bor, IsTrue, refl}
use Rattle.std.proofs.Common.{ap, sym, ◌∙◌, subst}
use Rattle.std.specs.Bool.{Decides}
use Rattle.std.specs.Global.{Global}
use Rattle.std.specs.BTreeMap.{BTreeMap, get, is_at}
use Rattle.std.specs.Cmp.Lexicographic.{slice_cmp}
use Rattle.std.specs.Map.{lookup}
use Rattle.std.specs.Ordering.{is_eq, nat_cmp}
use Rattle.just_changes.specs.Prelude.{IsIn, OfFunction, OfVariable, PlainNode, Text, all_read, found_nodes, nodes_view, readers_of}
use Rattle.just_meaning.proofs.Names.{name_cmp, name_decides}
use Rattle.just_syntax.proofs.Lists.{in_append, in_first, in_second}
use Rattle.just_syntax.proofs.Members.{number_decides}
use Rattle.just_changes.specs.declared.readers.Readers.{Readers}
use Rattle.just_needs.specs.Graph.{AreAll}
use Rattle.just_needs.specs.declared.node.Node as declared

-- other keys keep their lists
pub apart : {X P : Type 0} (b : Bool) (w o : Option X) → Decides b P → (P → ⊥) → cond b w o ≡ o
apart true w o d none = absurd (none (d.0 refl))
apart false w o d none = refl

abbrev Lists : Type 0
Lists = Vec declared.Node Global

reader_by : {P : Type 0} (b : Bool) (old mid new : Option Lists) (all : Lists) (reader y : PlainNode) → Decides b P → mid ≡ cond b None old
    → new ≡ cond b (Some all) mid → (P → nodes_view all.items ≡ found_nodes old ++ reader ∷ []) →
    IsIn (found_nodes new) y ↔ ((P × (reader ≡ y)) ⊎ IsIn (found_nodes old) y)
reader_by true old mid new all reader y d removed inserted items =
    let same : found_nodes new ≡ found_nodes old ++ reader ∷ [] = ap found_nodes inserted ∙ items (d.0 refl) in
    let more = in_append (found_nodes old) (reader ∷ []) y in (
      (λ h. ⊎_elim (λ k. inr k) (λ k. ⊎_elim (λ e. inl (d.0 refl, e)) (λ bad. absurd bad) k) (more.0 (subst (λ ys. IsIn ys y) same h))),
      (λ h. subst (λ ys. IsIn ys y) (sym same) (more.1 (⊎_elim (λ k. inr (inl k.1)) (λ k. inl k) h))),
    )
reader_by false old mid new all reader y d removed inserted items =
    let same : found_nodes new ≡ found_nodes old = ap found_nodes (inserted ∙ removed) in (
      (λ h. inr (subst (λ ys. IsIn ys y) same h)),
      (λ h. ⊎_elim (λ k. absurd (let e : false ≡ true = d.1 k.0 in cc)) (λ k. subst (λ ys. IsIn ys y) (sym same) k) h),
    )

abbrev lists_named : BTreeMap (Bor Text) Lists → Text → Option Lists
lists_named m t = lookup (is_at (λ (k : Bor Text). slice_cmp nat_cmp t k.now)) m.entries

abbrev lists_numbered : BTreeMap ℕ Lists → ℕ → Option Lists
lists_numbered m n = lookup (is_at (nat_cmp n)) m.entries

pub function_reader : (old mid new : BTreeMap (Bor Text) Lists) (name : Bor Text) (all : Lists) (reader : PlainNode)
    → ((q : Bor Text) → get name_cmp mid q ≡ cond (is_at (name_cmp name) q) None (get name_cmp old q))
    → ((q : Bor Text) → get name_cmp new q ≡ cond (is_at (name_cmp name) q) (Some all) (get name_cmp mid q))
    → nodes_view all.items ≡ found_nodes (lists_named old name.now) ++ reader ∷ [] → (t : Text) (y : PlainNode) → IsIn (found_nodes (lists_named new t)) y
    ↔ (((name.now ≡ t) × (reader ≡ y)) ⊎ IsIn (found_nodes (lists_named old t)) y)
function_reader old mid new name all reader removed inserted items t y =
    reader_by (is_eq (slice_cmp nat_cmp name.now t)) (lists_named old t) (lists_named mid t) (lists_named new t) all reader y (name_decides name.now t)
    (removed (record { ref_ptr = (0, 0); now = t })) (inserted (record { ref_ptr = (0, 0); now = t }))
    (λ e. items ∙ ap (λ (s : Text). found_nodes (lists_named old s) ++ reader ∷ []) e)

pub variable_reader : (old mid new : BTreeMap ℕ Lists) (k : ℕ) (all : Lists) (reader : PlainNode)
    → ((q : ℕ) → get nat_cmp mid q ≡ cond (is_at (nat_cmp k) q) None (get nat_cmp old q))
    → ((q : ℕ) → get nat_cmp new q ≡ cond (is_at (nat_cmp k) q) (Some all) (get nat_cmp mid q))
    → nodes_view all.items ≡ found_nodes (lists_numbered old k) ++ reader ∷ [] → (n : ℕ) (y : PlainNode) → IsIn (found_nodes (lists_numbered new n)) y
    ↔ (((k ≡ n) × (reader ≡ y)) ⊎ IsIn (found_nodes (lists_numbered old n)) y)
variable_reader old mid new k all reader removed inserted items n y =
    reader_by (is_at (nat_cmp k) n) (lists_numbered old n) (lists_numbered mid n) (lists_numbered new n) all reader y (number_decides k n) (removed n)
    (inserted n)
    (λ e. items ∙ ap (λ (j : ℕ). found_nodes (lists_numbered old j) ++ reader ∷ []) e)

-- a key that has no list has no readers
key_found : {K : Type 0} (f : K → PlainNode) (x : PlainNode) (test : K → Bool) → ((k : K) → IsTrue (test k) → f k ≡ x) → (es : List (K × Lists))
    → IsIn (map (λ e. f e.0) es) x ⊎ (found_nodes (lookup test es) ≡ [])
key_found f x test right [] = inr refl
key_found f x test right (e ∷ es) = by (test e.0) refl (key_found f x test right es)
  where
    by : (b : Bool) → test e.0 ≡ b → IsIn (map (λ e. f e.0) es) x ⊎ (found_nodes (lookup test es) ≡ [])
        → IsIn (map (λ e. f e.0) (e ∷ es)) x ⊎ (found_nodes (cond b (Some e.1) (lookup test es)) ≡ [])
    by true is rest = inl (inl (right e.0 is))
    by false is rest = ⊎_elim (λ h. inl (inr h)) (λ none. inr none) rest

abbrev functions : Readers → List PlainNode
functions r = map (λ e. OfFunction e.0.now) r.of_functions.entries

abbrev variables : Readers → List PlainNode
variables r = map (λ e. OfVariable e.0) r.of_variables.entries

pub are_all : (r : Readers) → AreAll (readers_of r) (all_read r)
are_all r (OfFunction t) = ⊎_elim (λ h. inl (in_first (functions r) (variables r) (OfFunction t) h)) (λ none. inr none)
    (key_found (λ (k : Bor Text). OfFunction k.now) (OfFunction t) (is_at (λ (k : Bor Text). slice_cmp nat_cmp t k.now))
    (λ k h. ap OfFunction (sym ((name_decides t k.now).0 h))) r.of_functions.entries)
are_all r (OfVariable n) = ⊎_elim (λ h. inl (in_second (functions r) (variables r) (OfVariable n) h)) (λ none. inr none)
    (key_found OfVariable (OfVariable n) (is_at (nat_cmp n)) (λ k h. ap OfVariable (sym ((number_decides n k).0 h))) r.of_variables.entries)

-- one kind of node by its name or number, the other unchanged
renamed : {P Q R A B : Type 0} → (P → Q) → (Q → P) → B ↔ ((P × R) ⊎ A) → B ↔ ((Q × R) ⊎ A)
renamed on back h = ((λ b. ⊎_elim (λ p. inl (on p.0, p.1)) (λ a. inr a) (h.0 b)), (λ s. h.1 (⊎_elim (λ q. inl (back q.0, q.1)) (λ a. inr a) s)))

pub as_function : {R A B : Type 0} {s t : Text} → B ↔ (((s ≡ t) × R) ⊎ A) → B ↔ (((OfFunction s ≡ OfFunction t) × R) ⊎ A)
as_function = renamed (λ e. ap OfFunction e) (λ e. cc)

pub as_variable : {R A B : Type 0} {k n : ℕ} → B ↔ (((k ≡ n) × R) ⊎ A) → B ↔ (((OfVariable k ≡ OfVariable n) × R) ⊎ A)
as_variable = renamed (λ e. ap OfVariable e) (λ e. cc)

pub as_before : {P R A : Type 0} → (P → ⊥) → A ↔ ((P × R) ⊎ A)
as_before none = ((λ a. inr a), (λ h. ⊎_elim (λ p. absurd (none p.0)) (λ a. a) h))
