-- The members of sets after an insertion, and what is mentioned at one more occurrence.
use Rattle.std.proofs.Common.{◌≡◌, ◌↔◌, ◌⊎◌, inl, inr, ⊎_elim, ℕ, true, cond, nat_eq, List, [], ◌∷◌, ◌++◌, map, Option, Some, IsTrue, Bor, ap, sym, ◌∙◌}
use Rattle.std.proofs.Common.{subst}
use Rattle.std.specs.Bool.{Decides}
use Rattle.std.specs.BTreeSet.{BTreeSet}
use Rattle.std.specs.HashSet.{HashSet, contains}
use Rattle.std.specs.declared.hash.BuildHasherDefault.{BuildHasherDefault}
use Rattle.std.specs.declared.hash.FoldHasher.{FoldHasher}
use Rattle.std.proofs.lemmas.Bool.{eq-eqb, eqb-true}
use Rattle.just_syntax.proofs.Lists.{in_map}
use Rattle.just_syntax.proofs.Members.{added}
use Rattle.just_syntax.proofs.Occurring.{some_occurs}
use Rattle.just_needs.specs.Prelude.{Expr, IsIn, Occurrence, Occurs, OfFunction, OfVariable, PlainNode, Text, has, is_name_in, is_reached, mention_of}
use Rattle.just_needs.specs.Prelude.{occurrences_in}
use Rattle.just_syntax.specs.Occurrences.{Mention}

abbrev pub Numbers : Type 0
Numbers = HashSet ℕ (BuildHasherDefault FoldHasher)

number_decides : (k n : ℕ) → Decides (nat_eq k n) (k ≡ n)
number_decides k n = (eqb-true k n, eq-eqb k n)

-- a set with one more number
pub number_added : (old new : Numbers) (k : ℕ) → ((q : ℕ) → contains nat_eq new q ≡ cond (nat_eq k q) true (contains nat_eq old q)) → (n : ℕ)
    → IsTrue (has new n) ↔ ((k ≡ n) ⊎ IsTrue (has old n))
number_added old new k updates n = added (k ≡ n) (nat_eq k n) (has old n) (has new n) (number_decides k n) (updates n)

-- the same for a number that an option holds
pub option_added : {A : Type 0} (number : Option ℕ) (k n : ℕ) (B : Type 0) → number ≡ Some k → B ↔ ((k ≡ n) ⊎ A) → B ↔ ((number ≡ Some n) ⊎ A)
option_added number k n B is h = (
  (λ b. ⊎_elim (λ e. inl (is ∙ ap Some e)) (λ a. inr a) (h.0 b)),
  (λ s. h.1 (⊎_elim (λ e. inl (let one : Some k ≡ Some n = sym is ∙ e in let same : k ≡ n = cc in same)) (λ a. inr a) s)),
)

-- the other kind of node is unchanged
apart : {P A : Type 0} → (P → ⊥) → A ↔ (P ⊎ A)
apart none = ((λ a. inr a), (λ h. ⊎_elim (λ p. absurd (none p)) (λ a. a) h))

renamed : {P Q A B : Type 0} → (P → Q) → (Q → P) → B ↔ (P ⊎ A) → B ↔ (Q ⊎ A)
renamed on back h = ((λ b. ⊎_elim (λ p. inl (on p)) (λ a. inr a) (h.0 b)), (λ s. h.1 (⊎_elim (λ q. inl (back q)) (λ a. inr a) s)))

pub function_added : (old new : BTreeSet (Bor Text)) (variables : Numbers) (name : Bor Text)
    → ((t : Text) → IsTrue (is_name_in new t) ↔ ((name.now ≡ t) ⊎ IsTrue (is_name_in old t))) → (x : PlainNode) →
    IsTrue (is_reached (record { functions = new; variables = variables }) x)
    ↔ ((OfFunction name.now ≡ x) ⊎ IsTrue (is_reached (record { functions = old; variables = variables }) x))
function_added old new variables name added (OfFunction t) = renamed (λ e. ap OfFunction e) (λ e. cc) (added t)
function_added old new variables name added (OfVariable n) = apart (λ e. cc)

pub variable_added : (old new : Numbers) (functions : BTreeSet (Bor Text)) (k : ℕ)
    → ((n : ℕ) → IsTrue (has new n) ↔ ((k ≡ n) ⊎ IsTrue (has old n))) → (x : PlainNode) →
    IsTrue (is_reached (record { functions = functions; variables = new }) x)
    ↔ ((OfVariable k ≡ x) ⊎ IsTrue (is_reached (record { functions = functions; variables = old }) x))
variable_added old new functions k added (OfFunction t) = apart (λ e. cc)
variable_added old new functions k added (OfVariable n) = renamed (λ e. ap OfVariable e) (λ e. cc) (added n)

-- ---- what is mentioned at occurrences

-- one of these occurrences mentions it
abbrev pub IsMentioned : List Occurrence → Mention → Type 0
IsMentioned os x = IsIn (map mention_of os) x

-- what is mentioned at the occurrences of an expression occurs in it
pub mentioned : (e : Expr) (x : Mention) → IsMentioned (occurrences_in e) x ↔ Occurs e x
mentioned e x =
    let among = in_map mention_of (occurrences_in e) x in
    let occurs = some_occurs (λ o. mention_of o ≡ x) e in
    ((λ h. occurs.0 (among.0 h)), (λ h. among.1 (occurs.1 h)))

mentioned_more : (x : Mention) (os : List Occurrence) (o : Occurrence) → IsMentioned (os ++ o ∷ []) x ↔ ((mention_of o ≡ x) ⊎ IsMentioned os x)
mentioned_more x [] o = ((λ h. h), (λ h. h))
mentioned_more x (r ∷ os) o =
    let rest = mentioned_more x os o in (
      (λ h. ⊎_elim (λ e. inr (inl e)) (λ k. ⊎_elim (λ e. inl e) (λ j. inr (inr j)) (rest.0 k)) h),
      (λ h. ⊎_elim (λ e. inr (rest.1 (inl e))) (λ k. ⊎_elim (λ e. inl e) (λ j. inr (rest.1 (inr j))) k) h),
    )

-- one more occurrence
pub mention_more : {A B : Type 0} (x : Mention) (os next : List Occurrence) (o : Occurrence) → next ≡ os ++ o ∷ [] → A ↔ IsMentioned os x
    → B ↔ ((mention_of o ≡ x) ⊎ A) → B ↔ IsMentioned next x
mention_more x os next o is was added =
    let more = mentioned_more x os o in (
      (λ b. subst (λ rs. IsMentioned rs x) (sym is) (more.1 (⊎_elim (λ e. inl e) (λ a. inr (was.0 a)) (added.0 b)))),
      (λ h. added.1 (⊎_elim (λ e. inl e) (λ k. inr (was.1 k)) (more.0 (subst (λ rs. IsMentioned rs x) is h)))),
    )
