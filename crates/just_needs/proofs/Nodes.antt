-- Which nodes occur in an expression.
use Rattle.std.proofs.Common.{◌≡◌, ◌↔◌, inl, inr, ⊎_elim, ℕ, Bool, true, false, List, [], ◌∷◌, ◌++◌, map, nat_eq, Option, Some, None, IsTrue, refl, ap, sym}
use Rattle.std.proofs.Common.{◌∙◌, Bor, ◌&&◌, not, option_map, if◌then◌else◌}
use Rattle.std.specs.List.{list_any}
use Rattle.std.proofs.lemmas.Bool.{eq-eqb, eqb-true, or_cases, or_left, or_right}
use Rattle.just_needs.specs.Prelude.{CallOf, Expr, Function, IsIn, Occurrence, Occurs, OfFunction, OfVariable, Text, VariableOf, function_at, function_view}
use Rattle.just_needs.specs.Prelude.{mention_of, node_at, nodes_at, nodes_in, occurrences_in, owns, read_by_body}
use Rattle.just_syntax.specs.Occurrences.{CallAt, CommandAt, CommandOf, VariableAt}
use Rattle.just_meaning.specs.Reaches.{IsAmong}
use Rattle.just_syntax.proofs.Tables.{seen_at}
use Rattle.just_syntax.specs.Keyed.{value_at}
use Rattle.just_syntax.specs.declared.function_definition.FunctionDefinition.{FunctionDefinition}
use Rattle.just_syntax.proofs.Occurring.{listed_mentioned}

-- ---- variables

variable_if : (is_followed : ℕ → Bool) (k n : ℕ) (b : Bool) → is_followed k ≡ b → IsIn (if b then OfVariable k ∷ [] else []) (OfVariable n)
    ↔ (IsTrue (is_followed n) × (VariableOf (Some k) ≡ VariableOf (Some n)))
variable_if is_followed k n true is = (
  (λ h. ⊎_elim (λ e. let same : k ≡ n = cc in (sym (ap is_followed same) ∙ is, ap (λ j. VariableOf (Some j)) same)) (λ bad. absurd bad) h),
  (λ h. inl (let one : VariableOf (Some k) ≡ VariableOf (Some n) = h.1 in let same : k ≡ n = cc in ap OfVariable same)),
)
variable_if is_followed k n false is = (
  (λ h. absurd h),
  (λ h. let one : VariableOf (Some k) ≡ VariableOf (Some n) = h.1 in let same : k ≡ n = cc in
      let e : false ≡ true = sym is ∙ ap is_followed same ∙ h.0 in absurd (cc)),
)

variable_there : (is_followed : ℕ → Bool) (n : ℕ) (o : Occurrence) → IsIn (node_at is_followed o) (OfVariable n)
    ↔ (IsTrue (is_followed n) × (mention_of o ≡ VariableOf (Some n)))
variable_there is_followed n (CommandAt t text) =
    ((λ h. absurd h), (λ h. absurd (let bad : CommandOf text ≡ VariableOf (Some n) = h.1 in cc)))
variable_there is_followed n (CallAt t k) = (
  (λ h. ⊎_elim (λ bad. absurd (let e : OfFunction t.lexeme ≡ OfVariable n = bad in cc)) (λ bad. absurd bad) h),
  (λ h. absurd (let bad : CallOf t.lexeme k ≡ VariableOf (Some n) = h.1 in cc)),
)
variable_there is_followed n (VariableAt t None) = ((λ h. absurd h), (λ h. absurd (let bad : VariableOf None ≡ VariableOf (Some n) = h.1 in cc)))
variable_there is_followed n (VariableAt t (Some k)) = variable_if is_followed k n (is_followed k) refl

-- a variable is a node if it occurs and is followed
pub variable_in : (is_followed : ℕ → Bool) (e : Expr) (n : ℕ) → IsIn (nodes_in is_followed e) (OfVariable n)
    ↔ (Occurs e (VariableOf (Some n)) × IsTrue (is_followed n))
variable_in is_followed e n =
    let all = listed_mentioned (node_at is_followed) (OfVariable n) (λ followed. VariableOf (Some n)) (variable_there is_followed n) e in
    ((λ h. let m = all.0 h in (m.1, m.0)), (λ h. all.1 (h.1, h.0)))

-- ---- functions

function_if : (is_followed : ℕ → Bool) (k : ℕ) (t : Text) (b : Bool) → IsIn (if b then OfVariable k ∷ [] else []) (OfFunction t) → ⊥
function_if is_followed k t true h = ⊎_elim (λ bad. let e : OfVariable k ≡ OfFunction t = bad in cc) (λ bad. bad) h
function_if is_followed k t false h = h

function_there : (is_followed : ℕ → Bool) (name : Text) (o : Occurrence) → IsIn (node_at is_followed o) (OfFunction name)
    ↔ ((k : ℕ) × (mention_of o ≡ CallOf name k))
function_there is_followed name (CommandAt t text) = ((λ h. absurd h), (λ h. absurd (let bad : CommandOf text ≡ CallOf name h.0 = h.1 in cc)))
function_there is_followed name (CallAt t k) = (
  (λ h. ⊎_elim (λ e. (k, let same : t.lexeme ≡ name = cc in ap (λ (u : Text). CallOf u k) same)) (λ bad. absurd bad) h),
  (λ h. inl (let is : CallOf t.lexeme k ≡ CallOf name h.0 = h.1 in let same : t.lexeme ≡ name = cc in ap OfFunction same)),
)
function_there is_followed name (VariableAt t None) = ((λ h. absurd h), (λ h. absurd (let bad : VariableOf None ≡ CallOf name h.0 = h.1 in cc)))
function_there is_followed name (VariableAt t (Some n)) = (
  (λ h. absurd (function_if is_followed n name (is_followed n) h)),
  (λ h. absurd (let bad : VariableOf (Some n) ≡ CallOf name h.0 = h.1 in cc)),
)

-- a function is a node if it is called
pub function_in : (is_followed : ℕ → Bool) (e : Expr) (name : Text) → IsIn (nodes_in is_followed e) (OfFunction name) ↔ ((k : ℕ) × Occurs e (CallOf name k))
function_in is_followed e name = listed_mentioned (node_at is_followed) (OfFunction name) (λ k. CallOf name k) (function_there is_followed name) e

-- ---- tests that agree

-- with equal tests, the nodes are the same
node_alike : (p q : ℕ → Bool) → ((n : ℕ) → p n ≡ q n) → (o : Occurrence) → node_at p o ≡ node_at q o
node_alike p q same (CommandAt t text) = refl
node_alike p q same (CallAt t n) = refl
node_alike p q same (VariableAt t None) = refl
node_alike p q same (VariableAt t (Some n)) = ap (λ b. if b then OfVariable n ∷ [] else []) (same n)

pub nodes_alike : (p q : ℕ → Bool) → ((n : ℕ) → p n ≡ q n) → (os : List Occurrence) → nodes_at p os ≡ nodes_at q os
nodes_alike p q same [] = refl
nodes_alike p q same (o ∷ os) = ap (λ ns. ns ++ nodes_at p os) (node_alike p q same o) ∙ ap (λ ns. node_at q o ++ ns) (nodes_alike p q same os)

-- ---- sets of numbers

-- the test of a list decides membership
pub listed : (ns : List ℕ) (n : ℕ) → IsTrue (list_any (nat_eq n) ns) ↔ IsIn ns n
listed [] n = ((λ h. absurd (let e : false ≡ true = h in cc)), (λ h. absurd h))
listed (k ∷ ks) n =
    let rest = listed ks n in (
      (λ h. ⊎_elim (λ e. inl (sym (eqb-true n k e))) (λ j. inr (rest.0 j)) (or_cases (nat_eq n k) (list_any (nat_eq n) ks) h)),
      (λ h. ⊎_elim (λ e. or_left (nat_eq n k) (list_any (nat_eq n) ks) (eq-eqb n k (sym e)))
          (λ j. or_right (nat_eq n k) (list_any (nat_eq n) ks) (rest.1 j)) h),
    )

-- both decide the same
pub same_test : (a b : Bool) {P : Type 0} → IsTrue a ↔ P → IsTrue b ↔ P → a ≡ b
same_test true true one other = refl
same_test true false one other = sym (other.1 (one.0 refl))
same_test false true one other = one.1 (other.0 refl)
same_test false false one other = refl

-- ---- the body of a function

-- a set of the numbers of the function's parameters gives the same nodes
pub body_read : (o : Option Function) (f : Function) (is_followed own : ℕ → Bool) → o ≡ Some f → ((n : ℕ) → IsTrue (own n) ↔ IsAmong f.parameters n)
    → nodes_in (λ n. is_followed n && not (own n)) f.body ≡ read_by_body is_followed o
body_read o f is_followed own found owns_if =
    nodes_alike (λ n. is_followed n && not (own n)) (λ n. is_followed n && not (owns f n))
    (λ n. ap (λ b. is_followed n && not b) (same_test (own n) (owns f n) (owns_if n) (listed (map (λ p. p.1) f.parameters) n))) (occurrences_in f.body)
    ∙ ap (read_by_body is_followed) (sym found)

-- the result of a look-up, as plain data
seen_after : (r : Option (Bor FunctionDefinition)) → option_map function_view (option_map (λ v. v.now) r) ≡ option_map (λ v. function_view v.now) r
seen_after None = refl
seen_after (Some v) = refl

pub function_found : (name : Text) (fs : List FunctionDefinition) (r : Option (Bor FunctionDefinition)) → option_map (λ v. v.now) r
    ≡ value_at (λ f. f.name.token.lexeme.now) name fs → function_at (map function_view fs) name ≡ option_map (λ v. function_view v.now) r
function_found name fs r is = seen_at function_view (λ f. f.name.lexeme) name fs ∙ ap (option_map function_view) (sym is) ∙ seen_after r
