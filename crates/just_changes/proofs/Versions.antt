-- Look-ups in versions, and equal versions.
use Rattle.std.proofs.Common.{◌≡◌, ◌↔◌, ℕ, Bool, true, false, cond, List, map, nat_eq, if◌then◌else◌, Option, Some, None, is_some, not, Bor, refl, ap, sym, ◌∙◌}
use Rattle.std.proofs.Common.{subst, arith, option_map}
use Rattle.std.specs.BTreeMap.{BTreeMap, get, is_at}
use Rattle.std.specs.Map.{lookup}
use Rattle.std.specs.Option.{option_or}
use Rattle.std.specs.Ordering.{nat_cmp}
use Rattle.std.proofs.lemmas.Bool.{not-false}
use Rattle.std.proofs.lemmas.Bool.Decides.{nat_tests}
use Rattle.just_changes.specs.Prelude.{Assignment, Frames, IsUnchanged, OfFunction, OfVariable, PlainNode, ReadsItself, Text, Version, assignment_in}
use Rattle.just_changes.specs.Prelude.{assignment_view, function_at, function_view}
use Rattle.just_syntax.specs.Keyed.{value_at}
use Rattle.just_syntax.specs.declared.assignment.Assignment as declared
use Rattle.just_syntax.specs.declared.function_definition.FunctionDefinition.{FunctionDefinition}
use Rattle.just_syntax.proofs.Tables.{seen_at}
use Rattle.just_changes.proofs.Lists.{apart}
use Rattle.just_syntax.proofs.Members.{number_decides}

-- a view through a reference
pub seen_after : {X Y : Type 0} (f : X → Y) (o : Option (Bor X)) → option_map f (option_map (λ v. v.now) o) ≡ option_map (λ v. f v.now) o
seen_after f None = refl
seen_after f (Some v) = refl

-- one more assignment, after those already there
pub or_more : (o rest : Option Assignment) (b : Bool) (a : Assignment) → option_or (option_or o (if b then Some a else None)) rest
    ≡ option_or o (if b then Some a else rest)
or_more None rest true a = refl
or_more None rest false a = refl
or_more (Some x) rest b a = refl

pub or_none : (o : Option Assignment) → option_or o None ≡ o
or_none None = refl
or_none (Some x) = refl

-- there already is one, or there was none
pub kept : (o other : Option Assignment) → is_some o ≡ true → option_or o other ≡ o
kept None other there = let e : false ≡ true = there in absurd (cc)
kept (Some x) other there = refl

-- the first assignment of a number is kept
pub added_before : (all : BTreeMap ℕ (Bor declared.Assignment)) (k : ℕ) (a : Assignment) → is_some (lookup (is_at (nat_cmp k)) all.entries) ≡ true → (n : ℕ)
    → assignment_in all n ≡ option_or (assignment_in all n) (if nat_eq k n then Some a else None)
added_before all k a there n = by (nat_eq k n) refl
  where
    some : (o : Option (Bor declared.Assignment)) → is_some o ≡ true → is_some (option_map (λ (b : Bor declared.Assignment). assignment_view b.now) o) ≡ true
    some None h = h
    some (Some x) h = refl

    by : (b : Bool) → nat_eq k n ≡ b → assignment_in all n ≡ option_or (assignment_in all n) (if b then Some a else None)
    by true is =
        let e : k ≡ n = grind (arith, nat_tests) in
        sym (kept (assignment_in all n) (Some a) (subst (λ j. is_some (assignment_in all j) ≡ true) e (some (lookup (is_at (nat_cmp k)) all.entries) there)))
    by false is = sym (or_none (assignment_in all n))

-- an assignment with a new number
pub added_new : (old new : BTreeMap ℕ (Bor declared.Assignment)) (k : ℕ) (a : Bor declared.Assignment) → is_some (lookup (is_at (nat_cmp k)) old.entries)
    ≡ false → ((q : ℕ) → get nat_cmp new q ≡ cond (is_at (nat_cmp k) q) (Some a) (get nat_cmp old q)) →
    (n : ℕ) → assignment_in new n ≡ option_or (assignment_in old n) (if nat_eq k n then Some (assignment_view a.now) else None)
added_new old new k a out updates n = by (nat_eq k n) refl
  where
    none : (o : Option (Bor declared.Assignment)) → is_some o ≡ false → option_map (λ (b : Bor declared.Assignment). assignment_view b.now) o ≡ None
    none None h = refl
    none (Some x) h = let e : true ≡ false = h in absurd (cc)

    by : (b : Bool) → nat_eq k n ≡ b → assignment_in new n ≡ option_or (assignment_in old n) (if b then Some (assignment_view a.now) else None)
    by true is =
        let e : k ≡ n = grind (arith, nat_tests) in
        let test : is_at (nat_cmp k) n ≡ true = (number_decides k n).1 e in
        let now : get nat_cmp new n ≡ Some a = updates n ∙ ap (λ t. cond t (Some a) (get nat_cmp old n)) test in
        let was : assignment_in old n ≡ None =
        none (lookup (is_at (nat_cmp n)) old.entries) (subst (λ j. is_some (lookup (is_at (nat_cmp j)) old.entries) ≡ false) e out) in
        ap (option_map (λ (b : Bor declared.Assignment). assignment_view b.now)) now ∙ sym (ap (λ o. option_or o (Some (assignment_view a.now))) was)
    by false is =
        let other : k ≡ n → ⊥ = (λ e. grind (arith, nat_tests)) in
        ap (option_map (λ (b : Bor declared.Assignment). assignment_view b.now))
        (updates n ∙ apart (is_at (nat_cmp k) n) (Some a) (get nat_cmp old n) (number_decides k n) other) ∙ sym (or_none (assignment_in old n))

-- the result of a look-up, as plain data
pub function_found : (name : Text) (fs : List FunctionDefinition) (r : Option (Bor FunctionDefinition)) → option_map (λ v. v.now) r
    ≡ value_at (λ f. f.name.token.lexeme.now) name fs → function_at (map function_view fs) name ≡ option_map (λ v. function_view v.now) r
function_found name fs r is = seen_at function_view (λ f. f.name.lexeme) name fs ∙ ap (option_map function_view) (sym is) ∙ seen_after function_view r

-- nothing was found
pub none_found : {X Y : Type 0} (f : X → Y) (o : Option (Bor X)) (p : Option Y) (answer : Bool) → is_some o ≡ not answer → p ≡ option_map (λ v. f v.now) o
    → (answer ≡ true) ↔ (p ≡ None)
none_found f None p answer is seen = ((λ h. seen), (λ h. not-false answer (sym is)))
none_found f (Some x) p answer is seen =
    ((λ h. absurd (let e : true ≡ false = is ∙ ap not h in cc)), (λ h. absurd (let e : None ≡ Some (f x.now) = sym h ∙ seen in cc)))

-- ---- equal versions

pub record AreAlike (v u : Version) : Type 0 where
  pub assignments : (n : ℕ) → v.assignment n ≡ u.assignment n
  pub functions : (t : Text) → v.function t ≡ u.function t
  pub overrides : (n : ℕ) → v.override n ≡ u.override n

pub same_alike : (v u w z : Version) → AreAlike v w → AreAlike u z → (x : PlainNode) → IsUnchanged v u x → IsUnchanged w z x
same_alike v u w z first second (OfFunction t) h = sym (first.functions t) ∙ h ∙ second.functions t
same_alike v u w z first second (OfVariable n) h = (sym (first.assignments n) ∙ h.0 ∙ second.assignments n, sym (first.overrides n) ∙ h.1 ∙ second.overrides n)

pub alike_back : (v u : Version) → AreAlike v u → AreAlike u v
alike_back v u h = record { assignments = λ n. sym (h.assignments n); functions = λ t. sym (h.functions t); overrides = λ n. sym (h.overrides n) }

pub reads_alike : (v u : Version) (outer : Frames) → AreAlike v u → (y x : PlainNode) → ReadsItself v outer y x → ReadsItself u outer y x
reads_alike v u outer h (OfFunction t) x r = record { function = r.function; found = sym (h.functions t) ∙ r.found; reads = r.reads }
reads_alike v u outer h (OfVariable n) x r = record {
  assignment = r.assignment;
  number = r.number;
  reads = record {
    first = sym (h.assignments r.assignment.number) ∙ r.reads.first;
    free = (sym (h.overrides r.assignment.number) ∙ r.reads.free.0, r.reads.free.1);
    mentions = r.reads.mentions;
  };
}
