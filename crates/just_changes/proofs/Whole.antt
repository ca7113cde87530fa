-- What all assignments and functions of a module read.
use Rattle.std.proofs.Common.{◌≡◌, ◌↔◌, ◌⊎◌, inl, inr, ⊎_elim, ℕ, Bool, true, false, cond, List, [], ◌∷◌, map, nat_eq, if◌then◌else◌, Some, refl, ap, sym, ◌∙◌}
use Rattle.std.proofs.Common.{subst}
use Rattle.std.specs.Cmp.Lexicographic.{slice_cmp}
use Rattle.std.specs.List.{AllByRecursion}
use Rattle.std.specs.List.Sorted.{IsStrictlySortedBy}
use Rattle.std.specs.Ordering.{is_eq, nat_cmp}
use Rattle.std.specs.Str.{bytes_eq}
use Rattle.std.specs.declared.cmp.Ordering.TheVariants.{Less}
use Rattle.std.proofs.lemmas.Map.Text.{is_eq-slice_cmp}
use Rattle.std.proofs.lemmas.Slice.Eq.{bytes_eq-Decides}
use Rattle.just_changes.specs.Prelude.{Assignment, AssignmentReads, Frames, Function, FunctionReads, OfFunction, OfVariable, PlainNode, ReadsItself, Text}
use Rattle.just_changes.specs.Prelude.{Version, assignment_numbered, function_at, function_view}
use Rattle.just_syntax.specs.declared.function_definition.FunctionDefinition.{FunctionDefinition}

-- one of these assignments is a node that reads another
abbrev pub AnyAssignment : Version → Frames → List Assignment → PlainNode → PlainNode → Type 0
AnyAssignment v outer [] y x = ⊥
AnyAssignment v outer (a ∷ more) y x = ((OfVariable a.number ≡ y) × AssignmentReads v outer a x) ⊎ AnyAssignment v outer more y x

-- one of these functions is a node that reads another
abbrev pub AnyFunction : List Function → PlainNode → PlainNode → Type 0
AnyFunction [] y x = ⊥
AnyFunction (f ∷ more) y x = ((OfFunction f.name.lexeme ≡ y) × FunctionReads f x) ⊎ AnyFunction more y x

same_name : (s t : Text) → OfFunction s ≡ OfFunction t → s ≡ t
same_name s t e = cc

same_number : (k n : ℕ) → OfVariable k ≡ OfVariable n → k ≡ n
same_number k n e = cc

-- ---- assignments

assignment_reads : (v : Version) (outer : Frames) (a : Assignment) (y x : PlainNode) → OfVariable a.number ≡ y → AssignmentReads v outer a x
    → ReadsItself v outer y x
assignment_reads v outer a (OfFunction t) x is h = absurd (cc)
assignment_reads v outer a (OfVariable n) x is h = record { assignment = a; number = same_number a.number n is; reads = h }

any_assignment_reads : (v : Version) (outer : Frames) (all : List Assignment) (y x : PlainNode) → AnyAssignment v outer all y x → ReadsItself v outer y x
any_assignment_reads v outer [] y x h = absurd h
any_assignment_reads v outer (a ∷ more) y x h = ⊎_elim (λ k. assignment_reads v outer a y x k.0 k.1) (λ k. any_assignment_reads v outer more y x k) h

-- the assignment that a look-up finds is one of them
numbered_any : (v : Version) (outer : Frames) (all : List Assignment) (k : ℕ) (a : Assignment) (y x : PlainNode) → assignment_numbered all k ≡ Some a
    → OfVariable a.number ≡ y → AssignmentReads v outer a x → AnyAssignment v outer all y x
numbered_any v outer [] k a y x found is h = absurd (cc)
numbered_any v outer (b ∷ more) k a y x found is h = by (λ later. numbered_any v outer more k a y x later is h) (nat_eq b.number k) found
  where
    by : (assignment_numbered more k ≡ Some a → AnyAssignment v outer more y x) → (t : Bool) → (if t then Some b else assignment_numbered more k) ≡ Some a
        → AnyAssignment v outer (b ∷ more) y x
    by rest true same = inl (subst (λ c. (OfVariable c.number ≡ y) × AssignmentReads v outer c x) (let e : a ≡ b = cc in e) (is, h))
    by rest false later = inr (rest later)

-- ---- functions

-- a function that reads has the name of the node
named_below : (P : Text → Type 0) (fs : List FunctionDefinition) (t : Text) (x : PlainNode) → AllByRecursion P (map (λ f. f.name.token.lexeme.now) fs)
    → AnyFunction (map function_view fs) (OfFunction t) x → P t
named_below P [] t x all h = absurd h
named_below P (f ∷ fs) t x all h = ⊎_elim (λ k. subst P (same_name f.name.token.lexeme.now t k.0) all.0) (λ k. named_below P fs t x all.1 k) h

not_below_itself : (t : Text) → slice_cmp nat_cmp t t ≡ Less → ⊥
not_below_itself t less =
    let e : is_eq (slice_cmp nat_cmp t t) ≡ true = is_eq-slice_cmp t t ∙ (bytes_eq-Decides t t).1 refl in
    let f : is_eq (slice_cmp nat_cmp t t) ≡ false = ap is_eq less in
    let g : false ≡ true = sym f ∙ e in cc

-- the function with a name that reads is the one that a look-up finds
function_reads : (fs : List FunctionDefinition) (t : Text) (x : PlainNode) → IsStrictlySortedBy (slice_cmp nat_cmp) (map (λ f. f.name.token.lexeme.now) fs)
    → AnyFunction (map function_view fs) (OfFunction t) x →
    (f : Function) × (function_at (map function_view fs) t ≡ Some f) × FunctionReads f x
unfolding IsStrictlySortedBy
function_reads [] t x sorted h = absurd h
function_reads (g ∷ gs) t x sorted h =
    ⊎_elim (λ k. here k.0 k.1) (λ k. let rest = function_reads gs t x sorted.1 k in (
      rest.0,
      later (bytes_eq t g.name.token.lexeme.now) refl (named_below (λ s. slice_cmp nat_cmp g.name.token.lexeme.now s ≡ Less) gs t x sorted.0 k) rest.1,
      rest.2,
    )) h
  where
    here : OfFunction g.name.token.lexeme.now ≡ OfFunction t → FunctionReads (function_view g) x
        → (f : Function) × (function_at (map function_view (g ∷ gs)) t ≡ Some f) × FunctionReads f x
    here is reads =
        let test : bytes_eq t g.name.token.lexeme.now ≡ true = (bytes_eq-Decides t g.name.token.lexeme.now).1 (sym (same_name g.name.token.lexeme.now t is)) in
        (function_view g, ap (λ b. cond b (Some (function_view g)) (function_at (map function_view gs) t)) test, reads)

    later : {f : Function} (b : Bool) → bytes_eq t g.name.token.lexeme.now ≡ b → slice_cmp nat_cmp g.name.token.lexeme.now t ≡ Less
        → function_at (map function_view gs) t ≡ Some f → cond b (Some (function_view g)) (function_at (map function_view gs) t) ≡ Some f
    later true is less found =
        absurd (not_below_itself t (subst (λ s. slice_cmp nat_cmp s t ≡ Less) (sym ((bytes_eq-Decides t g.name.token.lexeme.now).0 is)) less))
    later false is less found = found

-- the function that a look-up finds is one of them
found_any : (fs : List Function) (t : Text) (f : Function) (x : PlainNode) → function_at fs t ≡ Some f → FunctionReads f x → AnyFunction fs (OfFunction t) x
found_any [] t f x found h = absurd (cc)
found_any (g ∷ gs) t f x found h = by (λ later. found_any gs t f x later h) (bytes_eq t g.name.lexeme) refl found
  where
    by : (function_at gs t ≡ Some f → AnyFunction gs (OfFunction t) x) → (b : Bool) → bytes_eq t g.name.lexeme ≡ b → cond b (Some g) (function_at gs t) ≡ Some f
        → AnyFunction (g ∷ gs) (OfFunction t) x
    by rest true is same =
        inl (ap OfFunction (sym ((bytes_eq-Decides t g.name.lexeme).0 is)), subst (λ (k : Function). FunctionReads k x) (let e : f ≡ g = cc in e) h)
    by rest false is later = inr (rest later)

no_variable_function : (fs : List Function) (n : ℕ) (x : PlainNode) → AnyFunction fs (OfVariable n) x → ⊥
no_variable_function [] n x h = h
no_variable_function (f ∷ fs) n x h = ⊎_elim (λ k. let e : OfFunction f.name.lexeme ≡ OfVariable n = k.0 in cc) (λ k. no_variable_function fs n x k) h

-- ---- all of a module

pub reads_all : (v : Version) (outer : Frames) (all : List Assignment) (fs : List FunctionDefinition) → ((n : ℕ) → v.assignment n ≡ assignment_numbered all n)
    → ((t : Text) → v.function t ≡ function_at (map function_view fs) t) → IsStrictlySortedBy (slice_cmp nat_cmp) (map (λ f. f.name.token.lexeme.now) fs) →
    (y x : PlainNode) → (AnyAssignment v outer all y x ⊎ AnyFunction (map function_view fs) y x) ↔ ReadsItself v outer y x
reads_all v outer all fs assignments functions sorted (OfFunction t) x = (
  (λ h. ⊎_elim (λ k. any_assignment_reads v outer all (OfFunction t) x k) (λ k. let r = function_reads fs t x sorted k in
      record { function = r.0; found = functions t ∙ r.1; reads = r.2 }) h),
  (λ r. inr (found_any (map function_view fs) t r.function x (sym (functions t) ∙ r.found) r.reads)),
)
reads_all v outer all fs assignments functions sorted (OfVariable n) x = (
  (λ h. ⊎_elim (λ k. any_assignment_reads v outer all (OfVariable n) x k) (λ k. absurd (no_variable_function (map function_view fs) n x k)) h),
  (λ r. inl (numbered_any v outer all r.assignment.number r.assignment (OfVariable n) x (sym (assignments r.assignment.number) ∙ r.reads.first)
      (ap OfVariable r.number) r.reads)),
)
