-- What occurs in an expression, and what is known, numbered or readable there.
use Rattle.std.proofs.Common.{◌≡◌, ◌↔◌, ⊎_elim, inl, ℕ, Bool, true, false, List, [], ◌∷◌, Option, Some, None, is_some, refl, ap, subst, IsTrue}
use Rattle.std.specs.List.{AllByRecursion, list_all}
use Rattle.std.proofs.lemmas.Bool.{and_parts, and_from}
use Rattle.just_resolution.specs.Prelude.{AllKnown, CallAt, CallOf, Expr, FindsUnreadable, Function, HasFault, IsIn, IsKnown, IsKnownAt, IsNumbered}
use Rattle.just_resolution.specs.Prelude.{IsUnreadableAt, MayBeRead, Mention, ModuleFault, Occurrence, Occurs, Text, Token, VariableAt, VariableOf, accepts}
use Rattle.just_resolution.specs.Prelude.{all_occurrences, called_names, callee, is_numbered, may_occur, mention_of, name_called, occurrences_in}
use Rattle.just_syntax.specs.Occurrences.{CommandAt, CommandOf}
use Rattle.just_meaning.proofs.Callees.{callable}
use Rattle.just_resolution.specs.Unreadable.{AllMayBeRead}
use Rattle.just_syntax.proofs.Lists.{all_append, all_in, each_in}
use Rattle.just_syntax.proofs.Occurring.{listed_mentioned, some_occurs}
use Rattle.just_resolution.proofs.Finding.{finds_alike, sound_if}

-- ---- all that occurs

module _ (P : Occurrence → Type 0) (e : Expr) where
  -- each occurrence has the property if it has it wherever its mention occurs
  all_occur : ((o : Occurrence) → Occurs e (mention_of o) → P o) → AllByRecursion P (occurrences_in e)
  all_occur h = all_in P (occurrences_in e) (λ o among. h o ((some_occurs (λ r. mention_of r ≡ mention_of o) e).0 (o, among, refl)))

  -- what is mentioned is mentioned at an occurrence with the property
  each_occurs : AllByRecursion P (occurrences_in e) → (x : Mention) → Occurs e x → (o : Occurrence) × (mention_of o ≡ x) × P o
  each_occurs h x s = let o = (some_occurs (λ r. mention_of r ≡ x) e).1 s in (o.0, o.2, each_in P (occurrences_in e) h o.0 o.1)

-- ---- what is known

-- each occurrence of an expression is known if what it mentions is
pub known_in : (functions : List Function) (e : Expr) → AllByRecursion (IsKnownAt functions) (occurrences_in e)
    ↔ ((x : Mention) → Occurs e x → IsKnown functions x)
known_in functions e = (
  (λ h x s. let o = each_occurs (IsKnownAt functions) e h x s in subst (IsKnown functions) o.1 o.2),
  (λ h. all_occur (IsKnownAt functions) e (λ o s. h (mention_of o) s)),
)

-- the same for several expressions
pub known_all : (functions : List Function) (es : List Expr) → AllByRecursion (IsKnownAt functions) (all_occurrences es) ↔ AllKnown functions es
known_all functions [] = ((λ h. tt), (λ h. tt))
known_all functions (e ∷ es) =
    let rest = known_all functions es in
    let here = known_in functions e in
    let both = all_append (IsKnownAt functions) (occurrences_in e) (all_occurrences es) in (
      (λ h. let b = both.0 h in (here.0 b.0, rest.0 b.1)),
      (λ h. both.1 (here.1 h.0, rest.1 h.1)),
    )

-- an occurrence with a fault is not known
pub fault_unknown : (functions : List Function) (o : Occurrence) (f : ModuleFault) → HasFault functions o f → IsKnownAt functions o → ⊥
fault_unknown functions (CommandAt t text) f h known = let e : None ≡ Some f = h in cc
fault_unknown functions (CallAt t n) f h known =
    let on : accepts (callee functions t.lexeme) n ≡ true = (callable (callee functions t.lexeme) n).1 known in
    let e : None ≡ Some f = rw on at h in
    cc
fault_unknown functions (VariableAt t None) f h known = known
fault_unknown functions (VariableAt t (Some n)) f h known = let e : None ≡ Some f = h in cc

-- ---- what has a number

all_true : (test : Occurrence → Bool) (os : List Occurrence) → IsTrue (list_all test os) ↔ AllByRecursion (λ o. IsTrue (test o)) os
all_true test [] = ((λ h. tt), (λ h. refl))
all_true test (o ∷ os) =
    let rest = all_true test os in (
      (λ h. let both = and_parts (test o) (list_all test os) h in (both.0, rest.0 both.1)),
      (λ h. and_from (test o) (list_all test os) h.0 (rest.1 h.1)),
    )

numbered_unless : (o : Occurrence) → (mention_of o ≡ VariableOf None → ⊥) → IsTrue (is_numbered o)
numbered_unless (CommandAt t text) without = refl
numbered_unless (CallAt t n) without = refl
numbered_unless (VariableAt t None) without = absurd (without refl)
numbered_unless (VariableAt t (Some n)) without = refl

has_number : (o : Occurrence) → mention_of o ≡ VariableOf None → IsTrue (is_numbered o) → ⊥
has_number (CommandAt t text) is on = let bad : CommandOf text ≡ VariableOf None = is in cc
has_number (CallAt t n) is on = let bad : CallOf t.lexeme n ≡ VariableOf None = is in cc
has_number (VariableAt t None) is on = let bad : false ≡ true = on in cc
has_number (VariableAt t (Some n)) is on = let bad : VariableOf (Some n) ≡ VariableOf None = is in cc

-- the test of its occurrences decides
pub numbered_decided : (e : Expr) → IsTrue (list_all is_numbered (occurrences_in e)) ↔ IsNumbered e
numbered_decided e =
    let tests = all_true is_numbered (occurrences_in e) in (
      (λ h s. let o = each_occurs (λ r. IsTrue (is_numbered r)) e (tests.0 h) (VariableOf None) s in has_number o.0 o.1 o.2),
      (λ without. tests.1 (all_occur (λ r. IsTrue (is_numbered r)) e (λ o s. numbered_unless o (λ is. without (subst (Occurs e) is s))))),
    )

-- ---- what may be read

pub may_occur_decides : (test : ℕ → Bool) (o : Occurrence) → (may_occur test o ≡ true) ↔ MayBeRead (λ n. IsTrue (test n)) o
may_occur_decides test (CommandAt t text) = ((λ h. tt), (λ h. refl))
may_occur_decides test (CallAt t n) = ((λ h. tt), (λ h. refl))
may_occur_decides test (VariableAt t None) = ((λ h. tt), (λ h. refl))
may_occur_decides test (VariableAt t (Some n)) = ((λ h. h), (λ h. h))

may_be_read : (readable : ℕ → Type 0) (o : Occurrence) → ((n : ℕ) → mention_of o ≡ VariableOf (Some n) → readable n) → MayBeRead readable o
may_be_read readable (CommandAt t text) h = tt
may_be_read readable (CallAt t n) h = tt
may_be_read readable (VariableAt t None) h = tt
may_be_read readable (VariableAt t (Some n)) h = h n refl

is_readable_there : (readable : ℕ → Type 0) (o : Occurrence) (n : ℕ) → mention_of o ≡ VariableOf (Some n) → MayBeRead readable o → readable n
is_readable_there readable (CommandAt t text) n is h = absurd (let bad : CommandOf text ≡ VariableOf (Some n) = is in cc)
is_readable_there readable (CallAt t k) n is h = absurd (let bad : CallOf t.lexeme k ≡ VariableOf (Some n) = is in cc)
is_readable_there readable (VariableAt t None) n is h = absurd (let bad : VariableOf None ≡ VariableOf (Some n) = is in cc)
is_readable_there readable (VariableAt t (Some k)) n is h =
    let one : VariableOf (Some k) ≡ VariableOf (Some n) = is in let same : k ≡ n = cc in subst readable same h

pub all_may_be_read : (readable : ℕ → Type 0) (e : Expr) → AllMayBeRead readable e ↔ ((n : ℕ) → Occurs e (VariableOf (Some n)) → readable n)
all_may_be_read readable e = (
  (λ h n s. let o = each_occurs (MayBeRead readable) e h (VariableOf (Some n)) s in is_readable_there readable o.0 n o.1 o.2),
  (λ h. all_occur (MayBeRead readable) e (λ o s. may_be_read readable o (λ n is. h n (subst (Occurs e) is s)))),
)

-- if no variable is found that may not be read, all may be read
pub reads_all : (readable : ℕ → Type 0) (e : Expr) (r : Option Token) → is_some r ≡ false → FindsUnreadable readable (occurrences_in e) r → (n : ℕ)
    → Occurs e (VariableOf (Some n)) → readable n
reads_all readable e r none found =
    (all_may_be_read readable e).0 (sound_if (MayBeRead readable) (IsUnreadableAt readable) (occurrences_in e) r none found)

may_alike : (P Q : ℕ → Type 0) → ((n : ℕ) → P n → Q n) → (o : Occurrence) → MayBeRead P o → MayBeRead Q o
may_alike P Q on (CommandAt t text) h = tt
may_alike P Q on (CallAt t n) h = tt
may_alike P Q on (VariableAt t None) h = tt
may_alike P Q on (VariableAt t (Some n)) h = on n h

-- the same is readable
pub unreadable_alike : (P Q : ℕ → Type 0) → ((n : ℕ) → P n ↔ Q n) → (os : List Occurrence) (r : Option Token) → FindsUnreadable P os r → FindsUnreadable Q os r
unreadable_alike P Q same os r h =
    finds_alike (MayBeRead P) (MayBeRead Q) (IsUnreadableAt P) (IsUnreadableAt Q) (may_alike P Q (λ n. (same n).0))
    (λ o v k. (k.0, λ j. k.1 (may_alike Q P (λ n. (same n).1) o j))) os r h

-- ---- called names

call_named : (name : Text) (o : Occurrence) → IsIn (name_called o) name ↔ ((n : ℕ) × (mention_of o ≡ CallOf name n))
call_named name (CommandAt t text) = ((λ h. absurd h), (λ h. absurd (let bad : CommandOf text ≡ CallOf name h.0 = h.1 in cc)))
call_named name (CallAt t k) = (
  (λ h. ⊎_elim (λ e. (k, ap (λ (u : Text). CallOf u k) e)) (λ none. absurd none) h),
  (λ h. inl (let is : CallOf t.lexeme k ≡ CallOf name h.0 = h.1 in let same : t.lexeme ≡ name = cc in same)),
)
call_named name (VariableAt t number) = ((λ h. absurd h), (λ h. absurd (let bad : VariableOf number ≡ CallOf name h.0 = h.1 in cc)))

-- the names that an expression calls
pub all_called : (e : Expr) (name : Text) → IsIn (called_names (occurrences_in e)) name ↔ ((n : ℕ) × Occurs e (CallOf name n))
all_called e name = listed_mentioned name_called name (λ n. CallOf name n) (call_named name) e
