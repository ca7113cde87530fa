-- Checking numbers, one after another.
use Rattle.std.proofs.Common.{◌≡◌, ◌↔◌, ◌⊎◌, ℕ, Bool, false, List, [], ◌∷◌, Option, Some, None, MatchOption, refl, subst}
use Rattle.std.proofs.Common.{IsTrue}
use Rattle.just_faults.specs.Prelude.{Adds, Assignments, DuplicateNumber, Frames, Function, IsFaulty, IsIn, IsSound, ModuleFault, NumberOf, Token}
use Rattle.just_faults.specs.Prelude.{number_places, with_some}
use Rattle.just_resolution.proofs.Sets.{no_member, one_member_more}
use Rattle.just_faults.proofs.Adding.{Continues, continues_on}

-- A list of the numbers seen so far, with the same members as the set; and what the rest adds is what all add.
pub record IsCountedWithFaults (seen : ℕ → Bool) (left all : List (Token × ℕ)) (old now : List ModuleFault) : Type 0 where
  pub earlier : List ℕ
  pub same : (n : ℕ) → IsIn earlier n ↔ IsTrue (seen n)
  pub continues : (functions : List Function) (assignments : Assignments) (outer : Frames) → Continues (IsSound functions assignments outer)
      (IsFaulty functions assignments outer) (number_places earlier left) (number_places [] all) old now

-- no number was seen yet
pub counts_from : (seen : ℕ → Bool) (all : List (Token × ℕ)) (old : List ModuleFault) → ((n : ℕ) → seen n ≡ false) → IsCountedWithFaults seen all all old old
counts_from seen all old none = record {
  earlier = [];
  same = no_member seen none;
  continues = λ functions assignments outer new h. h;
}

-- what is found of a number that was seen before, or was not
abbrev pub FindsSeen : (ℕ → Bool) → Token × ℕ → Option ModuleFault → Type 0
FindsSeen seen p r = MatchOption r (IsTrue (seen p.1) → ⊥) (λ f. (DuplicateNumber p.0 ≡ f) × IsTrue (seen p.1))

at_number : (seen : ℕ → Bool) (earlier : List ℕ) (p : Token × ℕ) (r : Option ModuleFault) → ((n : ℕ) → IsIn earlier n ↔ IsTrue (seen n)) → FindsSeen seen p r
    → MatchOption r (IsIn earlier p.1 → ⊥) (λ f. (DuplicateNumber p.0 ≡ f) × IsIn earlier p.1)
at_number seen earlier p None same h = λ one. h ((same p.1).0 one)
at_number seen earlier p (Some f) same h = (h.0, (same p.1).1 h.1)

-- one more number was seen
pub counts_on : (seen more : ℕ → Bool) (p : Token × ℕ) (start left all : List (Token × ℕ)) (old now next : List ModuleFault) (r : Option ModuleFault)
    → start ≡ p ∷ left → IsCountedWithFaults seen start all old now → FindsSeen seen p r
    → ((n : ℕ) → IsTrue (more n) ↔ ((p.1 ≡ n) ⊎ IsTrue (seen n))) → next ≡ with_some now r → IsCountedWithFaults more left all old next
counts_on seen more p start left all old now next r is counted found adds same =
    let c = subst (λ xs. IsCountedWithFaults seen xs all old now) is counted in
    record {
      earlier = p.1 ∷ c.earlier;
      same = one_member_more seen more c.earlier p.1 c.same adds;
      continues = λ functions assignments outer.
          continues_on (IsSound functions assignments outer) (IsFaulty functions assignments outer) (number_places c.earlier (p ∷ left))
          (number_places (p.1 ∷ c.earlier) left) (number_places [] all) old now (c.continues functions assignments outer)
          (NumberOf p.0 p.1 c.earlier) r next refl (at_number seen c.earlier p r c.same found) same;
    }

-- all were seen
pub counts_end : (seen : ℕ → Bool) (left all : List (Token × ℕ)) (old now : List ModuleFault) → left ≡ [] → IsCountedWithFaults seen left all old now
    → (functions : List Function) (assignments : Assignments) (outer : Frames) →
    Adds (IsSound functions assignments outer) (IsFaulty functions assignments outer) (number_places [] all) old now
counts_end seen left all old now none counted functions assignments outer = let c =
    subst (λ xs. IsCountedWithFaults seen xs all old now) none counted in c.continues functions assignments outer now refl
