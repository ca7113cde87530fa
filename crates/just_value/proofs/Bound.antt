-- The bindings of a frame after a number is bound.
use Rattle.std.proofs.Common.{◌≡◌, ℕ, Bool, true, false, cond, eqb, List, [], ◌∷◌, Option, Some, refl, ap, sym, ◌∙◌, arith}
use Rattle.std.specs.declared.cmp.Ordering.{Ordering}
use Rattle.std.specs.declared.cmp.Ordering.TheVariants.{Less, Equal, Greater}
use Rattle.std.specs.Ordering.{nat_cmp, match_ordering}
use Rattle.std.specs.Map.{lookup}
use Rattle.std.specs.Option.{option_or}
use Rattle.std.specs.BTreeMap.{insert_entry, is_at}
use Rattle.std.specs.Cmp.{unsigned_tied}
use Rattle.std.proofs.lemmas.Bool.{eqb-true}
use Rattle.std.proofs.lemmas.Cmp.{ranked}
use Rattle.just_value.specs.Prelude.{BindsOneNumber, bound_at, innermost}

both : {X : Type 0} (p q : Bool) (x y z : X) → (p ≡ true → q ≡ true → ⊥) → cond p x (cond q y z) ≡ cond q y (cond p x z)
both true true x y z apart = absurd (apart refl refl)
both true false x y z apart = refl
both false true x y z apart = refl
both false false x y z apart = refl

again : {X : Type 0} (p q : Bool) (y z w : X) → p ≡ q → cond p y z ≡ cond q y (cond p w z)
again true true y z w e = refl
again true false y z w e = cc
again false true y z w e = cc
again false false y z w e = refl

at_number : (n k : ℕ) → is_at (nat_cmp n) k ≡ eqb n k
at_number n k = unsigned_tied n k

pub number_at : (n k : ℕ) → is_at (nat_cmp n) k ≡ true → n ≡ k
number_at n k e = eqb-true n k (sym (at_number n k) ∙ e)

insert_step : {X : Type 0} (n k : ℕ) (b : X) (x : ℕ × X) (xs more : List (ℕ × X)) (o : Ordering) → o ≡ nat_cmp k x.0
    → lookup (is_at (nat_cmp n)) more ≡ cond (is_at (nat_cmp n) k) (Some b) (lookup (is_at (nat_cmp n)) xs)
    → lookup (is_at (nat_cmp n)) (match_ordering o ((k, b) ∷ x ∷ xs) ((x.0, b) ∷ xs) (x ∷ more))
    ≡ cond (is_at (nat_cmp n) k) (Some b) (lookup (is_at (nat_cmp n)) (x ∷ xs))
insert_step n k b x xs more Less e rest = refl
insert_step n k b x xs more Equal e rest = again (is_at (nat_cmp n) x.0) (is_at (nat_cmp n) k) (Some b) (lookup (is_at (nat_cmp n)) xs) (Some x.1)
    (ap (is_at (nat_cmp n)) (sym (ranked k x.0 Equal e)))
insert_step n k b x xs more Greater e rest =
    let above = ranked k x.0 Greater e in
    ap (cond (is_at (nat_cmp n) x.0) (Some x.1)) rest
    ∙ both (is_at (nat_cmp n) x.0) (is_at (nat_cmp n) k) (Some x.1) (Some b) (lookup (is_at (nat_cmp n)) xs)
    (λ p q. absurd (omega (arith, number_at n x.0 p, number_at n k q)))

-- a look-up after a number is bound
pub found_insert : {X : Type 0} (n k : ℕ) (b : X) (es : List (ℕ × X)) → lookup (is_at (nat_cmp n)) (insert_entry nat_cmp es k b)
    ≡ cond (is_at (nat_cmp n) k) (Some b) (lookup (is_at (nat_cmp n)) es)
found_insert n k b [] = refl
found_insert n k b (x ∷ xs) = insert_step n k b x xs (insert_entry nat_cmp xs k b) (nat_cmp k x.0) refl (found_insert n k b xs)

pub or_choice : {X : Type 0} (p q : Bool) (b : X) (x y : Option X) → p ≡ q → option_or (cond p (Some b) x) y ≡ cond q (Some b) (option_or x y)
or_choice true true b x y e = refl
or_choice true false b x y e = cc
or_choice false true b x y e = cc
or_choice false false b x y e = refl

pub binds_one_number : BindsOneNumber
binds_one_number frame outer b n =
    ap (λ o. option_or o (innermost n outer)) (found_insert n b.number b frame)
    ∙ or_choice (is_at (nat_cmp n) b.number) (eqb n b.number) b (bound_at n frame) (innermost n outer) (at_number n b.number)
