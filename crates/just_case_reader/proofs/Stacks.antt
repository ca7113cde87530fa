-- Pushing and popping the expressions that are not yet assigned.
use Rattle.std.proofs.Common.{◌≡◌, ℕ, zero, suc, ◌<◌, List, [], ◌∷◌, ◌++◌, map, length, Option, Some, None, Result, Ok, Err, IfErr, OnOk, refl, sym, ap, ◌∙◌}
use Rattle.std.proofs.Common.{arith, option_map, reverse}
use Rattle.std.proofs.lemmas.List.{length-map, length-reverse, map-append, reverse-append}
use Rattle.just_case_reader.specs.Prelude.{Done, IfBad, Nil, several, view, views}
use Rattle.just_syntax.specs.Plain.{Expr, Exprs, Cons}
use Rattle.just_syntax.specs.declared.expression.Expression.{Expression}
use Rattle.just_case_reader.specs.declared.line_error.LineError.{LineError}
use Rattle.just_case_reader.specs.declared.line_error.LineError.TheVariants.{Bad, OutOfMemory}

-- `IfBad` is monotone
pub if_bad : {P Q : Type 0} (e : LineError) → (P → Q) → IfBad e P → IfBad e Q
if_bad Bad follows holds = follows holds
if_bad OutOfMemory follows holds = tt

-- `Done` is preserved by a function on the result
pub done_with : {A B C : Type 0} (f : B → C) (result : Result A LineError) (comes : Option B) (new : B) → Done result comes new
    → Done result (option_map f comes) (f new)
done_with f (Ok value) comes new done = ap (option_map f) done
done_with f (Err e) comes new done = if_bad e (ap (option_map f)) done

-- a value inserted under a new key is done, otherwise the line is bad
pub done_new : {A B P Q R : Type 0} (result : Result A LineError) (comes : Option B) (new : B) → OnOk result P → OnOk result Q → IfErr result (λ e. IfBad e R)
    → (P → Q → comes ≡ Some new) → (R → comes ≡ None) → Done result comes new
done_new (Ok value) comes new p q r done bad = done p q
done_new (Err e) comes new p q r done bad = if_bad e bad r

-- the last element comes first in the reversed list
pub pushed : {A B : Type 0} (f : A → B) (xs : List A) (x : A) → reverse (map f (xs ++ x ∷ [])) ≡ f x ∷ reverse (map f xs)
pushed f xs x = ap reverse (map-append f xs (x ∷ [])) ∙ reverse-append (map f xs) (f x ∷ [])

-- a reversed list of two parts
pub parted : {A B : Type 0} (f : A → B) (xs ys : List A) → reverse (map f (xs ++ ys)) ≡ reverse (map f ys) ++ reverse (map f xs)
parted f xs ys = ap reverse (map-append f xs ys) ∙ reverse-append (map f xs) (map f ys)

-- if there are fewer than n expressions, n of them cannot be taken
pub too_few : (n : ℕ) (parts : Exprs) (es : List Expr) → length es < n → several n parts es ≡ None
too_few zero parts es few = absurd (omega (arith, few))
too_few (suc n) parts [] few = refl
too_few (suc n) parts (e ∷ es) few = too_few n (Cons e parts) es (omega (arith, few))

-- expressions prepended in reverse order
abbrev onto : List Expr → Exprs → Exprs
onto [] parts = parts
onto (e ∷ es) parts = onto es (Cons e parts)

onto-append : (xs ys : List Expr) (parts : Exprs) → onto (xs ++ ys) parts ≡ onto ys (onto xs parts)
onto-append [] ys parts = refl
onto-append (x ∷ xs) ys parts = onto-append xs ys (Cons x parts)

-- the first expressions are taken
all_taken : (es rest : List Expr) (parts : Exprs) → several (length es) parts (es ++ rest) ≡ Some (onto es parts, rest)
all_taken [] rest parts = refl
all_taken (e ∷ es) rest parts = all_taken es rest (Cons e parts)

-- expressions in reverse order of pushing are taken in the order of pushing
onto_reverse : (xs : List Expression) → onto (reverse (map view xs)) Nil ≡ views xs
onto_reverse [] = refl
onto_reverse (x ∷ xs) =
    ap (λ es. onto es Nil) (reverse-append (view x ∷ []) (map view xs))
    ∙ onto-append (reverse (map view xs)) (view x ∷ []) Nil
    ∙ ap (Cons (view x)) (onto_reverse xs)

taken : (xs : List Expression) (rest : List Expr) → several (length xs) Nil (reverse (map view xs) ++ rest) ≡ Some (views xs, rest)
taken xs rest =
    ap (λ n. several n Nil (reverse (map view xs) ++ rest)) (sym (length-reverse (map view xs) ∙ length-map xs view))
    ∙ all_taken (reverse (map view xs)) rest Nil
    ∙ ap (λ parts. Some (parts, rest)) (onto_reverse xs)

-- the expressions pushed last are taken, and the others remain
pub taken_from : (all front back : List Expression) (n : ℕ) → all ≡ front ++ back → length back ≡ n
    → several n Nil (reverse (map view all)) ≡ Some (views back, reverse (map view front))
taken_from all front back n is long =
    ap (λ xs. several n Nil (reverse (map view xs))) is
    ∙ ap (several n Nil) (parted view front back)
    ∙ ap (λ k. several k Nil (reverse (map view back) ++ reverse (map view front))) (sym long)
    ∙ taken back (reverse (map view front))
