-- Places of parameters by their names.
use Rattle.std.specs.Prelude.{ℕ, zero, suc, ◌+◌, ◌<◌, ◌≡◌, Bool, true, false, List, [], ◌∷◌, ◌++◌, length, map, Option, Some, None, bytes_eq}
use Rattle.std.specs.Bool.{Decides}
use Rattle.std.specs.List.{position_from}
use Rattle.std.specs.Option.{option_or}
use Rattle.std.proofs.Common.{◌∙◌, add-zero, ap, arith, cond, get_or, refl, set, sym}
use Rattle.std.proofs.lemmas.Slice.Eq.{bytes_eq-Decides}
use Rattle.just_syntax.specs.Plain.{Parameter, Text}
use Rattle.just_parser.specs.Plain.{ArgOption, Flag, Multiple, Value}
use Rattle.just_analyzer.specs.Parameters.{duplicate, is_named, parameter_place, repeated_name, with_option, with_options, with_options_at}

-- ---- one parameter more

at_end : (t : Text) (i : ℕ) (ps : List Parameter) (p : Parameter)
    → position_from (is_named t) i (ps ++ p ∷ []) ≡ option_or (position_from (is_named t) i ps) (cond (is_named t p) (Some (i + length ps)) None)
at_end t i [] p = ap (λ k. cond (is_named t p) (Some k) None) (sym (add-zero i))
at_end t i (q ∷ ps) p = by (is_named t q)
    (at_end t (i + 1) ps p ∙ ap (λ k. option_or (position_from (is_named t) (i + 1) ps) (cond (is_named t p) (Some k) None)) next)
  where
    next : (i + 1) + length ps ≡ i + length (q ∷ ps)
    next = omega arith

    by : (b : Bool) → position_from (is_named t) (i + 1) (ps ++ p ∷ [])
        ≡ option_or (position_from (is_named t) (i + 1) ps) (cond (is_named t p) (Some (i + length (q ∷ ps))) None)
        → cond b (Some i) (position_from (is_named t) (i + 1) (ps ++ p ∷ []))
        ≡ option_or (cond b (Some i) (position_from (is_named t) (i + 1) ps)) (cond (is_named t p) (Some (i + length (q ∷ ps))) None)
    by true rest = refl
    by false rest = rest

or_none : {A : Type 0} (a : Option A) → option_or a None ≡ a
or_none None = refl
or_none (Some x) = refl

-- a new name is at the end
placed : (t : Text) (ps : List Parameter) (p : Parameter) → parameter_place p.name.lexeme ps ≡ None
    → parameter_place t (ps ++ p ∷ []) ≡ cond (bytes_eq p.name.lexeme t) (Some (length ps)) (parameter_place t ps)
placed t ps p none =
    at_end t 0 ps p ∙ by (bytes_eq t p.name.lexeme) (bytes_eq p.name.lexeme t) (bytes_eq-Decides t p.name.lexeme) (bytes_eq-Decides p.name.lexeme t)
  where
    from_zero : 0 + length ps ≡ length ps
    from_zero = omega arith

    by : (a b : Bool) → Decides a (t ≡ p.name.lexeme) → Decides b (p.name.lexeme ≡ t)
        → option_or (parameter_place t ps) (cond a (Some (0 + length ps)) None) ≡ cond b (Some (length ps)) (parameter_place t ps)
    by true true d e =
        ap (λ o. option_or o (Some (0 + length ps))) (ap (λ name. parameter_place name ps) (d.0 refl) ∙ none) ∙ ap Some from_zero
    by true false d e = let bad : false ≡ true = e.1 (sym (d.0 refl)) in absurd (cc)
    by false true d e = let bad : false ≡ true = d.1 (sym (e.0 refl)) in absurd (cc)
    by false false d e = or_none (parameter_place t ps)

-- the places after one parameter more, whose name is new
pub next_place : (old new : Text → Option ℕ) (ps rest all : List Parameter) (p : Parameter) (i : ℕ) → i ≡ length ps
    → ((t : Text) → old t ≡ parameter_place t ps) → old p.name.lexeme ≡ None → ((t : Text) → new t ≡ cond (bytes_eq p.name.lexeme t) (Some i) (old t))
    → duplicate ps (p ∷ rest) ≡ duplicate [] all
    → ((t : Text) → new t ≡ parameter_place t (ps ++ p ∷ [])) × (duplicate (ps ++ p ∷ []) rest ≡ duplicate [] all)
next_place old new ps rest all p i size before none more distinct = (
  λ t. more t ∙ ap (cond (bytes_eq p.name.lexeme t) (Some i)) (before t)
      ∙ ap (λ k. cond (bytes_eq p.name.lexeme t) (Some k) (parameter_place t ps)) size ∙ sym (placed t ps p missing),
  sym (ap (λ found. option_or (repeated_name found p.name) (duplicate (ps ++ p ∷ []) rest)) missing) ∙ distinct,
)
  where
    missing : parameter_place p.name.lexeme ps ≡ None
    missing = sym (before p.name.lexeme) ∙ none

-- ---- options change no name

one_kept : (p : Parameter) (o : ArgOption) → (with_option p o).name ≡ p.name
one_kept p Flag = refl
one_kept p Multiple = refl
one_kept p (Value e) = refl

name_kept : (p : Parameter) (os : List ArgOption) → (with_options p os).name ≡ p.name
name_kept p [] = refl
name_kept p (o ∷ os) = name_kept (with_option p o) os ∙ one_kept p o

kept_from : (t : Text) (k i : ℕ) (os : List ArgOption) (ps : List Parameter)
    → position_from (is_named t) k (with_options_at i os ps) ≡ position_from (is_named t) k ps
kept_from t k i os [] = refl
kept_from t k zero os (p ∷ ps) = ap (λ name. cond (bytes_eq t name.lexeme) (Some k) (position_from (is_named t) (k + 1) ps)) (name_kept p os)
kept_from t k (suc i) os (p ∷ ps) = ap (cond (is_named t p) (Some k)) (kept_from t (k + 1) i os ps)

pub places_kept : (t : Text) (i : ℕ) (os : List ArgOption) (ps : List Parameter) → parameter_place t (with_options_at i os ps) ≡ parameter_place t ps
places_kept t i os ps = kept_from t 0 i os ps

-- ---- a place is one of a parameter

within_from : (t : Text) (k i : ℕ) (ps : List Parameter) → position_from (is_named t) k ps ≡ Some i → i < k + length ps
within_from t k i [] is = absurd (cc)
within_from t k i (p ∷ ps) is = by (is_named t p) is (within_from t (k + 1) i ps)
  where
    by : (b : Bool) → cond b (Some k) (position_from (is_named t) (k + 1) ps) ≡ Some i
        → (position_from (is_named t) (k + 1) ps ≡ Some i → i < (k + 1) + length ps) → i < k + length (p ∷ ps)
    by true here later = let same : k ≡ i = cc in omega (arith, same)
    by false there later = let less = later there in omega (arith, less)

pub within : (t : Text) (i : ℕ) (ps : List Parameter) → parameter_place t ps ≡ Some i → i < length ps
within t i ps is = let less = within_from t 0 i ps is in omega (arith, less)

-- the parameter at a place is another one
pub changed : {X : Type 0} (view : X → Parameter) (xs : List X) (i : ℕ) (d x : X) (os : List ArgOption) → i < length xs
    → view x ≡ with_options (view (get_or xs i d)) os → map view (set xs i x) ≡ with_options_at i os (map view xs)
changed view [] i d x os less is = absurd (let bad : i < 0 = less in omega (arith, bad))
changed view (y ∷ ys) zero d x os less is = ap (λ p. p ∷ map view ys) is
changed view (y ∷ ys) (suc i) d x os less is =
    let on : i < length ys = omega (arith, less) in
    ap (λ ps. view y ∷ ps) (changed view ys i d x os on is)
