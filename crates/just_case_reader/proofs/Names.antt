-- Names separated by spaces.
use Rattle.std.proofs.Common.{◌≡◌, true, false, List, [], ◌∷◌, ◌++◌, Option, Some, None, refl, sym, ◌∙◌, ap, append_assoc, length, ◌<◌, eqb, map, arith}
use Rattle.std.proofs.Common.{option_map, MatchOption}
use Rattle.std.specs.List.{before_first, after_first, position_or_len}
use Rattle.std.specs.Borrow.{Bor}
use Rattle.std.proofs.lemmas.List.{map-append}
use Rattle.std.proofs.lemmas.List.Splits.{slice_split_first}
use Rattle.just_case_reader.specs.Prelude.{Text, if_names, is_name, spaced_pieces}
use Rattle.just_case_reader.proofs.Split.{split_whole}

-- names prepended one by one
in_front : (xs : List Text) (x : Text) (found : Option (List Text)) → option_map (λ list. xs ++ list) (option_map (λ list. x ∷ list) found)
    ≡ option_map (λ list. (xs ++ x ∷ []) ++ list) found
in_front xs x None = refl
in_front xs x (Some list) = ap Some (sym (append_assoc xs (x ∷ []) list))

-- a name is added after those so far
pub names_more : (xs : List Text) (x : Text) (rest after whole : List Text) → rest ≡ x ∷ after → is_name x ≡ true
    → option_map (λ list. xs ++ list) (if_names rest) ≡ if_names whole → option_map (λ list. (xs ++ x ∷ []) ++ list) (if_names after) ≡ if_names whole
names_more xs x rest after whole parts passes so_far =
    sym (in_front xs x (if_names after)) ∙ rw (parts, passes) at so_far

-- a piece that is not a name ends it
pub names_none : (xs : List Text) (x : Text) (rest after whole : List Text) → rest ≡ x ∷ after → is_name x ≡ false
    → option_map (λ list. xs ++ list) (if_names rest) ≡ if_names whole → None ≡ if_names whole
names_none xs x rest after whole parts fails so_far = rw (parts, fails) at so_far

-- the last name
pub names_last : (xs : List Text) (x : Text) (rest whole : List Text) → rest ≡ x ∷ [] → is_name x ≡ true → option_map (λ list. xs ++ list) (if_names rest)
    ≡ if_names whole → Some (xs ++ x ∷ []) ≡ if_names whole
names_last xs x rest whole parts passes so_far = rw (parts, passes) at so_far

-- a text with a space: the part before it, and the pieces of the part after it
pub pieces_first : (text name after : Text) → position_or_len (λ b. eqb b 32) text < length text → name ≡ before_first (λ b. eqb b 32) text
    → after ≡ after_first (λ b. eqb b 32) text → spaced_pieces text ≡ name ∷ spaced_pieces after
pieces_first text name after within same_name same_after = rw (same_name, same_after) (slice_split_first (λ b. eqb b 32) text 0 within)

-- a text without a space is one piece
pub pieces_only : (text : Text) → position_or_len (λ b. eqb b 32) text ≡ length text → spaced_pieces text ≡ text ∷ []
pieces_only text none = split_whole 32 text (omega (arith, none))

-- a property of `None`, if there is no value
pub match_none : {X : Type 0} {A : Type 0} (B : X → Type 0) (r : Option X) → ((x : X) → r ≡ Some x → ⊥) → MatchOption r A B → A
match_none B None nothing held = held
match_none B (Some x) nothing held = absurd (nothing x refl)

-- the same for borrowed names
pub lent_more : (xs : List (Bor Text)) (x : Bor Text) (rest after whole : List Text) → rest ≡ x.now ∷ after → is_name x.now ≡ true
    → option_map (λ list. map (λ name. name.now) xs ++ list) (if_names rest) ≡ if_names whole
    → option_map (λ list. map (λ name. name.now) (xs ++ x ∷ []) ++ list) (if_names after) ≡ if_names whole
lent_more xs x rest after whole parts passes so_far =
    rw (map-append (λ (name : Bor Text). name.now) xs (x ∷ [])) (names_more (map (λ name. name.now) xs) x.now rest after whole parts passes so_far)

pub lent_last : (xs : List (Bor Text)) (x : Bor Text) (rest whole : List Text) → rest ≡ x.now ∷ [] → is_name x.now ≡ true
    → option_map (λ list. map (λ name. name.now) xs ++ list) (if_names rest) ≡ if_names whole → Some (map (λ name. name.now) (xs ++ x ∷ [])) ≡ if_names whole
lent_last xs x rest whole parts passes so_far =
    rw (map-append (λ (name : Bor Text). name.now) xs (x ∷ [])) (names_last (map (λ name. name.now) xs) x.now rest whole parts passes so_far)
