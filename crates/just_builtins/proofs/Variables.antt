-- Environment variables.
use Rattle.std.proofs.Common.{◌≡◌, ℕ, suc, ◌+◌, ◌<◌, Bool, true, false, cond, List, [], ◌∷◌, Option, Some, None, Result, Ok, Err, refl, sym, ap, subst, ◌∙◌}
use Rattle.std.proofs.Common.{add-one, bytes_eq, drop, drop-cons, get_or, length, map, option_map, string_bytes}
use Rattle.std.specs.BTreeMap.{is_at}
use Rattle.std.specs.Cmp.Lexicographic.{slice_cmp}
use Rattle.std.specs.Map.{lookup}
use Rattle.std.specs.Ordering.{is_eq, nat_cmp}
use Rattle.std.specs.declared.string.String.{String}
use Rattle.std.proofs.lemmas.Cmp.{nat_list_eq_equiv}
use Rattle.std.proofs.lemmas.Map.Text.{is_eq-slice_cmp}
use Rattle.just_builtins.specs.Prelude.{Answer, Answers, Asked, AskedOr, Behaves, Called, Context, Frames, FunctionReply, Gave, GivesOr, IsReply, Outcome}
use Rattle.just_builtins.specs.Prelude.{Returned, Step, unchecked}
use Rattle.just_builtins.specs.Prelude.{Text, TextOf, Value, asks_environment, asks_text, entry, first_set, frameless, freely, outcome, text_answered, tree}
use Rattle.just_builtins.specs.Prelude.{variable_not_unicode, variable_reply, variable_unreadable}
use Rattle.just_host.specs.Question.{Variable}
use Rattle.just_builtins.specs.Asking.{or_asks, none_set}
use Rattle.just_builtins.specs.declared.call_fault.CallFault.{CallFault}
use Rattle.just_builtins.proofs.Calls.{asked_or, unasked}

-- a map's value for a key is the first value for it in the list of pairs
at_first : {A : Type 0} (b c : Bool) (pair : Text × Text) (text : String A) (after : Option (Text × Text)) (other : Option (String A)) → b ≡ c
    → pair.1 ≡ string_bytes text → option_map (λ p. p.1) after ≡ option_map string_bytes other
    → option_map (λ p. p.1) (cond b (Some pair) after) ≡ option_map string_bytes (cond c (Some text) other)
at_first true true pair text after other same is rest = cc
at_first true false pair text after other same is rest = absurd (cc)
at_first false true pair text after other same is rest = absurd (cc)
at_first false false pair text after other same is rest = rest

pub entry_is : {A B : Type 0} (key : Text) (es : List (String A × String B)) → entry (map (λ e. (string_bytes e.0, string_bytes e.1)) es) key
    ≡ option_map string_bytes (lookup (is_at (λ k. slice_cmp nat_cmp key (string_bytes k))) es)
entry_is key [] = refl
entry_is key (e ∷ es) =
    at_first (bytes_eq (string_bytes e.0) key) (is_eq (slice_cmp nat_cmp key (string_bytes e.0))) (string_bytes e.0, string_bytes e.1) e.1 _ _
    (nat_list_eq_equiv.symm (string_bytes e.0) key ∙ sym (is_eq-slice_cmp key (string_bytes e.0))) refl (entry_is key es)

-- a variable of the dotenv map
pub from_dotenv : (dotenv : List (Text × Text)) (key : Text) (rest : FunctionReply) (text : Text) (v : Value) → entry dotenv key ≡ Some text → v ≡ text ∷ []
    → variable_reply dotenv key rest ≡ Answers v
from_dotenv dotenv key rest text v found is =
    ap (λ e. or_asks e (asks_text (Variable key) rest (variable_not_unicode key) (variable_unreadable key))) found ∙ ap Answers (sym is)

module _ {S : Type 0} (step : Step S) (shown : Frames) where
  -- a variable that the dotenv map lacks
  pub asked_variable : {old new : S} (dotenv : List (Text × Text)) (key : Text) (a : Answer) (result : Result (Option Value) CallFault)
      → entry dotenv key ≡ None → step old (frameless (TextOf (Variable key))) a new
      → GivesOr (λ rest. text_answered rest (variable_not_unicode key) (variable_unreadable key) a) result
      → AskedOr step old shown (variable_reply dotenv key) result new
  asked_variable {old = old} {new = new} dotenv key a result none taken is =
      subst (λ e. AskedOr step old shown (λ rest. or_asks e (asks_text (Variable key) rest (variable_not_unicode key) (variable_unreadable key))) result new)
      (sym none)
      (asked_or step shown (TextOf (Variable key)) (λ rest. text_answered rest (variable_not_unicode key) (variable_unreadable key)) a result taken is)

  -- one of several variables, if a run from it on is a run of all
  module _ (dotenv : List (Text × Text)) (old mid new : S) (keys : List Text) (i : ℕ) (s key : Text) (within : i < length keys)
      (here : s ≡ get_or keys i s) (same : key ≡ s)
      (so_far : (rest : FunctionReply) (o : Outcome Called) (last : S) → Behaves freely step unchecked mid (tree shown (first_set dotenv rest (drop i keys))) o
      last → Behaves freely step unchecked old (tree shown (first_set dotenv rest keys)) o last)
      (r : Result (Option Value) CallFault) (turn : AskedOr step mid shown (variable_reply dotenv key) r new) where
    abbrev keys_left : List Text
    keys_left = drop (i + 1) keys

    from : (rest : FunctionReply) (o : Outcome Called) (last : S)
        → Behaves freely step unchecked mid (tree shown (first_set dotenv rest (key ∷ keys_left))) o last
        → Behaves freely step unchecked old (tree shown (first_set dotenv rest keys)) o last
    from rest o last run =
        let with_key : (t : Text) → t ≡ key → t ∷ keys_left ≡ key ∷ keys_left = λ t is. ap (λ x. x ∷ keys_left) is in
        let next = drop-cons keys i s within ∙ ap (λ t. t ∷ drop (suc i) keys) (sym here) in
        let all = next ∙ ap (λ j. s ∷ drop j keys) (sym (add-one i)) ∙ with_key s (sym same) in
        so_far rest o last (subst (λ ks. Behaves freely step unchecked mid (tree shown (first_set dotenv rest ks)) o last) (sym all) run)

    pub not_set : r ≡ Ok None → (rest : FunctionReply) (o : Outcome Called) (last : S)
        → Behaves freely step unchecked new (tree shown (first_set dotenv rest keys_left)) o last
        → Behaves freely step unchecked old (tree shown (first_set dotenv rest keys)) o last
    not_set is rest o last run =
        from rest o last (subst (λ x. AskedOr step mid shown (variable_reply dotenv key) x new) is turn (first_set dotenv rest keys_left) o last run)

    pub set : (v : Value) → r ≡ Ok (Some v) → (rest : FunctionReply)
        → Behaves freely step unchecked old (tree shown (first_set dotenv rest keys)) (Gave (Returned v)) new
    set v is rest =
        from rest (Gave (Returned v)) new (subst (λ x. AskedOr step mid shown (variable_reply dotenv key) x new) is turn (first_set dotenv rest keys_left))

    pub ended : (result : Result (Option Value) CallFault) (e d : CallFault) → r ≡ Err d → result ≡ Err e → e ≡ d
        → AskedOr step old shown (λ rest. first_set dotenv rest keys) result new
    ended result e d is out alike =
        let all = subst (λ x. AskedOr step mid shown (variable_reply dotenv key) x new) (is ∙ ap Err (sym alike)) turn in
        subst (λ x. AskedOr step old shown (λ rest. first_set dotenv rest keys) x new) (sym out)
        (λ rest. (from rest (outcome (Err e)) new (all (first_set dotenv rest keys_left)).0, (all (first_set dotenv rest keys_left)).1))

  -- all of them, and then the result if none is set
  module _ (c : Context) (default : Option Value) (old new : S) (keys given : List Text) (same : given ≡ keys) (r : Result (Option Value) CallFault)
      (run : AskedOr step old shown (λ rest. first_set c.fixed.dotenv rest given) r new) where
    here : AskedOr step old shown (λ rest. first_set c.fixed.dotenv rest keys) r new
    here = subst (λ ks. AskedOr step old shown (λ rest. first_set c.fixed.dotenv rest ks) r new) same run

    pub all_set : (v : Value) → r ≡ Ok (Some v) → Asked step old shown (asks_environment c keys default) (Ok v) new
    all_set v is = (subst (λ x. AskedOr step old shown (λ rest. first_set c.fixed.dotenv rest keys) x new) is here (none_set keys default), λ e. absurd (cc))

    pub all_ended : (result : Result Value CallFault) (e d : CallFault) → r ≡ Err d → result ≡ Err e → e ≡ d
        → Asked step old shown (asks_environment c keys default) result new
    all_ended result e d is out alike =
        let all = subst (λ x. AskedOr step old shown (λ rest. first_set c.fixed.dotenv rest keys) x new) (is ∙ ap Err (sym alike)) here
        (none_set keys default) in
        subst (λ x. Asked step old shown (asks_environment c keys default) x new) (sym out) all

    pub all_unset : (result : Result Value CallFault) (others : List Text) → others ≡ keys → r ≡ Ok None → IsReply (none_set others default) result
        → Asked step old shown (asks_environment c keys default) result new
    all_unset result others alike is gave =
        let end = unasked {step = step} {h = new} shown (none_set keys default) result (subst (λ ks. IsReply (none_set ks default) result) alike gave) in (
          subst (λ x. AskedOr step old shown (λ rest. first_set c.fixed.dotenv rest keys) x new) is here (none_set keys default) (outcome result) new end.0,
          end.1,
        )
