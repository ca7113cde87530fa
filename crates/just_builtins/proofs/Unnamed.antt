-- Functions without a name.
use Rattle.std.proofs.Common.{◌≡◌, ◌≢◌, ℕ, Bool, true, false, cond, eqb, List, [], ◌∷◌, Option, Some, refl, sym, ap, ◌∙◌, bytes_eq, find, filter, map}
use Rattle.std.proofs.Common.{option_map}
use Rattle.std.proofs.lemmas.Bool.{eq-eqb}
use Rattle.std.specs.List.{AllByRecursion}
use Rattle.just_builtins.specs.Prelude.{Binary, BinaryOptToValue, BinaryOptValueStrToValue, BinaryPlus, BinaryStrValue, IsUnnamed, Nullary, Ternary, Text}
use Rattle.just_builtins.specs.Prelude.{Unary, UnaryMap, UnaryPlus, UnaryToValue, ValueBinary, ValueBinaryOpt, ValueNullary, ValueUnary, find_in}
use Rattle.just_builtins.specs.Prelude.{function_named, table, whole_name}
use Rattle.just_builtins.specs.declared.function.Function.{Function}
use Rattle.just_builtins.specs.declared.function.Function.TheVariants.{BinaryOptValueStr, BinaryToValue}

-- a function that passes a test is none of all, if it is none of those that pass the test
none_of_all : (q : Function → Bool) (f g : Function) (b : Bool) (gs : List Function) → q f ≡ true → q g ≡ b
    → AllByRecursion (λ other. other ≢ f) (cond b (g ∷ gs) gs) → (g ≢ f) × AllByRecursion (λ other. other ≢ f) gs
none_of_all q f g true gs own is none = none
none_of_all q f g false gs own is none = ((λ e. let other : false ≡ true = sym is ∙ (ap q e ∙ own) in absurd (cc)), none)

-- if the first entry has another function and the rest does not give f, the whole does not give f
unnamed_at : (f : Function) (e : Text × Function) (b : Bool) (after : Option (Text × Function)) → e.1 ≢ f → option_map (λ entry. entry.1) after ≢ Some f
    → option_map (λ entry. entry.1) (cond b (Some e) after) ≢ Some f
unnamed_at f e true after other none found = other (let same : e.1 ≡ f = cc in same)
unnamed_at f e false after other none found = none found

-- if no entry has the function f, no look-up gives it
unnamed_in : (q : Function → Bool) (f : Function) → q f ≡ true → (entries : List (Text × Function))
    → AllByRecursion (λ other. other ≢ f) (filter q (map (λ entry. entry.1) entries)) → (name : Text) → find_in entries name ≢ Some f
unnamed_in q f own [] none name = λ found. absurd (cc)
unnamed_in q f own (e ∷ es) none name =
    let parts = none_of_all q f e.1 (q e.1) (filter q (map (λ entry. entry.1) es)) own refl none in
    unnamed_at f e (bytes_eq e.0 name) (find (λ entry. bytes_eq entry.0 name) es) parts.0 (unnamed_in q f own es parts.1 name)

-- a function that passes a test has no name, if it is none of the table's functions that pass the test
pub unnamed_by : (q : Function → Bool) (f : Function) → q f ≡ true → AllByRecursion (λ other. other ≢ f) (filter q (map (λ entry. entry.1) table)) → IsUnnamed f
unfolding function_named
unnamed_by q f own none name found = unnamed_in q f own table none (whole_name name) found

-- a number for each shape
abbrev shape : Function → ℕ
shape (Binary b) = 0
shape (BinaryOptToValue b) = 1
shape (BinaryOptValueStr b) = 2
shape (BinaryOptValueStrToValue b) = 3
shape (BinaryPlus b) = 4
shape (BinaryStrValue b) = 5
shape (BinaryToValue b) = 6
shape (Nullary b) = 7
shape (Ternary b) = 8
shape (Unary b) = 9
shape (UnaryMap b) = 10
shape (UnaryPlus b) = 11
shape (UnaryToValue b) = 12
shape (ValueBinary b) = 13
shape (ValueBinaryOpt b) = 14
shape (ValueNullary b) = 15
shape (ValueUnary b) = 16

-- a function has no name, if it is none of the table's functions of its shape
pub unnamed : (f : Function) → AllByRecursion (λ other. other ≢ f) (filter (λ g. eqb (shape f) (shape g)) (map (λ entry. entry.1) table)) → IsUnnamed f
unnamed f none = unnamed_by (λ g. eqb (shape f) (shape g)) f (eq-eqb (shape f) (shape f) refl) none

-- the shapes of no built-in function
abbrev pub is_of_no_builtin : Function → Bool
is_of_no_builtin (BinaryOptValueStr b) = true
is_of_no_builtin (BinaryToValue b) = true
is_of_no_builtin _ = false
