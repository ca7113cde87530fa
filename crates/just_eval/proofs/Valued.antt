-- The value of a parameter for an argument, by cases.
use Rattle.std.proofs.Common.{◌≡◌, Bool, true, false, [], ◌∷◌, length, Option, Some, None, ap, ◌∙◌, if◌then◌else◌, arith}
use Rattle.std.proofs.lemmas.Bool.Decides.{nat_tests}
use Rattle.std.specs.Bool.{◌==◌}
use Rattle.just_eval.specs.Prelude.{Expr, Parameter, Text, Tree, Value, bind, gives, repeated, valued}
use Rattle.just_meaning.specs.Parameters.{argument_or_value, default_or_none}

module _ (means : Expr → Tree Value) (is_dependency : Bool) (recipe : Text) (p : Parameter) (argument : Value) where
  -- for an empty argument: the default, or no element
  pub valued_none : (o : Option Expr) → (length argument == 0) ≡ true → p.default ≡ o → valued means is_dependency recipe p argument
      ≡ default_or_none means recipe p o
  valued_none o empty is = by argument empty
    where
      by : (vs : Value) → (length vs == 0) ≡ true → valued means is_dependency recipe p vs ≡ default_or_none means recipe p o
      by [] e = ap (default_or_none means recipe p) is
      by (x ∷ xs) e = let none : length (x ∷ xs) ≡ 0 = grind (arith, nat_tests) in absurd (omega arith)

  given : (o : Option Expr) → (length argument == 0) ≡ false → p.value ≡ o → valued means is_dependency recipe p argument
      ≡ argument_or_value means is_dependency argument o
  given o some is = by argument some
    where
      by : (vs : Value) → (length vs == 0) ≡ false → valued means is_dependency recipe p vs ≡ argument_or_value means is_dependency vs o
      by [] e = absurd (cc)
      by (x ∷ xs) e = ap (argument_or_value means is_dependency (x ∷ xs)) is

  -- the parameter's value in place of the argument
  pub valued_value : (e : Expr) → (length argument == 0) ≡ false → p.value ≡ Some e → is_dependency ≡ false → valued means is_dependency recipe p argument
      ≡ bind (means e) (λ v. gives (repeated (length argument) v))
  valued_value e some is own = given (Some e) some is ∙ ap (λ b. if b then gives argument else bind (means e) (λ v. gives (repeated (length argument) v))) own

  -- for a dependency: the argument itself
  pub valued_dependency : (o : Option Expr) → (length argument == 0) ≡ false → p.value ≡ o → is_dependency ≡ true
      → valued means is_dependency recipe p argument ≡ gives argument
  valued_dependency None some is own = given None some is
  valued_dependency (Some e) some is own =
      given (Some e) some is ∙ ap (λ b. if b then gives argument else bind (means e) (λ v. gives (repeated (length argument) v))) own

  pub valued_argument : (length argument == 0) ≡ false → p.value ≡ None → valued means is_dependency recipe p argument ≡ gives argument
  valued_argument some is = given None some is
