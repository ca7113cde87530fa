-- Modules with one more assignment.
use Rattle.std.proofs.Common.{◌≡◌, Bool, true, false, List, [], ◌∷◌, ◌++◌, map, Option, Some, None, Bor, if◌then◌else◌, is_some, option_map, refl, ap, sym, ◌∙◌}
use Rattle.just_syntax.proofs.Tables.{seen_at}
use Rattle.just_syntax.specs.Keyed.{value_at, with_value}
use Rattle.just_syntax.specs.Plain as plain
use Rattle.just_syntax.specs.declared.assignment.Assignment.{Assignment}
use Rattle.just_host.specs.Justfile.{Justfile, assigns}
use Rattle.just_host.specs.Prelude.{Text, assignment_view, with_assignment}

some_mapped : {X Y : Type 0} (f : X → Y) (o : Option X) → is_some (option_map f o) ≡ is_some o
some_mapped f None = refl
some_mapped f (Some x) = refl

-- what a look-up in a table says of the module
pub assigns_if : (all : List Assignment) (name : Text) (r : Option (Bor Assignment)) (b : Bool)
    → option_map (λ v. v.now) r ≡ value_at (λ a. a.name.token.lexeme.now) name all → is_some r ≡ b
    → is_some (value_at (λ a. a.name.lexeme) name (map assignment_view all)) ≡ b
assigns_if all name r b found is =
    ap is_some (seen_at assignment_view (λ a. a.name.lexeme) name all) ∙ some_mapped assignment_view (value_at (λ a. a.name.token.lexeme.now) name all)
    ∙ ap is_some (sym found) ∙ some_mapped (λ v. v.now) r ∙ is

module _ (j : Justfile) (a : plain.Assignment) (all : List plain.Assignment) (inserted : all ≡ with_value (λ b. b.name.lexeme) j.assignments a) where
  pub assigned_again : assigns j a.name.lexeme ≡ true → record j { assignments = all } ≡ with_assignment j a
  assigned_again there =
      ap (λ xs. record j { assignments = xs }) inserted
      ∙ ap (λ b. record j {
        assignments = with_value (λ b. b.name.lexeme) j.assignments a;
        evaluation_order = if b then j.evaluation_order else j.evaluation_order ++ a.name ∷ [];
      }) (sym there)

  pub assigned_last : (order : List plain.Token) → order ≡ j.evaluation_order ++ a.name ∷ [] → assigns j a.name.lexeme ≡ false
      → record j { assignments = all; evaluation_order = order } ≡ with_assignment j a
  assigned_last order more new =
      ap (λ xs. record j { assignments = xs; evaluation_order = order }) inserted
      ∙ ap (λ ts. record j { assignments = with_value (λ b. b.name.lexeme) j.assignments a; evaluation_order = ts }) more
      ∙ ap (λ b. record j {
        assignments = with_value (λ b. b.name.lexeme) j.assignments a;
        evaluation_order = if b then j.evaluation_order else j.evaluation_order ++ a.name ∷ [];
      }) (sym new)
