-- Look-ups in tables.
use Rattle.std.proofs.Common.{◌≡◌, List, map, Option, Some, None, Bor, refl, sym, ap, ◌∙◌, option_map}
use Rattle.just_syntax.specs.Keyed.{value_at}
use Rattle.just_syntax.specs.Plain.{Text}
use Rattle.just_syntax.specs.View.{function_view}
use Rattle.just_syntax.specs.declared.function_definition.FunctionDefinition.{FunctionDefinition}
use Rattle.just_syntax.proofs.Tables.{seen_at}
use Rattle.just_meaning.specs.Reaches.{function_at}

module _ {X Y : Type 0} (f : X → Y) (key : Y → Text) where
  after : (r : Option (Bor X)) → option_map f (option_map (λ v. v.now) r) ≡ option_map (λ v. f v.now) r
  after None = refl
  after (Some v) = refl

  -- the result of a look-up, as plain data
  pub found_at : (name : Text) (xs : List X) (r : Option (Bor X)) → option_map (λ v. v.now) r ≡ value_at (λ x. key (f x)) name xs
      → value_at key name (map f xs) ≡ option_map (λ v. f v.now) r
  found_at name xs r is = seen_at f key name xs ∙ ap (option_map f) (sym is) ∙ after r

pub function_found : (name : Text) (fs : List FunctionDefinition) (r : Option (Bor FunctionDefinition))
    → option_map (λ v. v.now) r ≡ value_at (λ f. f.name.token.lexeme.now) name fs
    → function_at (map function_view fs) name ≡ option_map (λ v. function_view v.now) r
function_found name fs r is = found_at function_view (λ f. f.name.lexeme) name fs r is
