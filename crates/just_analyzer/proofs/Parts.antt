-- Parts, and one more.
use Rattle.std.specs.Prelude.{◌≡◌, ◌&&◌, not, Bool, false, List, map, Option, Some, None, option_map}
use Rattle.std.specs.Option.{is_some}
use Rattle.std.proofs.Common.{◌∙◌, ap, refl, sym}
use Rattle.just_syntax.proofs.Tables.{seen_at}
use Rattle.just_syntax.specs.Keyed.{value_at, with_value}
use Rattle.just_syntax.specs.Plain.{Set, Text}
use Rattle.just_parser.specs.Plain.{RecipeDefinition}
use Rattle.just_analyzer.specs.Outcome.{Analyzed, Grown, after_analyzed}
use Rattle.just_analyzer.specs.Parameters.{configured}
use Rattle.just_analyzer.specs.View.{IsAnalysisFault}
use Rattle.just_analyzer.specs.declared.analysis_error.AnalysisError.{AnalysisError}
use Rattle.just_analyzer.specs.declared.analysis_error.AnalysisError.TheVariants.{Fault, OutOfMemory}
use Rattle.just_analyzer.specs.Analysis.{Alias, Analysis, and_recipe, has_alias, has_recipe, has_set}
use Rattle.just_analyzer.specs.Analysis.{with_alias, with_recipe, with_set}

some_mapped : {X Y : Type 0} (f : X → Y) (o : Option X) → is_some (option_map f o) ≡ is_some o
some_mapped f None = refl
some_mapped f (Some x) = refl

-- what is in a table is in its plain list
pub has_seen : {X Y : Type 0} (f : X → Y) (key : Y → Text) (name : Text) (xs : List X) (b : Bool)
    → b ≡ is_some (value_at (λ x. key (f x)) name xs) → b ≡ is_some (value_at key name (map f xs))
has_seen f key name xs b is = is ∙ sym (some_mapped f (value_at (λ x. key (f x)) name xs)) ∙ ap is_some (sym (seen_at f key name xs))

-- ---- one part more

pub alias_added : (a : Analysis) (alias : Alias) (all : List Alias) → has_alias a alias.name ≡ false → has_recipe a alias.name ≡ false
    → all ≡ with_value (λ other. other.name.lexeme) a.aliases alias → with_alias a alias ≡ Grown (record a { aliases = all })
unfolding with_alias
alias_added a alias all no_alias no_recipe is = rw (no_alias, no_recipe) (ap (λ xs. Grown (record a { aliases = xs })) (sym is))

-- a recipe that fits is what its attributes say
pub recipe_goes : (may_replace : Bool) (a : Analysis) (r : RecipeDefinition) → has_alias a r.recipe.name ≡ false
    → (not may_replace && has_recipe a r.recipe.name) ≡ false → with_recipe may_replace a r ≡ after_analyzed (configured r) (and_recipe a)
unfolding with_recipe
recipe_goes may_replace a r no_alias no_recipe = rw (no_alias, no_recipe) refl

pub recipe_added : (a : Analysis) (r made : RecipeDefinition) (all : List RecipeDefinition) (whole : Analyzed Analysis)
    → whole ≡ after_analyzed (configured r) (and_recipe a) → configured r ≡ Grown made
    → all ≡ with_value (λ other. other.recipe.name.lexeme) a.recipes made → whole ≡ Grown (record a { recipes = all })
recipe_added a r made all whole goes is inserted =
    goes ∙ ap (λ o. after_analyzed o (and_recipe a)) is ∙ ap (λ xs. Grown (record a { recipes = xs })) (sym inserted)

-- what follows something that does not fit does not fit
pub next_fault : {A B : Type 0} (outcome : Analyzed A) (more : A → Analyzed B) (whole : Analyzed B) (error : AnalysisError)
    → whole ≡ after_analyzed outcome more → IsAnalysisFault outcome error → IsAnalysisFault whole error
next_fault outcome more whole (Fault kind name) goes fault = goes ∙ ap (λ o. after_analyzed o more) fault
next_fault outcome more whole OutOfMemory goes fault = tt

pub set_added : (a : Analysis) (s : Set) (all : List Set) → has_set a s.name ≡ false → all ≡ with_value (λ t. t.name.lexeme) a.sets s
    → with_set a s ≡ Grown (record a { sets = all })
unfolding with_set
set_added a s all no_set is = rw no_set (ap (λ xs. Grown (record a { sets = xs })) (sym is))
