-- Parameters that get their numbers one after another.
use Rattle.std.proofs.Common.{◌≡◌, ◌∙◌, ℕ, List, [], ◌∷◌, ◌++◌, Option, length, map, ap, refl, sym}
use Rattle.std.proofs.lemmas.List.{append_assoc}
use mathlib.Core.Path.{fun_ext}
use Rattle.std.specs.Option.{option_or}
use Rattle.just_syntax.specs.Plain.{Parameter, Recipe, Text, Token}
use Rattle.just_resolve.specs.Numbered.{first_named}
use Rattle.just_resolve.proofs.Lookups.{first_named-append}
use Rattle.just_parser.specs.Plain.{Dependency, Line, RecipeDefinition}
use Rattle.just_recipe.specs.Numbered.{numbered_attributes, numbered_dependency, numbered_in_turn, numbered_line, numbered_parameter}
use Rattle.just_recipe.specs.Numbered.{number_with_parameters, numbered_recipe}

-- The copies so far and those that are left are all. The names have the parameters so far.
pub record AreNumbered (outside : Text → Option ℕ) (parameters : List Parameter) (numbers : List (Token × ℕ)) (copies : List Parameter)
    (own others : Text → Option ℕ) (ps : List Parameter) (qs : List (Token × ℕ)) : Type 0 where
  pub before : List (Token × ℕ)
  pub pairs : before ++ qs ≡ numbers
  pub long : length qs ≡ length ps
  pub copied : copies ++ numbered_in_turn outside before ps qs ≡ numbered_in_turn outside [] parameters numbers
  pub own_names : (t : Text) → own t ≡ first_named before t
  pub other_names : (t : Text) → others t ≡ outside t

module _ {outside : Text → Option ℕ} {parameters : List Parameter} {numbers : List (Token × ℕ)} {copies : List Parameter} {own others : Text → Option ℕ} where
  -- one more parameter has its number
  pub numbered_next : {ps left : List Parameter} {qs more : List (Token × ℕ)} (p : Parameter) (q : Token × ℕ) {copy : Parameter} {copies' : List Parameter}
      {own' others' : Text → Option ℕ} → AreNumbered outside parameters numbers copies own others ps qs → ps ≡ p ∷ left → qs ≡ q ∷ more
      → copy ≡ numbered_parameter (λ t. option_or (own t) (others t)) p q.1 → copies' ≡ copies ++ copy ∷ []
      → ((t : Text) → own' t ≡ option_or (own t) (first_named (q ∷ []) t)) → ((t : Text) → others' t ≡ others t)
      → AreNumbered outside parameters numbers copies' own' others' left more
  numbered_next {ps = ps} {left = left} {qs = qs} {more = more} p q {copy = copy} {copies' = copies'} are first second is added named same = record {
    before = are.before ++ q ∷ [];
    pairs = append_assoc are.before (q ∷ []) more ∙ ap (λ xs. are.before ++ xs) (sym second) ∙ are.pairs;
    long = let both : length (q ∷ more) ≡ length (p ∷ left) = ap length (sym second) ∙ are.long ∙ ap length first in cc;
    copied =
        let names : (λ (t : Text). option_or (own t) (others t)) ≡ number_with_parameters are.before outside =
        fun_ext (λ t. ap (λ o. option_or o (others t)) (are.own_names t) ∙ ap (option_or (first_named are.before t)) (are.other_names t)) in
        let here : copy ≡ numbered_parameter (number_with_parameters are.before outside) p q.1 = is ∙ ap (λ f. numbered_parameter f p q.1) names in
        let rest = numbered_in_turn outside (are.before ++ q ∷ []) left more in
        ap (λ cs. cs ++ rest) added ∙ append_assoc copies (copy ∷ []) rest ∙ ap (λ c. copies ++ c ∷ rest) here
        ∙ ap (λ xs. copies ++ numbered_in_turn outside are.before xs (q ∷ more)) (sym first)
        ∙ ap (λ xs. copies ++ numbered_in_turn outside are.before ps xs) (sym second) ∙ are.copied;
    own_names = λ t. named t ∙ ap (λ o. option_or o (first_named (q ∷ []) t)) (are.own_names t) ∙ sym (first_named-append are.before (q ∷ []) t);
    other_names = λ t. same t ∙ are.other_names t;
  }

-- copies that were added to none
pub added_to_none : {A B : Type 0} (view : A → B) (copy : B → B) {copies : List B} {old part all : List A}
    → copies ≡ map view old ++ map copy (map view part) → old ≡ [] → part ≡ all → copies ≡ map copy (map view all)
added_to_none view copy {part = part} added empty is =
    added ∙ ap (λ xs. map view xs ++ map copy (map view part)) empty ∙ ap (λ xs. map copy (map view xs)) is

-- a recipe is its parts
pub numbered_of : {outside before after : Text → Option ℕ} (parameters : List (Token × ℕ)) (definition : RecipeDefinition) {body : List Line}
    {dependencies subsequents : List Dependency} {ps : List Parameter} {recipe : Recipe} → ((t : Text) → before t ≡ outside t)
    → ((t : Text) → after t ≡ number_with_parameters parameters outside t) → body ≡ map (numbered_line after) definition.body
    → dependencies ≡ map (numbered_dependency after) definition.dependencies → ps ≡ numbered_in_turn outside [] definition.parameters parameters
    → recipe ≡ record { attributes = numbered_attributes before definition.recipe.attributes; name = definition.recipe.name }
    → subsequents ≡ map (numbered_dependency after) definition.subsequents
    → record { body = body; dependencies = dependencies; parameters = ps; recipe = recipe; subsequents = subsequents }
    ≡ numbered_recipe outside parameters definition
numbered_of {outside = outside} {before = before} {after = after} parameters definition outer inner body dependencies turn recipe subsequents =
    let b : before ≡ outside = fun_ext outer in
    let a : after ≡ number_with_parameters parameters outside = fun_ext inner in
    rw (body, dependencies, turn, recipe, subsequents, a, b) refl
