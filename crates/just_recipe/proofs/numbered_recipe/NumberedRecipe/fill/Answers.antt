use Rattle.std.proofs.Common.{[], ap, map, ◌++◌, ◌∙◌}
use Rattle.std.proofs.lemmas.Result.{on_ok_weaker}
use Rattle.std.specs.Option.{option_or}
use Rattle.just_syntax.specs.Plain.{Recipe}
use Rattle.just_syntax.specs.View.{line_view, name_view, recipe_parameter_view}
use Rattle.just_resolve.specs.Prelude.{name_number, parameter_view, variable_named}
use Rattle.just_parser.specs.View.{dependency_view, recipe_definition_view}
use Rattle.just_recipe.specs.Numbered.{numbered_attributes, numbered_dependency, numbered_in_turn, numbered_line}
use Rattle.just_recipe.proofs.Numbered.{added_to_none, numbered_of}
use Rattle.just_recipe.proofs.numbered_recipe.NumberedRecipe.fill.Goals as goal

pub returns-clause-copy : goal.returns-clause-copy
returns-clause-copy c =
    let definition = recipe_definition_view c.args.definition.now in
    let numbers = map parameter_view c.args.numbers.now in
    let outside = variable_named c.args.names.now in
    let inside = name_number c.add_parameters.new.names in
    let attributes = numbered_attributes (name_number c.args.names.now) definition.recipe.attributes in
    let old = c.requires.recipe in
    on_ok_weaker c.add_dependencies-2.result (λ subsequents.
    numbered_of numbers definition (λ t. ap (λ o. option_or o (outside t)) (c.requires.unset t)) c.in_ok-add_parameters.ensures.names
    (added_to_none line_view (numbered_line inside) c.in_ok-add_lines.ensures c.requires.body c.deref-2.ensures.value)
    (added_to_none dependency_view (numbered_dependency inside) c.in_ok-add_dependencies.ensures c.requires.dependencies c.deref-3.ensures.value)
    (c.in_ok-add_parameters.ensures.copies ∙ ap (λ ps. numbered_in_turn outside [] (map recipe_parameter_view ps) numbers) c.deref.ensures.value)
    (ap (λ as'. record { attributes = as'; name = name_view c.args.self.now.recipe.name })
    (c.in_ok-add_attributes.ensures ∙ ap (λ (r : Recipe). r.attributes ++ attributes) old)
    ∙ ap (λ (r : Recipe). record { attributes = attributes; name = r.name }) old)
    (added_to_none dependency_view (numbered_dependency inside) subsequents c.requires.subsequents c.deref-4.ensures.value)) c.add_dependencies-2.ensures
