use Rattle.std.proofs.Common.{◌≡◌, ap, map, sym, ◌∙◌}
use mathlib.Core.Path.{fun_ext}
use Rattle.std.proofs.lemmas.Result.{IfOk-weaker}
use Rattle.just_syntax.specs.View.{name_view, recipe_parameter_view}
use Rattle.just_syntax.specs.declared.parameter.Parameter.{Parameter}
use Rattle.just_syntax.proofs.Successes.{on_ok}
use Rattle.just_syntax.specs.Plain as plain
use Rattle.just_resolve.specs.Prelude.{parameter_view, variable_named}
use Rattle.just_resolve.proofs.Appending.{map_map}
use Rattle.just_parser.specs.View.{recipe_definition_view}
use Rattle.just_recipe.specs.Numbered.{numbered_recipe, numbered_recipe_view}
use Rattle.just_recipe.proofs.numbering.Numbering.number.Goals as goal

pub returns-clause-copy : goal.returns-clause-copy
returns-clause-copy c =
    let definition = recipe_definition_view c.args.definition.now in
    let outside = variable_named c.args.self.now.names in
    IfOk-weaker c.followed.result _ _ (λ copy kept. record {
      parameters = map parameter_view c.in_ok-numbers.numbers.items;
      named = c.in_ok-numbers.ensures.names ∙ ap (map name_view) c.deref-2.ensures.value ∙ c.in_ok-parameters.ensures
          ∙ ap (map (λ (p : Parameter). name_view p.name)) c.deref.ensures.value
          ∙ sym (map_map (λ (p : plain.Parameter). p.name) recipe_parameter_view c.args.definition.now.parameters.items);
      free = c.in_ok-numbers.ensures.free;
      same = ap numbered_recipe_view kept.0 ∙ on_ok c.fill-filled.result kept.1 c.fill-filled.ensures.copy
          ∙ ap (λ names. numbered_recipe names (map parameter_view c.deref-3.result.now) definition) (fun_ext c.clear_parameters.ensures.variables)
          ∙ ap (λ ps. numbered_recipe outside (map parameter_view ps) definition) c.deref-3.ensures.value;
    }) c.followed.ensures.ok
