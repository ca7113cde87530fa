use Rattle.std.proofs.Common.{ap, ◌∙◌, map}
use mathlib.Core.Path.{fun_ext}
use Rattle.std.proofs.lemmas.Result.{IfOk-weaker}
use Rattle.just_resolve.proofs.Unused.{are_new}
use Rattle.just_resolve.specs.Prelude.{frames_view}
use Rattle.just_parser.specs.View.{recipe_definition_view}
use Rattle.just_recipe.specs.Numbered.{numbered_recipe}
use Rattle.just_recipe.proofs.numbered_recipe.numbered_recipe.Goals as goal

pub returns : goal.returns
returns c = IfOk-weaker c.number.result _ _
    (λ made copy. record {
      parameters = copy.parameters;
      named = copy.named;
      new = are_new (frames_view c.args.outer.now) _ c.in_ok-numbering.numbering.free.next (map (λ p. p.1) copy.parameters) c.in_ok-numbering.ensures.free
          copy.free;
      same = copy.same ∙ ap (λ names. numbered_recipe names copy.parameters (recipe_definition_view c.args.definition.now))
          (fun_ext c.in_ok-numbering.ensures.names);
    }) c.number.ensures.copy
