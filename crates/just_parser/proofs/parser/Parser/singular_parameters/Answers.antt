use Rattle.std.proofs.Common.{arith, length, map, rules, sym, ◌∙◌, ◌-◌}
use Rattle.just_syntax.specs.View.{recipe_parameter_view}
use Rattle.just_syntax.specs.declared.parameter_kind.ParameterKind.TheVariants.{Singular}
use Rattle.just_parser.proofs.Repeated.{turn_refused, turned, turns_end, turns_over}
use Rattle.just_parser.specs.Parsed.{IsPhraseRefused, unread}
use Rattle.just_parser.specs.Phrase.{many}
use Rattle.just_parser.specs.Recipes.{is_after_parameters, recipe_parameter}
use Rattle.just_parser.proofs.parser.Parser.singular_parameters.Goals as goal

pub returns-then-is_after_parameters-clause-ok : goal.returns-then-is_after_parameters-clause-ok
returns-then-is_after_parameters-clause-ok c =
    turns_end is_after_parameters (recipe_parameter Singular) (map recipe_parameter_view c.loop.into.items)
    (map recipe_parameter_view c.args.into.now.items) _ (unread c.loop.self) (unread c.args.self.now)
    (sym c.is_after_parameters.ensures ∙ c.if-is_after_parameters.true) c.loop.invariant

pub returns-in_err-recipe_parameter-clause-refused : goal.returns-in_err-recipe_parameter-clause-refused
returns-in_err-recipe_parameter-clause-refused c =
    let refused : IsPhraseRefused (many is_after_parameters (recipe_parameter Singular) (unread c.args.self.now)) c.in_err-recipe_parameter.field-0.0 =
    turn_refused (length c.rest-end.result.now) c.loop.counter is_after_parameters (recipe_parameter Singular)
    (map recipe_parameter_view c.loop.into.items) (map recipe_parameter_view c.args.into.now.items)
    (unread c.loop.self) (many is_after_parameters (recipe_parameter Singular) (unread c.args.self.now)) c.in_err-recipe_parameter.field-0.0 c.loop-test.true
    (sym c.is_after_parameters.ensures ∙ c.if-is_after_parameters.false)
    c.in_err-recipe_parameter.ensures.refused c.loop.invariant in
    search rules

pub loop-preserved : goal.loop-preserved
loop-preserved c =
    turned (length c.rest-end.result.now) c.loop.counter is_after_parameters (recipe_parameter Singular) (map recipe_parameter_view c.loop.into.items)
    (map recipe_parameter_view c.recipe_parameter.new.into.items) (unread c.loop.self)
    (unread c.recipe_parameter.new.self) c.loop-test.true (sym c.is_after_parameters.ensures ∙ c.if-is_after_parameters.false)
    c.in_ok-recipe_parameter.ensures.ok ∙ c.loop.invariant

pub returns-clause-ok : goal.returns-clause-ok
returns-clause-ok c =
    turns_over is_after_parameters (recipe_parameter Singular) (map recipe_parameter_view c.loop.into.items)
    (map recipe_parameter_view c.args.into.now.items) (length c.rest-end.result.now - c.loop.counter) (unread c.loop.self)
    (unread c.args.self.now) (omega (arith, c.loop-test.false)) c.loop.invariant
