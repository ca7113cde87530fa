use Rattle.std.proofs.Common.{ap, refl, ◌∙◌}
use Rattle.std.specs.Map.{lookup}
use Rattle.std.proofs.lemmas.Result.{IfOk-weaker}
use Rattle.just_syntax.specs.View.{parameter_view}
use Rattle.just_value.proofs.Named.{is_key_named, last_first}
use Rattle.just_value.proofs.expression_context.ExpressionContext.from_pairs.Goals as goal

pub returns : goal.returns
returns c = IfOk-weaker c.from_first.result _ _ (λ context is name. is name ∙ ap (lookup (is_key_named name)) c.in_ok-pairs_backwards.ensures
    ∙ last_first parameter_view (λ p. (p.0.token.lexeme, p.1)) (λ p. (refl, refl)) c.args.pairs.now name) c.from_first.ensures
