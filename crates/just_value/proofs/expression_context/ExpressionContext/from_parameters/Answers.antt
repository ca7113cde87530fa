use Rattle.std.proofs.Common.{ap, refl, ◌∙◌}
use Rattle.std.specs.Map.{lookup}
use Rattle.std.proofs.lemmas.Result.{IfOk-weaker}
use Rattle.just_value.specs.Prelude.{last_of}
use Rattle.just_value.proofs.Named.{is_key_named, last_first}
use Rattle.just_value.proofs.Numbering.{pair_of, pairs_of}
use Rattle.just_value.proofs.expression_context.ExpressionContext.from_parameters.Goals as goal

pub returns : goal.returns
returns c = IfOk-weaker c.from_first.result _ _ (λ context is name. is name ∙ ap (lookup (is_key_named name)) c.in_ok-parameters_backwards.ensures
    ∙ last_first pair_of (λ p. (p.name.token.lexeme, p.number)) (λ p. (refl, refl)) c.args.parameters.now name
    ∙ ap (λ ps. last_of ps name) (pairs_of c.args.parameters.now)) c.from_first.ensures
