use Rattle.std.proofs.Common.{◌∙◌, sym}
use Rattle.std.proofs.lemmas.Simd.{map-map}
use Rattle.just_builtins.specs.Prelude.{first, quoted}
use Rattle.just_builtins.proofs.Texts.{all_done, one_more}
use Rattle.just_builtins.proofs.shell.quoted_texts.Goals as goal

pub loop-i-preserved : goal.loop-i-preserved
loop-i-preserved c = one_more (λ v. quoted (first v)) c.args.arguments.now c.loop-i.i _ _ _ _ _ c.loop-i-test.true c.text_at.ensures c.in_ok-push.ensures.items
    (c.from_string.ensures ∙ c.in_ok-text.ensures.ok) c.loop-i.invariant

pub returns : goal.returns
returns c = all_done (λ v. quoted (first v)) c.args.arguments.now c.loop-i.i _ _ c.loop-i-test.false c.loop-i.invariant
    ∙ sym (map-map quoted first c.args.arguments.now)
