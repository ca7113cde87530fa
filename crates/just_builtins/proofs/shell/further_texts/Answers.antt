use Rattle.std.proofs.Common.{◌∙◌, ap, map, string_bytes}
use Rattle.std.proofs.lemmas.List.{map_push}
use Rattle.just_builtins.specs.Prelude.{first}
use Rattle.just_builtins.proofs.Texts.{all_done, one_more}
use Rattle.just_builtins.proofs.shell.further_texts.Goals as goal

pub loop-i-preserved : goal.loop-i-preserved
loop-i-preserved c = one_more first c.args.arguments.now c.loop-i.i _ _ _ _ _ c.loop-i-test.true c.text_at.ensures
    (ap (map string_bytes) c.in_ok-push.ensures.items ∙ map_push string_bytes c.loop-i.texts.items _) c.in_ok-from_str.ensures.ok c.loop-i.invariant

pub returns : goal.returns
returns c = all_done first c.args.arguments.now c.loop-i.i _ _ c.loop-i-test.false c.loop-i.invariant
