use Rattle.std.proofs.Common.{◌∙◌}
use Rattle.std.proofs.lemmas.Iterator.Consumers.{YieldsList-end}
use Rattle.just_text.proofs.Words.{YieldsList-from_words}
use Rattle.just_text.proofs.split.split_whitespace.Goals as goal

pub returns : goal.returns
returns c =
    let all = YieldsList-end (YieldsList-from_words c.args.text.now c.utf8.text cc) c.loop-word.yielded _ c.loop-word.yielded_by _ _ c.in-None.is
    c.next.ensures.steps in
    c.loop-word.invariant ∙ all.0
