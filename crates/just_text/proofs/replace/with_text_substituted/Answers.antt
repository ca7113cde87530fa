use Rattle.std.proofs.Common.{◌∙◌, ap}
use Rattle.std.proofs.lemmas.Iterator.Consumers.{YieldsList-end}
use Rattle.just_text.proofs.Joined.{joined_by}
use Rattle.just_text.proofs.Pieces.{YieldsList-from_pieces}
use Rattle.just_text.proofs.replace.with_text_substituted.Goals as goal

pub returns : goal.returns
returns c =
    let all = YieldsList-end (YieldsList-from_pieces c.args.from.now c.args.text.now c.requires (cc) (cc) (cc)) c.loop-piece.yielded _
    c.loop-piece.yielded_by _ _ c.in-None.is c.next.ensures.steps in
    c.loop-piece.invariant.so_far ∙ ap (joined_by c.args.to.now) all.0
