use Rattle.std.proofs.Common.{◌≡◌, ◌∙◌, ap, sym, subst, IfOk}
use Rattle.std.proofs.lemmas.Iterator.Consumers.{YieldsList-end}
use Rattle.just_text.proofs.Pieces.{YieldsList-from_pieces}
use Rattle.just_text.proofs.Runs.{pieces_of_byte}
use Rattle.just_text.specs.Prelude.{pieces}
use Rattle.just_text.proofs.split.pieces.Goals as goal

pub returns : goal.returns
returns c =
    let all = YieldsList-end (YieldsList-from_pieces c.args.separator.now c.args.text.now c.requires (cc) (cc) (cc)) c.loop-piece.yielded _
    c.loop-piece.yielded_by _ _ c.in-None.is c.next.ensures.steps in
    c.loop-piece.invariant ∙ all.0

pub returns-in-Some : goal.returns-in-Some
returns-in-Some c =
    let text = c.args.text.now in
    let same = sym (pieces_of_byte c.in-Some.byte text) ∙ ap (λ separator. pieces separator text) (sym c.in-Some.ensures.1) in
    subst (λ ps. IfOk c.pieces_at_byte.result (λ v. v.items ≡ ps)) same c.pieces_at_byte.ensures
