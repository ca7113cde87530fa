use Rattle.std.proofs.Common.{arith, get_or, not, sym, refl, true, false, Bool, ◌≡◌, ◌∙◌}
use Rattle.std.specs.Char.{is_whitespace}
use mathlib.Core.Bool.{beq}
use Rattle.just_text.proofs.Runs.{lacks_more}
use Rattle.just_text.proofs.split.white_or_not.Goals as goal

differs : (a b : Bool) → beq a b ≡ false → a ≡ not b
differs true true e = e
differs true false e = refl
differs false true e = refl
differs false false e = sym e

pub loop-at-init : goal.loop-at-init
loop-at-init c k low high = absurd (omega arith)

pub loop-at-preserved : goal.loop-at-preserved
loop-at-preserved c =
    let here = sym c.is_white.ensures ∙ differs _ _ c.if-is_white-white.false in
    lacks_more (λ k. is_whitespace (get_or c.args.bytes.now k 0) ≡ not c.args.white) _ _ c.loop-at.invariant here
