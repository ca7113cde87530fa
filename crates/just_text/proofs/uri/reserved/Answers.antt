-- Each removed byte is added to the marks.
use Rattle.std.proofs.Common.{false, eqb, ◌||◌}
use Rattle.just_text.proofs.Escapes.{at_first, removed}
use Rattle.just_text.proofs.uri.reserved.Goals as goal

pub returns : goal.returns
returns c =
    let s1 = removed _ c.remove.result (λ b. false) 45 c.remove.ensures.removed c.remove.ensures.others at_first in
    let s2 = removed _ c.remove-2.result (λ b. eqb b 45) 95 c.remove-2.ensures.removed c.remove-2.ensures.others s1 in
    let s3 = removed _ c.remove-3.result (λ b. eqb b 45 || eqb b 95) 46 c.remove-3.ensures.removed c.remove-3.ensures.others s2 in
    let s4 = removed _ c.remove-4.result (λ b. eqb b 45 || eqb b 95 || eqb b 46) 33 c.remove-4.ensures.removed c.remove-4.ensures.others s3 in
    let s5 = removed _ c.remove-5.result (λ b. eqb b 45 || eqb b 95 || eqb b 46 || eqb b 33) 126 c.remove-5.ensures.removed c.remove-5.ensures.others s4 in
    let s6 = removed _ c.remove-6.result (λ b. eqb b 45 || eqb b 95 || eqb b 46 || eqb b 33 || eqb b 126) 42 c.remove-6.ensures.removed
    c.remove-6.ensures.others s5 in
    let s7 = removed _ c.remove-7.result (λ b. eqb b 45 || eqb b 95 || eqb b 46 || eqb b 33 || eqb b 126 || eqb b 42) 39 c.remove-7.ensures.removed
    c.remove-7.ensures.others s6 in
    let s8 = removed _ c.remove-8.result (λ b. eqb b 45 || eqb b 95 || eqb b 46 || eqb b 33 || eqb b 126 || eqb b 42 || eqb b 39) 40 c.remove-8.ensures.removed
    c.remove-8.ensures.others s7 in
    let s9 = removed _ c.remove-9.result (λ b. eqb b 45 || eqb b 95 || eqb b 46 || eqb b 33 || eqb b 126 || eqb b 42 || eqb b 39 || eqb b 40) 41
    c.remove-9.ensures.removed c.remove-9.ensures.others s8 in
    s9
