use Rattle.std.proofs.Common.{true, refl}
use Rattle.just_syntax.proofs.Styled.{styled_four}
use Rattle.just_resolve.proofs.resolve_error.write_ring.Goals as goal

pub returns : goal.returns
returns g c = λ flush ok.
    let took = g.W.Write.write_str_gives in
    let first = c.in_ok-write_unstyled.ensures.styled flush (refl {a = true}) in
    let second = c.in_ok-write_str.ensures.styled first.flush (refl {a = true}) in
    let third = c.in_ok-write_arrows.ensures second.flush (refl {a = true}) in
    let last = c.write_unstyled-2.ensures.styled third.flush ok in
    styled_four took _ _ _ _ _ _ _ _ _ _ first second third last refl
