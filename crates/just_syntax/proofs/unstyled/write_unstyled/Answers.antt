use Rattle.std.proofs.Common.{rules}
use Rattle.just_syntax.proofs.Styled.{displays_plain, displays_unstyled}
use Rattle.just_syntax.proofs.unstyled.write_unstyled.Goals as goal

pub returns-clause-styled : goal.returns-clause-styled
returns-clause-styled g c = displays_unstyled g.W.Write.write_str_gives _ c.write-result.new.self _ _ _ (λ same. search rules) c.write-result.ensures.writes

pub returns-clause-writes : goal.returns-clause-writes
returns-clause-writes g c =
    displays_plain g.W.Write.write_str_gives _ _ _ _ (displays_unstyled g.W.Write.write_str_gives _ c.write-result.new.self _ _ _ (λ same. search rules)
    c.write-result.ensures.writes)
