use Rattle.just_lexer.specs.View.{lexer_view}
use Rattle.just_lexer.proofs.FitsLine.{next_fits}
use Rattle.just_lexer.proofs.lexer.Lexer.next.Goals as goal

pub returns-clause-fits : goal.returns-clause-fits
returns-clause-fits c =
    let fits = next_fits (lexer_view c.args.self.now) c.as_bytes.result.now c.as_bytes.ensures.utf8 in
    rw (c.step.ensures, c.as_bytes.ensures.value) (rw c.as_bytes.ensures.value at fits)
