use Rattle.just_case_reader.proofs.Lines.{line_of-text, line_of-no_text}
use Rattle.just_case_reader.proofs.line.parse_line.Goals as goal

pub returns-in-Ok : goal.returns-in-Ok
returns-in-Ok c =
    let e = line_of-text c.args.bytes.now c.in-Ok.text.now c.in-Ok.ensures.cases.0 c.in-Ok.ensures.cases.1 in
    rw e at c.parse_text.ensures

pub returns-in-Err : goal.returns-in-Err
returns-in-Err c = line_of-no_text c.args.bytes.now c.in-Err.ensures.cases.0
