use Rattle.std.proofs.Common.{◌≡◌, ◌∙◌, ◌+◌, ◌<◌, length, sym, ap, arith, rules}
use Rattle.just_case_reader.specs.Prelude.{BadLine, case_line_view, reading_view}
use Rattle.just_case_reader.proofs.Described.{fewer_after, line_bad, line_done}
use Rattle.just_case_reader.proofs.case.take_text.Goals as goal

pub returns-in-Err-Bad-clause-bad : goal.returns-in-Err-Bad-clause-bad
returns-in-Err-Bad-clause-bad c = λ place same.
    let l = c.loop-rest in
    let some : 0 < length l.rest.now = search rules in
    let said = rw c.split_line.ensures.line at c.in-Ok.ensures in
    sym l.invariant.so_far
    ∙ line_bad (l.count + 1) (reading_view l.builder) l.rest.now some (case_line_view c.in-Ok.line) said (rw c.in-Err-Bad.field-0-is at c.in-Err-Bad.ensures)
    ∙ cc

pub loop-rest-preserved : goal.loop-rest-preserved
loop-rest-preserved c =
    let l = c.loop-rest in
    let some : 0 < length l.rest.now = search rules in
    let said = rw c.split_line.ensures.line at c.in-Ok.ensures in
    let next = line_done (l.count + 1) (reading_view l.builder) l.rest.now some (case_line_view c.in-Ok.line) said (reading_view c.take.new.self)
    c.in-Ok-take.ensures in
    record {
      so_far = rw c.split_line.ensures.rest (sym next ∙ l.invariant.so_far);
      bound = rw c.split_line.ensures.rest (omega (arith, l.invariant.bound, fewer_after l.rest.now some));
    }
