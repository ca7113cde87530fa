use Rattle.std.proofs.Common.{Some, None, lit<, add-one, rules}
use Rattle.std.proofs.lemmas.Str.Pattern.{find_char}
use Rattle.just_syntax.proofs.Unindenting.{lines_cut, lines_whole}
use Rattle.just_syntax.proofs.unindented.split_first_line.Goals as goal

pub returns-in-Some-clause-cut : goal.returns-in-Some-clause-cut
returns-in-Some-clause-cut c =
    let found = find_char 10 c.args.text.now (Some c.in-Some.end) c.in-Some.ensures.cases (lit< tt) in
    let cut = lines_cut c.args.text.now c.in-Some.end found.0 found.1 found.2 in
    rw (c.split_at.ensures.front, c.split_at.ensures.back, add-one) cut

pub returns-in-None-clause-cut : goal.returns-in-None-clause-cut
returns-in-None-clause-cut c =
    lines_whole c.args.text.now (search rules) (find_char 10 c.args.text.now None c.in-None.ensures.cases (lit< tt))
