use Rattle.std.proofs.Common.{◌↔◌, map, length}
use Rattle.just_resolution.specs.Prelude.{IsAdmitted, IsSameReader, MayAllOccur, expressions_view, function_view, is_name_in, is_readable}
use Rattle.just_resolution.proofs.here.Reader.may_all_occur.Given as goal

-- all may occur exactly if the remaining ones may
abbrev pub invariant-loop-expression : goal.invariant-loop-expression
invariant-loop-expression l =
    let functions = map function_view l.fn.self.functions.now in
    let here = is_readable l.fn.self.here in
    let bodies = is_readable l.fn.self.bodies in
    record {
      same : IsSameReader l.fn.self l.self;
      closed : IsAdmitted functions bodies (is_name_in l.self.admitted);
      decides : MayAllOccur functions here bodies (expressions_view l.left.items) ↔ MayAllOccur functions here bodies (expressions_view l.fn.expressions.items);
    }

abbrev pub decreases-loop-expression : goal.decreases-loop-expression
decreases-loop-expression l = length l.left.items
