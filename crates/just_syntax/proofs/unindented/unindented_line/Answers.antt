use Rattle.std.proofs.Common.{rules}
use Rattle.just_syntax.proofs.Unindenting.{cut_boundary}
use Rattle.just_syntax.proofs.unindented.unindented_line.Goals as goal

pub range_from-requires : goal.range_from-requires
range_from-requires c = λ _. cut_boundary c.args.line.now c.args.width c.utf8.line (c.requires (search rules))
