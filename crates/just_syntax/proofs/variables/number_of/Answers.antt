use Rattle.std.proofs.Common.{Some, None}
use Rattle.just_syntax.proofs.Names.{named}
use Rattle.just_syntax.proofs.variables.number_of.Goals as goal

pub returns-in-Some : goal.returns-in-Some
returns-in-Some c = named c.args.name.now c.args.assignments.now (Some c.in-Some.assignment) c.in-Some.ensures

pub returns-in-None : goal.returns-in-None
returns-in-None c = named c.args.name.now c.args.assignments.now None c.in-None.ensures
