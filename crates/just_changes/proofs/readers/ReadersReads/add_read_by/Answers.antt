use Rattle.just_changes.proofs.Lists.{are_all}
use Rattle.just_changes.proofs.readers.ReadersReads.add_read_by.Goals as goal

pub returns-in-Function-clause-all : goal.returns-in-Function-clause-all
returns-in-Function-clause-all c = are_all c.args.self.now

pub returns-in-Variable-clause-all : goal.returns-in-Variable-clause-all
returns-in-Variable-clause-all c = are_all c.args.self.now
