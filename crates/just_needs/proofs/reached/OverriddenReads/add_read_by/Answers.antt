use Rattle.just_needs.proofs.Graphs.{are_all_in}
use Rattle.just_needs.proofs.reached.OverriddenReads.add_read_by.Goals as goal

pub returns-then-contains_key-clause-all : goal.returns-then-contains_key-clause-all
returns-then-contains_key-clause-all c = are_all_in c.args.self.now.overrides.now c.args.self.now.graph.now

pub returns-clause-all : goal.returns-clause-all
returns-clause-all c = are_all_in c.args.self.now.overrides.now c.args.self.now.graph.now
