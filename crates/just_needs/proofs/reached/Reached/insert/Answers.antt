use Rattle.just_meaning.proofs.Names.{name_added}
use Rattle.just_needs.proofs.Members.{function_added, number_added, variable_added}
use Rattle.just_needs.proofs.reached.Reached.insert.Goals as goal

pub returns-in_ok-is_new-in-Function-clause-reached : goal.returns-in_ok-is_new-in-Function-clause-reached
returns-in_ok-is_new-in-Function-clause-reached c =
    rw (c.in-Function.is) (function_added c.args.self.now.functions c.insert.new.self c.args.self.now.variables c.in-Function.name
    (name_added c.args.self.now.functions c.insert.new.self c.in-Function.name c.in_ok-is_new-in-Function.ensures.updates.0))

pub returns-in_ok-is_new-in-Variable-clause-reached : goal.returns-in_ok-is_new-in-Variable-clause-reached
returns-in_ok-is_new-in-Variable-clause-reached c =
    rw (c.in-Variable.is) (variable_added c.args.self.now.variables c.insert-in-Variable.new.self c.args.self.now.functions c.in-Variable.number
    (number_added c.args.self.now.variables c.insert-in-Variable.new.self c.in-Variable.number c.in_ok-is_new-in-Variable.ensures.updates.0))
