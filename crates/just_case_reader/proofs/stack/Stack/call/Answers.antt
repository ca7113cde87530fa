use Rattle.just_case_reader.proofs.stack.Stack.call.Goals as goal

pub returns : goal.returns
returns c = λ names. rw (c.in_ok-arguments.ensures.ok) (rw (c.call.ensures, c.name.ensures) at c.push.ensures)
