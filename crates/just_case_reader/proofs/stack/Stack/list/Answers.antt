use Rattle.just_case_reader.proofs.stack.Stack.list.Goals as goal

pub returns : goal.returns
returns c = λ names. rw (c.in_ok-elements.ensures.ok) (rw (c.list.ensures, c.token.ensures) at c.push.ensures)
