use Rattle.just_value.proofs.error.display.ErrorDisplay.fmt.Goals as goal

pub returns-in-LeftOut-clause-styled : goal.returns-in-LeftOut-clause-styled
returns-in-LeftOut-clause-styled g c = rw c.in-LeftOut.is c.write_unstyled-in-LeftOut.ensures.styled

pub returns-in-LeftOut-clause-writes : goal.returns-in-LeftOut-clause-writes
returns-in-LeftOut-clause-writes g c = rw c.in-LeftOut.is c.write_unstyled-in-LeftOut.ensures.writes

pub returns-in-EmptyListArgument-clause-styled : goal.returns-in-EmptyListArgument-clause-styled
returns-in-EmptyListArgument-clause-styled g c = rw c.in-EmptyListArgument.is c.write_unstyled-in-EmptyListArgument.ensures.styled

pub returns-in-EmptyListArgument-clause-writes : goal.returns-in-EmptyListArgument-clause-writes
returns-in-EmptyListArgument-clause-writes g c = rw c.in-EmptyListArgument.is c.write_unstyled-in-EmptyListArgument.ensures.writes
