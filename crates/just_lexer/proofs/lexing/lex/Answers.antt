use Rattle.just_lexer.proofs.Outcomes.{if_fault_placed, if_placed, if_whole}
use Rattle.just_lexer.proofs.lexing.lex.Goals as goal

pub returns-clause-whole : goal.returns-clause-whole
returns-clause-whole c = if_whole _ c.args.path.now c.args.source.now c.all_tokens.result c.utf8.source c.all_tokens.ensures.exact

pub returns-clause-places : goal.returns-clause-places
returns-clause-places c = if_placed _ c.args.path.now c.args.source.now c.all_tokens.result c.all_tokens.ensures.exact

pub returns-clause-fault_place : goal.returns-clause-fault_place
returns-clause-fault_place c = if_fault_placed c.args.path.now c.args.source.now c.all_tokens.result c.all_tokens.ensures.fault
