use Rattle.wat_lex.proofs.Told as told
use Rattle.wat_lex.proofs.lexer.tokens.Goals as goal

pub returns-clause-found : goal.returns-clause-found
returns-clause-found c = told.found c.args.text.now c.lex.result c.lex.ensures

pub returns-clause-slices : goal.returns-clause-slices
returns-clause-slices c = told.slices c.args.text.now c.lex.result c.lex.ensures

pub returns-clause-only : goal.returns-clause-only
returns-clause-only c = told.only c.args.text.now c.lex.result c.lex.ensures

pub returns-clause-fault : goal.returns-clause-fault
returns-clause-fault c = told.fault c.args.text.now c.lex.result c.lex.ensures

pub returns-clause-first : goal.returns-clause-first
returns-clause-first c = told.first c.args.text.now c.lex.result c.lex.ensures
