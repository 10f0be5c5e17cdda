use Rattle.wat_lex.proofs.Found.{tokens_or_fault}
use Rattle.wat_lex.proofs.laws.has_tokens_or_a_fault.Goals as goal

pub returns : goal.returns
returns c = tokens_or_fault
