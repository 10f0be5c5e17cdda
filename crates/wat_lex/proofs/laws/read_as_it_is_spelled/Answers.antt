use Rattle.wat_lex.proofs.Sentenced.{tokens_are_read}
use Rattle.wat_lex.proofs.Faulty.{fault_is_read}
use Rattle.wat_lex.proofs.Found.{read_tokens, read_fault}
use Rattle.wat_lex.proofs.laws.read_as_it_is_spelled.Goals as goal

pub returns-clause-tokens : goal.returns-clause-tokens
returns-clause-tokens c = tokens_are_read

pub returns-clause-fault : goal.returns-clause-fault
returns-clause-fault c = fault_is_read

pub returns-clause-has_tokens : goal.returns-clause-has_tokens
returns-clause-has_tokens c = read_tokens

pub returns-clause-has_fault : goal.returns-clause-has_fault
returns-clause-has_fault c = read_fault
