use Rattle.wat_lex.proofs.Found.{one_list, one_fault, not_both}
use Rattle.wat_lex.proofs.laws.at_most_one_list.Goals as goal

pub returns-clause-tokens : goal.returns-clause-tokens
returns-clause-tokens c = one_list

pub returns-clause-fault : goal.returns-clause-fault
returns-clause-fault c = one_fault

pub returns-clause-never_both : goal.returns-clause-never_both
returns-clause-never_both c = not_both
