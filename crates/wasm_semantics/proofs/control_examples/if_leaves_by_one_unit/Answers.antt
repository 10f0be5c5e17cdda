use Rattle.wasm_semantics.proofs.Cases.{chooses_first, chooses_second, falls_off}
use Rattle.wasm_semantics.proofs.control_examples.if_leaves_by_one_unit.Goals as goal

pub returns-clause-first : goal.returns-clause-first
returns-clause-first c = chooses_first

pub returns-clause-second : goal.returns-clause-second
returns-clause-second c = chooses_second

pub returns-clause-end : goal.returns-clause-end
returns-clause-end c = falls_off
