use Rattle.wasm_semantics.proofs.ControlCases.{by_first, by_last}
use Rattle.wasm_semantics.proofs.control_examples.branch_by_table.Goals as goal

pub returns-clause-first : goal.returns-clause-first
returns-clause-first c = by_first

pub returns-clause-past : goal.returns-clause-past
returns-clause-past c = by_last
