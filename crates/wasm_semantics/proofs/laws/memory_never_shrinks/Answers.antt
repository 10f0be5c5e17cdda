use Rattle.wasm_semantics.proofs.MemoryLengths.{unit_keeps, units_keep}
use Rattle.wasm_semantics.proofs.laws.memory_never_shrinks.Goals as goal

pub returns-clause-unit : goal.returns-clause-unit
returns-clause-unit c = unit_keeps

pub returns-clause-units : goal.returns-clause-units
returns-clause-units c = units_keep
