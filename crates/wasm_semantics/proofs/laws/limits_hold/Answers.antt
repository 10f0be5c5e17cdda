use Rattle.wasm_semantics.proofs.Limits.{unit_within, units_within}
use Rattle.wasm_semantics.proofs.laws.limits_hold.Goals as goal

pub returns-clause-unit : goal.returns-clause-unit
returns-clause-unit c = unit_within

pub returns-clause-units : goal.returns-clause-units
returns-clause-units c = units_within
