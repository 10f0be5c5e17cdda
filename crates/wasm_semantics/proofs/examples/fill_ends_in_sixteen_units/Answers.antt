use Rattle.wasm_ast.proofs.Worked.{fill_valid}
use Rattle.wasm_semantics.proofs.Fill.{fill_fifteen, fill_last}
use Rattle.wasm_semantics.proofs.examples.fill_ends_in_sixteen_units.Goals as goal

pub returns-clause-valid : goal.returns-clause-valid
returns-clause-valid c = fill_valid

pub returns-clause-fifteen : goal.returns-clause-fifteen
returns-clause-fifteen c = fill_fifteen

pub returns-clause-last : goal.returns-clause-last
returns-clause-last c = fill_last
