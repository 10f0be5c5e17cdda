use Rattle.wasm_ast.proofs.Worked.{targets_same, targets_differ}
use Rattle.wasm_ast.proofs.examples.targets_take_the_same.Goals as goal

pub returns-clause-same : goal.returns-clause-same
returns-clause-same c = targets_same

pub returns-clause-differ : goal.returns-clause-differ
returns-clause-differ c = targets_differ
