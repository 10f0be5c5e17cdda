use Rattle.wasm_ast.proofs.Deeper.{types_below}
use Rattle.wasm_ast.proofs.laws.same_types_below.Goals as goal

pub returns : goal.returns
returns c = types_below
