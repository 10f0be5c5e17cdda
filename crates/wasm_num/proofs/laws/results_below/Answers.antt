use Rattle.wasm_num.proofs.Bounds.{unary_below, binary_below, convert_below}
use Rattle.wasm_num.proofs.laws.results_below.Goals as goal

pub returns-clause-unary : goal.returns-clause-unary
returns-clause-unary c op w a p = unary_below op w a p

pub returns-clause-binary : goal.returns-clause-binary
returns-clause-binary c op w a b l p q = binary_below op w a b l p q

pub returns-clause-convert : goal.returns-clause-convert
returns-clause-convert c op a p = convert_below op a p
