use Rattle.wasm_code.specs.Grammar.{Expr, IsBody}
use Rattle.wasm_code.specs.Reading.{expr, body}
use Rattle.wasm_code.proofs.Extents.{agree}
use Rattle.wasm_code.proofs.BodyExtents.{expr_goes, body_goes}
use Rattle.wasm_code.proofs.BodiesBothWays.{expr_reads, body_reads}
use Rattle.wasm_code.proofs.laws.reads_what_is_spelled.Goals as goal

pub returns-clause-expressions : goal.returns-clause-expressions
returns-clause-expressions c = agree Expr expr expr_reads expr_goes

pub returns-clause-bodies : goal.returns-clause-bodies
returns-clause-bodies c = λ f. agree IsBody (body f) (body_reads f) (body_goes f)
