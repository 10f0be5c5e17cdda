-- Slices of code that are found again.
use Rattle.std.proofs.Common.{Bor}
use Rattle.std.specs.Prelude.{◌≡◌, List, ◌++◌, map}
use Rattle.wasm_ast.specs.declared.trees.Instr.{Instr}
use Rattle.wasm_blocks.specs.declared.open.Open.{Open}
use Rattle.wasm_blocks.specs.Rest.{nexts_in}

-- on top of the slices that were there lie those that branches to these blocks of a body go on with
pub record HasLaid (body : List Instr) (own : List Open) (old new : List (Bor (List Instr))) : Type 0 where
  pub fresh : List (Bor (List Instr))
  pub over : new ≡ fresh ++ old
  pub are : map (λ s. s.now) fresh ≡ nexts_in body own
