use Rattle.std.proofs.Common.{arith}
use Rattle.std.proofs.lemmas.List.{length-reverse}
use Rattle.wasm_stack.proofs.Lists.{reverse_take}
use Rattle.wasm_stack.proofs.stack.Stack.truncate.Goals as goal

pub returns : goal.returns
returns g c = grind (arith, reverse_take, length-reverse)
