use Rattle.wasm_memory.proofs.Bytes.{four}
use Rattle.wasm_memory.proofs.access.store4.Goals as goal

pub returns : goal.returns
returns c = four c.args.m.now c.args.at _ _ _ _ c.requires.inside
