use Rattle.wasm_memory.proofs.Bytes.{eight}
use Rattle.wasm_memory.proofs.access.store8.Goals as goal

pub returns : goal.returns
returns c = eight c.args.m.now c.args.at _ _ _ _ _ _ _ _ c.requires.inside
