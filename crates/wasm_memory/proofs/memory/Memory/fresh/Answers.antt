use Rattle.wasm_memory.proofs.Limits.{first_bytes_stand}
use Rattle.wasm_memory.proofs.memory.Memory.fresh.Goals as goal

pub invariant_of-result : goal.invariant_of-result
invariant_of-result c = first_bytes_stand c.args.module.now c.in_ok-bytes.bytes.items c.greatest_pages.result c.requires c.in_ok-bytes.ensures.len c.greatest_pages.ensures
