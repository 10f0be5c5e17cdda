use Rattle.wasm_validate.proofs.Entry.{always_there}
use Rattle.wasm_validate.proofs.modules.ValidModule.handle.Goals as goal

pub unreachable-requires : goal.unreachable-requires
unreachable-requires c = always_there c.self.inside.module c.self.invariant c.in-None.ensures
