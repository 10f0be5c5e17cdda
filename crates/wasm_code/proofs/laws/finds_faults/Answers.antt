use Rattle.std.proofs.Common.{refl}
use Rattle.wasm_leb.specs.Leb.{leb}
use Rattle.wasm_code.specs.Fields.{u32, val_type}
use Rattle.wasm_code.specs.Reading.{block_type, step, steps, locals, body}
use Rattle.wasm_code.proofs.laws.finds_faults.Goals as goal

pub returns-clause-deep : goal.returns-clause-deep
unfolding leb u32 val_type block_type step steps locals body
returns-clause-deep c = refl

pub returns-clause-not_deep : goal.returns-clause-not_deep
unfolding leb u32 val_type block_type step steps locals body
returns-clause-not_deep c = refl

pub returns-clause-many : goal.returns-clause-many
unfolding leb u32 val_type block_type step steps locals body
returns-clause-many c = refl

pub returns-clause-no_if : goal.returns-clause-no_if
unfolding leb u32 val_type block_type step steps locals body
returns-clause-no_if c = refl

pub returns-clause-twice : goal.returns-clause-twice
unfolding leb u32 val_type block_type step steps locals body
returns-clause-twice c = refl

pub returns-clause-long : goal.returns-clause-long
unfolding leb u32 val_type block_type step steps locals body
returns-clause-long c = refl

pub returns-clause-type_ : goal.returns-clause-type_
unfolding leb u32 val_type block_type step steps locals body
returns-clause-type_ c = refl

pub returns-clause-opcode : goal.returns-clause-opcode
unfolding leb u32 val_type block_type step steps locals body
returns-clause-opcode c = refl
