use Rattle.std.proofs.Common.{refl, ◌≡◌, [], Ok}
use Rattle.wasm_leb.specs.Leb.{leb}
use Rattle.wasm_code.specs.Examples.{endless, endless_bytes}
use Rattle.wasm_code.specs.Fields.{u32, val_type}
use Rattle.wasm_code.specs.Reading.{block_type, step, steps, locals, body}
use Rattle.wasm_code.proofs.BodiesBothWays.{body_reads}
use Rattle.wasm_code.proofs.laws.reads_an_endless_loop.Goals as goal

is_read : body 0 (record { rest = endless_bytes; at = 0 }) ≡ Ok (endless, record { rest = []; at = 7 })
unfolding leb u32 val_type block_type step steps locals body
is_read = refl

pub returns-clause-read : goal.returns-clause-read
returns-clause-read c = is_read

pub returns-clause-spelled : goal.returns-clause-spelled
returns-clause-spelled c = ((body_reads 0).sound (record { rest = endless_bytes; at = 0 }) (endless, record { rest = []; at = 7 }) is_read).spells
