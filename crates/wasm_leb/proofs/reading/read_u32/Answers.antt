use Rattle.std.proofs.Common.{false}
use Rattle.wasm_leb.specs.Leb.{ends_u32}
use Rattle.wasm_leb.proofs.Faults.{faults, ok_faults, err_faults, u32_is}
use Rattle.wasm_leb.proofs.reading.read_u32.Goals as goal

pub returns-in-Ok-clause-short : goal.returns-in-Ok-clause-short
returns-in-Ok-clause-short c =
    (ok_faults ends_u32 4 _ _ _ _ c.in-Ok.ensures.exact (faults false 4294967295 4 ends_u32 c.args.bytes.now u32_is)).short

pub returns-in-Ok-clause-long : goal.returns-in-Ok-clause-long
returns-in-Ok-clause-long c =
    (ok_faults ends_u32 4 _ _ _ _ c.in-Ok.ensures.exact (faults false 4294967295 4 ends_u32 c.args.bytes.now u32_is)).long

pub returns-in-Err-clause-short : goal.returns-in-Err-clause-short
returns-in-Err-clause-short c =
    (err_faults ends_u32 4 _ _ _ c.in-Err.ensures.exact (faults false 4294967295 4 ends_u32 c.args.bytes.now u32_is)).short

pub returns-in-Err-clause-long : goal.returns-in-Err-clause-long
returns-in-Err-clause-long c =
    (err_faults ends_u32 4 _ _ _ c.in-Err.ensures.exact (faults false 4294967295 4 ends_u32 c.args.bytes.now u32_is)).long
