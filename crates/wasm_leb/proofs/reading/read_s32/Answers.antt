use Rattle.std.proofs.Common.{true}
use Rattle.wasm_leb.specs.Leb.{ends_s32}
use Rattle.wasm_leb.proofs.Faults.{faults, ok_faults, err_faults, s32_is}
use Rattle.wasm_leb.proofs.reading.read_s32.Goals as goal

pub returns-in-Ok-clause-short : goal.returns-in-Ok-clause-short
returns-in-Ok-clause-short c =
    (ok_faults ends_s32 4 _ _ _ _ c.in-Ok.ensures.exact (faults true 4294967295 4 ends_s32 c.args.bytes.now s32_is)).short

pub returns-in-Ok-clause-long : goal.returns-in-Ok-clause-long
returns-in-Ok-clause-long c =
    (ok_faults ends_s32 4 _ _ _ _ c.in-Ok.ensures.exact (faults true 4294967295 4 ends_s32 c.args.bytes.now s32_is)).long

pub returns-in-Err-clause-short : goal.returns-in-Err-clause-short
returns-in-Err-clause-short c =
    (err_faults ends_s32 4 _ _ _ c.in-Err.ensures.exact (faults true 4294967295 4 ends_s32 c.args.bytes.now s32_is)).short

pub returns-in-Err-clause-long : goal.returns-in-Err-clause-long
returns-in-Err-clause-long c =
    (err_faults ends_s32 4 _ _ _ c.in-Err.ensures.exact (faults true 4294967295 4 ends_s32 c.args.bytes.now s32_is)).long
