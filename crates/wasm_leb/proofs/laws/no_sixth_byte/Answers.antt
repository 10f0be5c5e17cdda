use Rattle.std.proofs.Common.{true, false}
use Rattle.wasm_leb.specs.Leb.{ends_u32, ends_s32, ends_s64}
use Rattle.wasm_leb.proofs.Faults.{within, u32_is, s32_is, s64_is}
use Rattle.wasm_leb.proofs.laws.no_sixth_byte.Goals as goal

pub returns-clause-u32 : goal.returns-clause-u32
returns-clause-u32 c n bytes spelled = within false 4294967295 4 ends_u32 n bytes u32_is spelled

pub returns-clause-s32 : goal.returns-clause-s32
returns-clause-s32 c n bytes spelled = within true 4294967295 4 ends_s32 n bytes s32_is spelled

pub returns-clause-s64 : goal.returns-clause-s64
returns-clause-s64 c n bytes spelled = within true 18446744073709551615 9 ends_s64 n bytes s64_is spelled
