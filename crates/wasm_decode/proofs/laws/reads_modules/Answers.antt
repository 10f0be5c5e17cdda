use Rattle.std.proofs.Common.{refl, ◌≡◌, Ok}
use Rattle.std.specs.Str.{is_utf8, chars}
use Rattle.std.specs.Char.{encode_utf8}
use Rattle.wasm_ast.specs.TestModules.{built, fill}
use Rattle.wasm_leb.specs.Leb.{leb}
use Rattle.wasm_code.specs.Fields.{u32, s32, raw, val_type, times, vector, range, sized, bytes, name}
use Rattle.wasm_code.specs.Reading.{block_type, step, steps, locals, body}
use Rattle.wasm_decode.specs.Parts.{func_type, limits, memory_type, table, global_type, import_kind, import, global, export, number, element, piece, pieces, bodies, code}
use Rattle.wasm_decode.specs.Sections.{after_id, customs, section, sections, module_of}
use Rattle.wasm_decode.specs.Examples.{built_bytes, fill_bytes}
use Rattle.wasm_decode.proofs.ModulesBothWays.{module_sound}
use Rattle.wasm_decode.proofs.laws.reads_modules.Goals as goal

pub returns-clause-endless : goal.returns-clause-endless
unfolding is_utf8 chars encode_utf8 leb u32 s32 raw val_type times vector range sized bytes name block_type step steps locals body func_type limits memory_type table global_type import_kind import global export number element piece pieces bodies code after_id customs section sections
returns-clause-endless c = refl

pub returns-clause-with_float : goal.returns-clause-with_float
unfolding is_utf8 chars encode_utf8 leb u32 s32 raw val_type times vector range sized bytes name block_type step steps locals body func_type limits memory_type table global_type import_kind import global export number element piece pieces bodies code after_id customs section sections
returns-clause-with_float c = refl

pub returns-clause-replies : goal.returns-clause-replies
unfolding is_utf8 chars encode_utf8 leb u32 s32 raw val_type times vector range sized bytes name block_type step steps locals body func_type limits memory_type table global_type import_kind import global export number element piece pieces bodies code after_id customs section sections
returns-clause-replies c = refl

is_read : module_of built_bytes ≡ Ok built
unfolding is_utf8 chars encode_utf8 leb u32 s32 raw val_type times vector range sized bytes name block_type step steps locals body func_type limits memory_type table global_type import_kind import global export number element piece pieces bodies code after_id customs section sections
is_read = refl

pub returns-clause-longer : goal.returns-clause-longer
returns-clause-longer c = is_read

pub returns-clause-spelled : goal.returns-clause-spelled
returns-clause-spelled c = module_sound built_bytes built is_read

is_filled : module_of fill_bytes ≡ Ok fill
unfolding is_utf8 chars encode_utf8 leb u32 s32 raw val_type times vector range sized bytes name block_type step steps locals body func_type limits memory_type table global_type import_kind import global export number element piece pieces bodies code after_id customs section sections
is_filled = refl

pub returns-clause-fills : goal.returns-clause-fills
returns-clause-fills c = is_filled

pub returns-clause-filled : goal.returns-clause-filled
returns-clause-filled c = module_sound fill_bytes fill is_filled
