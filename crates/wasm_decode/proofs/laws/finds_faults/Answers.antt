use Rattle.std.proofs.Common.{refl}
use Rattle.std.specs.Str.{is_utf8, chars}
use Rattle.std.specs.Char.{encode_utf8}
use Rattle.wasm_leb.specs.Leb.{leb}
use Rattle.wasm_code.specs.Fields.{u32, s32, raw, val_type, times, vector, range, sized, bytes, name}
use Rattle.wasm_code.specs.Reading.{block_type, step, steps, locals, body}
use Rattle.wasm_decode.specs.Parts.{func_type, limits, memory_type, table, global_type, import_kind, import, global, export, number, element, piece, pieces, bodies, code}
use Rattle.wasm_decode.specs.Sections.{after_id, customs, section, sections}
use Rattle.wasm_decode.proofs.laws.finds_faults.Goals as goal

pub returns-clause-five : goal.returns-clause-five
unfolding is_utf8 chars encode_utf8 leb u32 s32 raw val_type times vector range sized bytes name block_type step steps locals body func_type limits memory_type table global_type import_kind import global export number element piece pieces bodies code after_id customs section sections
returns-clause-five c = refl

pub returns-clause-six : goal.returns-clause-six
unfolding is_utf8 chars encode_utf8 leb u32 s32 raw val_type times vector range sized bytes name block_type step steps locals body func_type limits memory_type table global_type import_kind import global export number element piece pieces bodies code after_id customs section sections
returns-clause-six c = refl

pub returns-clause-cut : goal.returns-clause-cut
unfolding is_utf8 chars encode_utf8 leb u32 s32 raw val_type times vector range sized bytes name block_type step steps locals body func_type limits memory_type table global_type import_kind import global export number element piece pieces bodies code after_id customs section sections
returns-clause-cut c = refl
