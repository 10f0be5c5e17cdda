-- What the bytes of the modules are read as.
use Rattle.std.proofs.Common.{◌≡◌, Ok, refl}
use Rattle.std.specs.Str.{is_utf8, chars}
use Rattle.std.specs.Char.{encode_utf8}
use Rattle.wasm_ast.specs.TestModules.{echo, lift, look, spin, store, twin}
use Rattle.wasm_leb.specs.Leb.{leb}
use Rattle.wasm_code.specs.Fields.{u32, s32, raw, val_type, times, vector, range, sized, bytes, name}
use Rattle.wasm_code.specs.Reading.{block_type, step, steps, locals, body}
use Rattle.wasm_decode.specs.Grammar.{Spells}
use Rattle.wasm_decode.specs.Parts.{func_type, limits, memory_type, table, global_type, import_kind, import, global, export, number, element, piece, pieces, bodies, code}
use Rattle.wasm_decode.specs.Sections.{after_id, customs, section, sections, module_of}
use Rattle.wasm_decode.proofs.ModulesBothWays.{module_sound}
use Rattle.trapeze_exercise.specs.declared.bytes.TheConstants.{ECHO, LIFT, LOOK, SPIN, STORE, TWIN}

echo_read : module_of ECHO.now ≡ Ok echo
unfolding is_utf8 chars encode_utf8 leb u32 s32 raw val_type times vector range sized bytes name block_type step steps locals body func_type limits memory_type table global_type import_kind import global export number element piece pieces bodies code after_id customs section sections
echo_read = refl

pub echo_spelled : Spells echo ECHO.now
echo_spelled = module_sound ECHO.now echo echo_read

lift_read : module_of LIFT.now ≡ Ok lift
unfolding is_utf8 chars encode_utf8 leb u32 s32 raw val_type times vector range sized bytes name block_type step steps locals body func_type limits memory_type table global_type import_kind import global export number element piece pieces bodies code after_id customs section sections
lift_read = refl

pub lift_spelled : Spells lift LIFT.now
lift_spelled = module_sound LIFT.now lift lift_read

look_read : module_of LOOK.now ≡ Ok look
unfolding is_utf8 chars encode_utf8 leb u32 s32 raw val_type times vector range sized bytes name block_type step steps locals body func_type limits memory_type table global_type import_kind import global export number element piece pieces bodies code after_id customs section sections
look_read = refl

pub look_spelled : Spells look LOOK.now
look_spelled = module_sound LOOK.now look look_read

spin_read : module_of SPIN.now ≡ Ok spin
unfolding is_utf8 chars encode_utf8 leb u32 s32 raw val_type times vector range sized bytes name block_type step steps locals body func_type limits memory_type table global_type import_kind import global export number element piece pieces bodies code after_id customs section sections
spin_read = refl

pub spin_spelled : Spells spin SPIN.now
spin_spelled = module_sound SPIN.now spin spin_read

store_read : module_of STORE.now ≡ Ok store
unfolding is_utf8 chars encode_utf8 leb u32 s32 raw val_type times vector range sized bytes name block_type step steps locals body func_type limits memory_type table global_type import_kind import global export number element piece pieces bodies code after_id customs section sections
store_read = refl

pub store_spelled : Spells store STORE.now
store_spelled = module_sound STORE.now store store_read

twin_read : module_of TWIN.now ≡ Ok twin
unfolding is_utf8 chars encode_utf8 leb u32 s32 raw val_type times vector range sized bytes name block_type step steps locals body func_type limits memory_type table global_type import_kind import global export number element piece pieces bodies code after_id customs section sections
twin_read = refl

pub twin_spelled : Spells twin TWIN.now
twin_spelled = module_sound TWIN.now twin twin_read
