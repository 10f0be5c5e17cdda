-- The first test that each of the refused modules fails.
use Rattle.std.proofs.Common.{◌≡◌, ℕ, true, false, refl, ap, ◌∙◌}
use Rattle.wasm_ast.specs.declared.places.FloatPlace.TheVariants as float_at
use Rattle.wasm_ast.specs.declared.places.SegmentPlace.TheVariants as segment
use Rattle.wasm_ast.specs.declared.trees.Instr.TheVariants as V
use Rattle.wasm_ast.specs.Trees.{layer_i32_const, layer_f32_const}
use Rattle.wasm_ast.specs.Floats.{is_float_instr}
use Rattle.wasm_ast.proofs.Floats.{is_float_layer, is_float_by_layer}
use Rattle.wasm_ast.specs.Spaces.{type_of, import_of}
use Rattle.wasm_ast.specs.Hosts.{host_named}
use Rattle.wasm_ast.specs.Faults as fault
use Rattle.wasm_ast.specs.Validity.{Invalidity, early_fault, handle_of}
use Rattle.wasm_ast.specs.TestModules.{float}
use Rattle.wasm_ast.specs.Refusals.{other_import, unknown_import, two_results, type_past, two_tables, table_over_maximum, table_too_large, two_memories, memory_over_maximum, memory_too_large, global_without_value, global_of_other_type, export_past, same_names, start_past, start_with_params, element_without_table, element_of_no_function, data_without_memory, data_without_offset, handle_with_params, element_past, data_past}

pub const_no_float : (n : ℕ) → is_float_instr (V.I32Const n) ≡ false
const_no_float n = is_float_by_layer (V.I32Const n) ∙ ap is_float_layer (layer_i32_const n)

f32_float : (n : ℕ) → is_float_instr (V.F32Const n) ≡ true
f32_float n = is_float_by_layer (V.F32Const n) ∙ ap is_float_layer (layer_f32_const n)

pub float_refused : Invalidity float (fault.Float (float_at.Bodies 0))
unfolding early_fault
float_refused = rw (f32_float 0) refl

pub other_import_refused : Invalidity other_import (fault.Import 0)
unfolding early_fault host_named
other_import_refused = refl

pub unknown_import_refused : Invalidity unknown_import (fault.Import 1)
unfolding early_fault host_named
unknown_import_refused = refl

pub two_results_refused : Invalidity two_results (fault.Structure 1)
unfolding early_fault
two_results_refused = refl

pub type_past_refused : Invalidity type_past (fault.Structure 2)
unfolding early_fault
type_past_refused = refl

pub two_tables_refused : Invalidity two_tables (fault.Structure 3)
unfolding early_fault
two_tables_refused = refl

pub table_over_maximum_refused : Invalidity table_over_maximum (fault.Structure 3)
unfolding early_fault
table_over_maximum_refused = refl

pub table_too_large_refused : Invalidity table_too_large (fault.Structure 3)
unfolding early_fault
table_too_large_refused = refl

pub two_memories_refused : Invalidity two_memories (fault.Structure 4)
unfolding early_fault
two_memories_refused = refl

pub memory_over_maximum_refused : Invalidity memory_over_maximum (fault.Structure 4)
unfolding early_fault
memory_over_maximum_refused = refl

pub memory_too_large_refused : Invalidity memory_too_large (fault.Structure 4)
unfolding early_fault
memory_too_large_refused = refl

pub global_without_value_refused : Invalidity global_without_value (fault.Structure 5)
unfolding early_fault
global_without_value_refused = refl

pub global_of_other_type_refused : Invalidity global_of_other_type (fault.Structure 5)
unfolding early_fault
global_of_other_type_refused = rw (const_no_float 0, layer_i32_const 0) refl

pub export_past_refused : Invalidity export_past (fault.Structure 6)
unfolding early_fault
export_past_refused = refl

pub same_names_refused : Invalidity same_names (fault.Structure 7)
unfolding early_fault
same_names_refused = refl

pub start_past_refused : Invalidity start_past (fault.Structure 8)
unfolding early_fault type_of import_of
start_past_refused = refl

pub start_with_params_refused : Invalidity start_with_params (fault.Structure 8)
unfolding early_fault type_of import_of host_named
start_with_params_refused = refl

pub element_without_table_refused : Invalidity element_without_table (fault.Structure 9)
unfolding early_fault
element_without_table_refused = rw (const_no_float 0) refl

pub element_of_no_function_refused : Invalidity element_of_no_function (fault.Structure 9)
unfolding early_fault
element_of_no_function_refused = rw (const_no_float 0, layer_i32_const 0) refl

pub data_without_memory_refused : Invalidity data_without_memory (fault.Structure 10)
unfolding early_fault
data_without_memory_refused = rw (const_no_float 0) refl

pub data_without_offset_refused : Invalidity data_without_offset (fault.Structure 10)
unfolding early_fault
data_without_offset_refused = refl

pub handle_with_params_refused : Invalidity handle_with_params fault.NoHandle
unfolding early_fault handle_of type_of import_of host_named
handle_with_params_refused = refl

pub element_past_refused : Invalidity element_past (fault.Segment (segment.Element 0))
unfolding early_fault handle_of type_of
element_past_refused = rw (const_no_float 1, layer_i32_const 1) refl

pub data_past_refused : Invalidity data_past (fault.Segment (segment.Data 0))
unfolding early_fault handle_of type_of
data_past_refused = rw (const_no_float 65536, layer_i32_const 65536) refl
