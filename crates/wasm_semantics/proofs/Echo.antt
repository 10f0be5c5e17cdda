-- The module that replies with its input.
use Rattle.std.proofs.Common.{◌≡◌, ◌<◌, ◌^◌, ℕ, List, [], ◌∷◌, refl, ap, subst, ◌∙◌}
use Rattle.std.specs.Prelude.{Some}
use Rattle.wasm_ast.specs.declared.trees.Instr.{Instr}
use Rattle.wasm_ast.specs.declared.trees.Instr.TheOpen.{Instr-F}
use Rattle.wasm_ast.specs.declared.trees.Instr.TheVariants as V
use Rattle.wasm_ast.specs.Trees.{layer_i32_const, layer_call}
use Rattle.wasm_ast.specs.Spaces.{own, type_of, import_of, memory_of}
use Rattle.wasm_ast.specs.declared.hosts.HostName.TheVariants.{Input}
use Rattle.wasm_ast.specs.Hosts.{host_named}
use Rattle.wasm_ast.specs.Validity.{handle_of}
use Rattle.wasm_semantics.specs.Threads.{Level, Thread, Goes, Calls}
use Rattle.wasm_semantics.specs.Units.{unit, units, units_from, after_unit, Course, with_memory, answered}
use Rattle.wasm_semantics.specs.Begin.{begin}
use Rattle.wasm_semantics.specs.OfModule.{IsMemory, IsOf, Sound}
use Rattle.wasm_semantics.specs.Examples.{echo_store, echo_asks, level, frame, lone}
use Rattle.wasm_semantics.proofs.Units.{units_sound}
use Rattle.wasm_semantics.proofs.Begin.{begin_is_of}
use Rattle.wasm_ast.specs.TestModules.{echo, echo_code}
use Rattle.wasm_ast.proofs.Worked.{echo_valid}
use Rattle.wasm_semantics.proofs.Written.{taken, one_more}

-- its threads before each unit
abbrev second_code : List Instr
second_code = V.I32Const 0 ∷ V.I32Const 65536 ∷ V.Call 0 ∷ V.Call 1 ∷ []

abbrev third_code : List Instr
third_code = V.I32Const 65536 ∷ V.Call 0 ∷ V.Call 1 ∷ []

abbrev fourth_code : List Instr
fourth_code = V.Call 0 ∷ V.Call 1 ∷ []

abbrev second_levels : List Level
second_levels = level (0 ∷ []) second_code ∷ []

abbrev third_levels : List Level
third_levels = level (0 ∷ 0 ∷ []) third_code ∷ []

abbrev fourth_levels : List Level
fourth_levels = level (65536 ∷ 0 ∷ 0 ∷ []) fourth_code ∷ []

abbrev second : Thread
second = lone echo_store second_levels

abbrev third : Thread
third = lone echo_store third_levels

abbrev pub fourth : Thread
fourth = lone echo_store fourth_levels

echo_begins : begin echo ≡ lone echo_store (level [] echo_code ∷ [])
unfolding begin own handle_of type_of import_of
echo_begins = refl

first_unit : (pages : ℕ) → unit echo pages (lone echo_store (level [] echo_code ∷ [])) ≡ Goes second
first_unit pages =
    taken echo pages echo_store (frame (level [] echo_code ∷ [])) [] (level [] echo_code) [] (V.I32Const 0) (V.I32Const 0 ∷ V.I32Const 65536 ∷ V.Call 0 ∷ V.Call 1 ∷ []) (Instr-F.I32Const 0) refl refl
    (layer_i32_const 0)

second_unit : (pages : ℕ) → unit echo pages second ≡ Goes third
second_unit pages =
    taken echo pages echo_store (frame second_levels) [] (level (0 ∷ []) second_code) [] (V.I32Const 0) (V.I32Const 65536 ∷ V.Call 0 ∷ V.Call 1 ∷ []) (Instr-F.I32Const 0) refl refl (layer_i32_const 0)

third_unit : (pages : ℕ) → unit echo pages third ≡ Goes fourth
third_unit pages =
    taken echo pages echo_store (frame third_levels) [] (level (0 ∷ 0 ∷ []) third_code) [] (V.I32Const 65536) (V.Call 0 ∷ V.Call 1 ∷ []) (Instr-F.I32Const 65536) refl refl (layer_i32_const 65536)

fourth_unit : (pages : ℕ) → unit echo pages fourth ≡ Calls Input (0 ∷ 65536 ∷ []) echo_asks
unfolding host_named
fourth_unit pages =
    taken echo pages echo_store (frame fourth_levels) [] (level (65536 ∷ 0 ∷ 0 ∷ []) fourth_code) [] (V.Call 0) (V.Call 1 ∷ []) (Instr-F.Call 0) refl refl (layer_call 0)

pub echo_three : (pages : ℕ) → units echo pages (begin echo) 3 ≡ record { used = 3; stop = Goes fourth }
unfolding units
echo_three pages =
    ap (units_from echo pages 0 3) echo_begins
    ∙ (one_more echo pages 0 2 (lone echo_store (level [] echo_code ∷ [])) second (first_unit pages) ∙ (one_more echo pages 1 1 second third (second_unit pages) ∙ one_more echo pages 2 0 third fourth (third_unit pages)))

pub echo_four : (pages : ℕ) → units echo pages (begin echo) 4 ≡ record { used = 4; stop = Calls Input (0 ∷ 65536 ∷ []) echo_asks }
unfolding units
echo_four pages =
    ap (units_from echo pages 0 4) echo_begins
    ∙ (one_more echo pages 0 3 (lone echo_store (level [] echo_code ∷ [])) second (first_unit pages)
    ∙ (one_more echo pages 1 2 second third (second_unit pages)
    ∙ (one_more echo pages 2 1 third fourth (third_unit pages) ∙ ap (λ o. after_unit o 4 (units_from echo pages 4 0)) (fourth_unit pages))))

-- whatever is answered, it is a thread of the module again
pub echo_answered : (memory : List ℕ) (n : ℕ) → IsMemory (memory_of echo) memory → n < 2 ^ 32 → IsOf echo (answered (with_memory echo_asks memory) (Some n))
echo_answered memory n fits small =
    let asks : Sound echo (units echo 1 (begin echo) 4).stop = units_sound echo 1 4 (begin echo) echo_valid (begin_is_of echo echo_valid) in
    (subst (λ (course : Course). Sound echo course.stop) (echo_four 1) asks).waits memory (Some n) fits (small, tt)
