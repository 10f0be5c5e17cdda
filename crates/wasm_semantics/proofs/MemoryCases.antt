-- Instructions on memory that the worked examples name.
use Rattle.std.proofs.Common.{◌≡◌, ◌≤◌, ◌+◌, ℕ, min, true, List, [], ◌∷◌, length, ap, ◌∙◌, arith}
use Rattle.std.specs.Prelude.{Some, None, nat_le, if◌then◌else◌}
use Rattle.std.proofs.lemmas.Bool.Decides.{nat_tests}
use Rattle.wasm_ast.specs.declared.trees.Instr.TheOpen.{Instr-F}
use Rattle.wasm_ast.specs.declared.trees.Instr.TheVariants as V
use Rattle.wasm_ast.specs.declared.modules.Module.{Module}
use Rattle.wasm_ast.specs.Trees.{layer_load, layer_memory_grow, layer_memory_copy, layer_memory_fill}
use Rattle.wasm_ast.specs.Spaces.{page_limit}
use Rattle.wasm_ast.specs.Operators.{load_of}
use Rattle.wasm_ast.specs.Bytes.{in_pages, grown}
use Rattle.wasm_semantics.specs.declared.traps.Trap.TheVariants as trap
use Rattle.wasm_semantics.specs.Data.{sized}
use Rattle.wasm_semantics.specs.Threads.{Goes, Trapped}
use Rattle.wasm_semantics.specs.Units.{data_of, applied, limited, unit}
use Rattle.wasm_semantics.specs.Examples.{poised, passed, memory_alone}
use Rattle.wasm_semantics.proofs.ControlCases.{spot_passed, steps}

room : (bytes : List ℕ) (most : ℕ) → length bytes ≡ 65536 → 2 ≤ most → nat_le (1 + in_pages bytes) (min 2 most) ≡ true
room bytes most e h = grind (arith, nat_tests)

one_before : (bytes : List ℕ) → length bytes ≡ 65536 → in_pages bytes ≡ 1
one_before bytes e = omega arith

pub grows : (m : Module) (bytes : List ℕ) → length bytes ≡ 65536 → 2 ≤ page_limit m
    → unit m 2 (poised (memory_alone bytes) (1 ∷ []) V.MemoryGrow) ≡ Goes (passed (memory_alone (grown bytes 1)) (1 ∷ []))
grows m bytes e h =
    let p = spot_passed (memory_alone bytes) (1 ∷ []) in
    steps m 2 (memory_alone bytes) (1 ∷ []) V.MemoryGrow Instr-F.MemoryGrow layer_memory_grow
    ∙ (ap (λ b. limited (applied p (sized (data_of p) (if b then Some (grown bytes 1) else None) []))) (room bytes (page_limit m) e h)
    ∙ ap (λ n. Goes (passed (memory_alone (grown bytes 1)) (n ∷ []))) (one_before bytes e))

abbrev two : List ℕ
two = 128 ∷ 255 ∷ []

pub loads_signed : (m : Module) (pages : ℕ) → unit m pages (poised (memory_alone two) (0 ∷ []) (V.Load 44 0 0)) ≡ Goes (passed (memory_alone two) (4294967168 ∷ []))
unfolding load_of
loads_signed m pages = steps m pages (memory_alone two) (0 ∷ []) (V.Load 44 0 0) (Instr-F.Load 44 0 0) (layer_load 44 0 0)

pub loads_unsigned : (m : Module) (pages : ℕ) → unit m pages (poised (memory_alone two) (0 ∷ []) (V.Load 45 0 0)) ≡ Goes (passed (memory_alone two) (128 ∷ []))
unfolding load_of
loads_unsigned m pages = steps m pages (memory_alone two) (0 ∷ []) (V.Load 45 0 0) (Instr-F.Load 45 0 0) (layer_load 45 0 0)

pub loads_wide : (m : Module) (pages : ℕ) → unit m pages (poised (memory_alone two) (0 ∷ []) (V.Load 50 0 0)) ≡ Goes (passed (memory_alone two) (18446744073709551488 ∷ []))
unfolding load_of
loads_wide m pages = steps m pages (memory_alone two) (0 ∷ []) (V.Load 50 0 0) (Instr-F.Load 50 0 0) (layer_load 50 0 0)

abbrev five : List ℕ
five = 1 ∷ 2 ∷ 3 ∷ 4 ∷ 5 ∷ []

pub copies_up : (m : Module) (pages : ℕ) → unit m pages (poised (memory_alone five) (3 ∷ 0 ∷ 1 ∷ []) V.MemoryCopy) ≡ Goes (passed (memory_alone (1 ∷ 1 ∷ 2 ∷ 3 ∷ 5 ∷ [])) [])
copies_up m pages = steps m pages (memory_alone five) (3 ∷ 0 ∷ 1 ∷ []) V.MemoryCopy Instr-F.MemoryCopy layer_memory_copy

pub copies_down : (m : Module) (pages : ℕ) → unit m pages (poised (memory_alone five) (3 ∷ 1 ∷ 0 ∷ []) V.MemoryCopy) ≡ Goes (passed (memory_alone (2 ∷ 3 ∷ 4 ∷ 4 ∷ 5 ∷ [])) [])
copies_down m pages = steps m pages (memory_alone five) (3 ∷ 1 ∷ 0 ∷ []) V.MemoryCopy Instr-F.MemoryCopy layer_memory_copy

abbrev pair : List ℕ
pair = 1 ∷ 2 ∷ []

pub fills_nothing : (m : Module) (pages : ℕ) → unit m pages (poised (memory_alone pair) (0 ∷ 7 ∷ 2 ∷ []) V.MemoryFill) ≡ Goes (passed (memory_alone pair) [])
fills_nothing m pages = steps m pages (memory_alone pair) (0 ∷ 7 ∷ 2 ∷ []) V.MemoryFill Instr-F.MemoryFill layer_memory_fill

pub fills_past : (m : Module) (pages : ℕ) → unit m pages (poised (memory_alone pair) (0 ∷ 7 ∷ 3 ∷ []) V.MemoryFill) ≡ Trapped trap.Memory
fills_past m pages = steps m pages (memory_alone pair) (0 ∷ 7 ∷ 3 ∷ []) V.MemoryFill Instr-F.MemoryFill layer_memory_fill

pub copies_from_past : (m : Module) (pages : ℕ) → unit m pages (poised (memory_alone pair) (0 ∷ 3 ∷ 0 ∷ []) V.MemoryCopy) ≡ Trapped trap.Memory
copies_from_past m pages = steps m pages (memory_alone pair) (0 ∷ 3 ∷ 0 ∷ []) V.MemoryCopy Instr-F.MemoryCopy layer_memory_copy

pub copies_to_past : (m : Module) (pages : ℕ) → unit m pages (poised (memory_alone pair) (0 ∷ 0 ∷ 3 ∷ []) V.MemoryCopy) ≡ Trapped trap.Memory
copies_to_past m pages = steps m pages (memory_alone pair) (0 ∷ 0 ∷ 3 ∷ []) V.MemoryCopy Instr-F.MemoryCopy layer_memory_copy
