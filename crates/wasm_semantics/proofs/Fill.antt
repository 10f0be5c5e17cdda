-- The module that fills and copies memory and stores a sign extension.
use Rattle.std.proofs.Common.{◌≡◌, ◌≤◌, ◌+◌, ℕ, false, List, [], ◌∷◌, length, drop, replicate, refl, ap, ◌∙◌, arith, lit≤}
use Rattle.std.specs.Prelude.{Some, None, nat_lt, if◌then◌else◌}
use Rattle.std.proofs.lemmas.List.{length-replicate}
use Rattle.std.proofs.lemmas.Bool.Decides.{nat_tests}
use Rattle.wasm_ast.specs.declared.trees.Instr.TheOpen.{Instr-F}
use Rattle.wasm_ast.specs.declared.trees.Instr.TheVariants as V
use Rattle.wasm_ast.specs.declared.hosts.HostName.TheVariants.{Reply}
use Rattle.wasm_ast.specs.Trees.{layer_i32_const, layer_call, layer_num, layer_store, layer_memory_copy, layer_memory_fill}
use Rattle.wasm_ast.specs.Spaces.{own, type_of, import_of}
use Rattle.wasm_ast.specs.Operators.{store_of}
use Rattle.wasm_ast.specs.Hosts.{host_named}
use Rattle.wasm_ast.specs.Bytes.{stored, copied, filled, first_memory}
use Rattle.wasm_ast.specs.Memory.{is_past}
use Rattle.wasm_ast.specs.Validity.{handle_of}
use Rattle.wasm_ast.specs.TestModules.{fill, fill_code}
use Rattle.wasm_semantics.specs.Operators.{operator_of}
use Rattle.wasm_semantics.specs.Data.{written}
use Rattle.wasm_semantics.specs.Threads.{Thread, Goes, Calls, Done}
use Rattle.wasm_semantics.specs.Control.{Spot}
use Rattle.wasm_semantics.specs.Units.{data_of, applied, limited, unit, units, units_from, after_unit, answered}
use Rattle.wasm_semantics.specs.Begin.{begin}
use Rattle.wasm_semantics.specs.Examples.{level, frame, lone, memory_alone, fill_asks}
use Rattle.wasm_semantics.proofs.Written.{taken_at, taken, one_more}

-- a memory by its first bytes
abbrev bytes_of : ℕ → ℕ → ℕ → ℕ → ℕ → ℕ → ℕ → ℕ → List ℕ → List ℕ
bytes_of a b c d e f g h r = a ∷ b ∷ c ∷ d ∷ e ∷ f ∷ g ∷ h ∷ r

-- its thread before the instruction with this number
abbrev at_fill : List ℕ → List ℕ → ℕ → Thread
at_fill bytes values k = lone (memory_alone bytes) (level values (drop k fill_code) ∷ [])

-- where it runs behind it
abbrev behind_fill : List ℕ → List ℕ → ℕ → Spot
behind_fill bytes values k = taken_at (memory_alone bytes) (frame (level values (drop k fill_code) ∷ [])) [] (level values (drop k fill_code)) [] (drop (k + 1) fill_code)

inside : (a b c d e f g h : ℕ) (r : List ℕ) (k : ℕ) → length r ≡ 65528 → k ≤ 65536 → nat_lt (length (bytes_of a b c d e f g h r)) k ≡ false
inside a b c d e f g h r k long most = grind (arith, nat_tests)

unit_0 : (pages : ℕ) (r : List ℕ) → unit fill pages (at_fill (bytes_of 0 0 0 0 0 0 0 0 r) [] 0) ≡ Goes (at_fill (bytes_of 0 0 0 0 0 0 0 0 r) (0 ∷ []) 1)
unit_0 pages r =
    taken fill pages (memory_alone (bytes_of 0 0 0 0 0 0 0 0 r)) (frame (level [] (drop 0 fill_code) ∷ [])) [] (level [] (drop 0 fill_code)) [] (V.I32Const 0) (drop 1 fill_code) (Instr-F.I32Const 0) refl refl (layer_i32_const 0)

unit_1 : (pages : ℕ) (r : List ℕ) → unit fill pages (at_fill (bytes_of 0 0 0 0 0 0 0 0 r) (0 ∷ []) 1) ≡ Goes (at_fill (bytes_of 0 0 0 0 0 0 0 0 r) (7 ∷ 0 ∷ []) 2)
unit_1 pages r =
    taken fill pages (memory_alone (bytes_of 0 0 0 0 0 0 0 0 r)) (frame (level (0 ∷ []) (drop 1 fill_code) ∷ [])) [] (level (0 ∷ []) (drop 1 fill_code)) [] (V.I32Const 7) (drop 2 fill_code) (Instr-F.I32Const 7) refl refl (layer_i32_const 7)

unit_2 : (pages : ℕ) (r : List ℕ) → unit fill pages (at_fill (bytes_of 0 0 0 0 0 0 0 0 r) (7 ∷ 0 ∷ []) 2) ≡ Goes (at_fill (bytes_of 0 0 0 0 0 0 0 0 r) (2 ∷ 7 ∷ 0 ∷ []) 3)
unit_2 pages r =
    taken fill pages (memory_alone (bytes_of 0 0 0 0 0 0 0 0 r)) (frame (level (7 ∷ 0 ∷ []) (drop 2 fill_code) ∷ [])) [] (level (7 ∷ 0 ∷ []) (drop 2 fill_code)) [] (V.I32Const 2) (drop 3 fill_code) (Instr-F.I32Const 2) refl refl (layer_i32_const 2)

unit_3 : (pages : ℕ) (r : List ℕ) → length r ≡ 65528 → unit fill pages (at_fill (bytes_of 0 0 0 0 0 0 0 0 r) (2 ∷ 7 ∷ 0 ∷ []) 3) ≡ Goes (at_fill (bytes_of 7 7 0 0 0 0 0 0 r) [] 4)
unit_3 pages r long =
    taken fill pages (memory_alone (bytes_of 0 0 0 0 0 0 0 0 r)) (frame (level (2 ∷ 7 ∷ 0 ∷ []) (drop 3 fill_code) ∷ [])) [] (level (2 ∷ 7 ∷ 0 ∷ []) (drop 3 fill_code)) [] (V.MemoryFill) (drop 4 fill_code) (Instr-F.MemoryFill) refl refl layer_memory_fill
    ∙ ap (λ b. limited (applied (behind_fill (bytes_of 0 0 0 0 0 0 0 0 r) (2 ∷ 7 ∷ 0 ∷ []) 3) (written (data_of (behind_fill (bytes_of 0 0 0 0 0 0 0 0 r) (2 ∷ 7 ∷ 0 ∷ []) 3)) (if b then None else Some (filled (bytes_of 0 0 0 0 0 0 0 0 r) 0 7 2)) []))) (inside 0 0 0 0 0 0 0 0 r 2 long (lit≤ tt))

unit_4 : (pages : ℕ) (r : List ℕ) → unit fill pages (at_fill (bytes_of 7 7 0 0 0 0 0 0 r) [] 4) ≡ Goes (at_fill (bytes_of 7 7 0 0 0 0 0 0 r) (1 ∷ []) 5)
unit_4 pages r =
    taken fill pages (memory_alone (bytes_of 7 7 0 0 0 0 0 0 r)) (frame (level [] (drop 4 fill_code) ∷ [])) [] (level [] (drop 4 fill_code)) [] (V.I32Const 1) (drop 5 fill_code) (Instr-F.I32Const 1) refl refl (layer_i32_const 1)

unit_5 : (pages : ℕ) (r : List ℕ) → unit fill pages (at_fill (bytes_of 7 7 0 0 0 0 0 0 r) (1 ∷ []) 5) ≡ Goes (at_fill (bytes_of 7 7 0 0 0 0 0 0 r) (0 ∷ 1 ∷ []) 6)
unit_5 pages r =
    taken fill pages (memory_alone (bytes_of 7 7 0 0 0 0 0 0 r)) (frame (level (1 ∷ []) (drop 5 fill_code) ∷ [])) [] (level (1 ∷ []) (drop 5 fill_code)) [] (V.I32Const 0) (drop 6 fill_code) (Instr-F.I32Const 0) refl refl (layer_i32_const 0)

unit_6 : (pages : ℕ) (r : List ℕ) → unit fill pages (at_fill (bytes_of 7 7 0 0 0 0 0 0 r) (0 ∷ 1 ∷ []) 6) ≡ Goes (at_fill (bytes_of 7 7 0 0 0 0 0 0 r) (2 ∷ 0 ∷ 1 ∷ []) 7)
unit_6 pages r =
    taken fill pages (memory_alone (bytes_of 7 7 0 0 0 0 0 0 r)) (frame (level (0 ∷ 1 ∷ []) (drop 6 fill_code) ∷ [])) [] (level (0 ∷ 1 ∷ []) (drop 6 fill_code)) [] (V.I32Const 2) (drop 7 fill_code) (Instr-F.I32Const 2) refl refl (layer_i32_const 2)

unit_7 : (pages : ℕ) (r : List ℕ) → length r ≡ 65528 → unit fill pages (at_fill (bytes_of 7 7 0 0 0 0 0 0 r) (2 ∷ 0 ∷ 1 ∷ []) 7) ≡ Goes (at_fill (bytes_of 7 7 7 0 0 0 0 0 r) [] 8)
unit_7 pages r long =
    taken fill pages (memory_alone (bytes_of 7 7 0 0 0 0 0 0 r)) (frame (level (2 ∷ 0 ∷ 1 ∷ []) (drop 7 fill_code) ∷ [])) [] (level (2 ∷ 0 ∷ 1 ∷ []) (drop 7 fill_code)) [] (V.MemoryCopy) (drop 8 fill_code) (Instr-F.MemoryCopy) refl refl layer_memory_copy
    ∙ (ap (λ b. limited (applied (behind_fill (bytes_of 7 7 0 0 0 0 0 0 r) (2 ∷ 0 ∷ 1 ∷ []) 7) (written (data_of (behind_fill (bytes_of 7 7 0 0 0 0 0 0 r) (2 ∷ 0 ∷ 1 ∷ []) 7)) (if b then None else if is_past (bytes_of 7 7 0 0 0 0 0 0 r) 1 2 then None else Some (copied (bytes_of 7 7 0 0 0 0 0 0 r) 1 0 2)) []))) (inside 7 7 0 0 0 0 0 0 r 2 long (lit≤ tt))
    ∙ ap (λ b. limited (applied (behind_fill (bytes_of 7 7 0 0 0 0 0 0 r) (2 ∷ 0 ∷ 1 ∷ []) 7) (written (data_of (behind_fill (bytes_of 7 7 0 0 0 0 0 0 r) (2 ∷ 0 ∷ 1 ∷ []) 7)) (if b then None else Some (copied (bytes_of 7 7 0 0 0 0 0 0 r) 1 0 2)) []))) (inside 7 7 0 0 0 0 0 0 r 3 long (lit≤ tt)))

unit_8 : (pages : ℕ) (r : List ℕ) → unit fill pages (at_fill (bytes_of 7 7 7 0 0 0 0 0 r) [] 8) ≡ Goes (at_fill (bytes_of 7 7 7 0 0 0 0 0 r) (4 ∷ []) 9)
unit_8 pages r =
    taken fill pages (memory_alone (bytes_of 7 7 7 0 0 0 0 0 r)) (frame (level [] (drop 8 fill_code) ∷ [])) [] (level [] (drop 8 fill_code)) [] (V.I32Const 4) (drop 9 fill_code) (Instr-F.I32Const 4) refl refl (layer_i32_const 4)

unit_9 : (pages : ℕ) (r : List ℕ) → unit fill pages (at_fill (bytes_of 7 7 7 0 0 0 0 0 r) (4 ∷ []) 9) ≡ Goes (at_fill (bytes_of 7 7 7 0 0 0 0 0 r) (128 ∷ 4 ∷ []) 10)
unit_9 pages r =
    taken fill pages (memory_alone (bytes_of 7 7 7 0 0 0 0 0 r)) (frame (level (4 ∷ []) (drop 9 fill_code) ∷ [])) [] (level (4 ∷ []) (drop 9 fill_code)) [] (V.I32Const 128) (drop 10 fill_code) (Instr-F.I32Const 128) refl refl (layer_i32_const 128)

unit_10 : (pages : ℕ) (r : List ℕ) → unit fill pages (at_fill (bytes_of 7 7 7 0 0 0 0 0 r) (128 ∷ 4 ∷ []) 10) ≡ Goes (at_fill (bytes_of 7 7 7 0 0 0 0 0 r) (4294967168 ∷ 4 ∷ []) 11)
unfolding operator_of
unit_10 pages r =
    taken fill pages (memory_alone (bytes_of 7 7 7 0 0 0 0 0 r)) (frame (level (128 ∷ 4 ∷ []) (drop 10 fill_code) ∷ [])) [] (level (128 ∷ 4 ∷ []) (drop 10 fill_code)) [] (V.Num 192) (drop 11 fill_code) (Instr-F.Num 192) refl refl (layer_num 192)

unit_11 : (pages : ℕ) (r : List ℕ) → length r ≡ 65528 → unit fill pages (at_fill (bytes_of 7 7 7 0 0 0 0 0 r) (4294967168 ∷ 4 ∷ []) 11) ≡ Goes (at_fill (bytes_of 7 7 7 0 128 255 255 255 r) [] 12)
unfolding store_of
unit_11 pages r long =
    taken fill pages (memory_alone (bytes_of 7 7 7 0 0 0 0 0 r)) (frame (level (4294967168 ∷ 4 ∷ []) (drop 11 fill_code) ∷ [])) [] (level (4294967168 ∷ 4 ∷ []) (drop 11 fill_code)) [] (V.Store 54 2 0) (drop 12 fill_code) (Instr-F.Store 54 2 0) refl refl (layer_store 54 2 0)
    ∙ ap (λ b. limited (applied (behind_fill (bytes_of 7 7 7 0 0 0 0 0 r) (4294967168 ∷ 4 ∷ []) 11) (written (data_of (behind_fill (bytes_of 7 7 7 0 0 0 0 0 r) (4294967168 ∷ 4 ∷ []) 11)) (if b then None else Some (stored (bytes_of 7 7 7 0 0 0 0 0 r) 4 4 4294967168)) []))) (inside 7 7 7 0 0 0 0 0 r 8 long (lit≤ tt))

unit_12 : (pages : ℕ) (r : List ℕ) → unit fill pages (at_fill (bytes_of 7 7 7 0 128 255 255 255 r) [] 12) ≡ Goes (at_fill (bytes_of 7 7 7 0 128 255 255 255 r) (0 ∷ []) 13)
unit_12 pages r =
    taken fill pages (memory_alone (bytes_of 7 7 7 0 128 255 255 255 r)) (frame (level [] (drop 12 fill_code) ∷ [])) [] (level [] (drop 12 fill_code)) [] (V.I32Const 0) (drop 13 fill_code) (Instr-F.I32Const 0) refl refl (layer_i32_const 0)

unit_13 : (pages : ℕ) (r : List ℕ) → unit fill pages (at_fill (bytes_of 7 7 7 0 128 255 255 255 r) (0 ∷ []) 13) ≡ Goes (at_fill (bytes_of 7 7 7 0 128 255 255 255 r) (8 ∷ 0 ∷ []) 14)
unit_13 pages r =
    taken fill pages (memory_alone (bytes_of 7 7 7 0 128 255 255 255 r)) (frame (level (0 ∷ []) (drop 13 fill_code) ∷ [])) [] (level (0 ∷ []) (drop 13 fill_code)) [] (V.I32Const 8) (drop 14 fill_code) (Instr-F.I32Const 8) refl refl (layer_i32_const 8)

unit_14 : (pages : ℕ) (r : List ℕ) → unit fill pages (at_fill (bytes_of 7 7 7 0 128 255 255 255 r) (8 ∷ 0 ∷ []) 14) ≡ Calls Reply (0 ∷ 8 ∷ []) (lone (memory_alone (bytes_of 7 7 7 0 128 255 255 255 r)) (level [] [] ∷ []))
unfolding host_named
unit_14 pages r =
    taken fill pages (memory_alone (bytes_of 7 7 7 0 128 255 255 255 r)) (frame (level (8 ∷ 0 ∷ []) (drop 14 fill_code) ∷ [])) [] (level (8 ∷ 0 ∷ []) (drop 14 fill_code)) [] (V.Call 0) (drop 15 fill_code) (Instr-F.Call 0) refl refl (layer_call 0)

fill_runs : (pages : ℕ) (r : List ℕ) → length r ≡ 65528 → units_from fill pages 0 15 (at_fill (bytes_of 0 0 0 0 0 0 0 0 r) [] 0)
    ≡ record { used = 15; stop = Calls Reply (0 ∷ 8 ∷ []) (lone (memory_alone (bytes_of 7 7 7 0 128 255 255 255 r)) (level [] [] ∷ [])) }
fill_runs pages r long =
    one_more fill pages 0 14 (at_fill (bytes_of 0 0 0 0 0 0 0 0 r) [] 0) (at_fill (bytes_of 0 0 0 0 0 0 0 0 r) (0 ∷ []) 1) (unit_0 pages r)
    ∙ (one_more fill pages 1 13 (at_fill (bytes_of 0 0 0 0 0 0 0 0 r) (0 ∷ []) 1) (at_fill (bytes_of 0 0 0 0 0 0 0 0 r) (7 ∷ 0 ∷ []) 2) (unit_1 pages r)
    ∙ (one_more fill pages 2 12 (at_fill (bytes_of 0 0 0 0 0 0 0 0 r) (7 ∷ 0 ∷ []) 2) (at_fill (bytes_of 0 0 0 0 0 0 0 0 r) (2 ∷ 7 ∷ 0 ∷ []) 3) (unit_2 pages r)
    ∙ (one_more fill pages 3 11 (at_fill (bytes_of 0 0 0 0 0 0 0 0 r) (2 ∷ 7 ∷ 0 ∷ []) 3) (at_fill (bytes_of 7 7 0 0 0 0 0 0 r) [] 4) (unit_3 pages r long)
    ∙ (one_more fill pages 4 10 (at_fill (bytes_of 7 7 0 0 0 0 0 0 r) [] 4) (at_fill (bytes_of 7 7 0 0 0 0 0 0 r) (1 ∷ []) 5) (unit_4 pages r)
    ∙ (one_more fill pages 5 9 (at_fill (bytes_of 7 7 0 0 0 0 0 0 r) (1 ∷ []) 5) (at_fill (bytes_of 7 7 0 0 0 0 0 0 r) (0 ∷ 1 ∷ []) 6) (unit_5 pages r)
    ∙ (one_more fill pages 6 8 (at_fill (bytes_of 7 7 0 0 0 0 0 0 r) (0 ∷ 1 ∷ []) 6) (at_fill (bytes_of 7 7 0 0 0 0 0 0 r) (2 ∷ 0 ∷ 1 ∷ []) 7) (unit_6 pages r)
    ∙ (one_more fill pages 7 7 (at_fill (bytes_of 7 7 0 0 0 0 0 0 r) (2 ∷ 0 ∷ 1 ∷ []) 7) (at_fill (bytes_of 7 7 7 0 0 0 0 0 r) [] 8) (unit_7 pages r long)
    ∙ (one_more fill pages 8 6 (at_fill (bytes_of 7 7 7 0 0 0 0 0 r) [] 8) (at_fill (bytes_of 7 7 7 0 0 0 0 0 r) (4 ∷ []) 9) (unit_8 pages r)
    ∙ (one_more fill pages 9 5 (at_fill (bytes_of 7 7 7 0 0 0 0 0 r) (4 ∷ []) 9) (at_fill (bytes_of 7 7 7 0 0 0 0 0 r) (128 ∷ 4 ∷ []) 10) (unit_9 pages r)
    ∙ (one_more fill pages 10 4 (at_fill (bytes_of 7 7 7 0 0 0 0 0 r) (128 ∷ 4 ∷ []) 10) (at_fill (bytes_of 7 7 7 0 0 0 0 0 r) (4294967168 ∷ 4 ∷ []) 11) (unit_10 pages r)
    ∙ (one_more fill pages 11 3 (at_fill (bytes_of 7 7 7 0 0 0 0 0 r) (4294967168 ∷ 4 ∷ []) 11) (at_fill (bytes_of 7 7 7 0 128 255 255 255 r) [] 12) (unit_11 pages r long)
    ∙ (one_more fill pages 12 2 (at_fill (bytes_of 7 7 7 0 128 255 255 255 r) [] 12) (at_fill (bytes_of 7 7 7 0 128 255 255 255 r) (0 ∷ []) 13) (unit_12 pages r)
    ∙ (one_more fill pages 13 1 (at_fill (bytes_of 7 7 7 0 128 255 255 255 r) (0 ∷ []) 13) (at_fill (bytes_of 7 7 7 0 128 255 255 255 r) (8 ∷ 0 ∷ []) 14) (unit_13 pages r)
    ∙ (ap (λ o. after_unit o 15 (units_from fill pages 15 0)) (unit_14 pages r)))))))))))))))

fill_begins : begin fill ≡ at_fill (first_memory fill) [] 0
unfolding begin own handle_of type_of import_of
fill_begins = refl

first_fill : first_memory fill ≡ bytes_of 0 0 0 0 0 0 0 0 (replicate 65528 0)
unfolding first_memory
first_fill = refl

pub fill_fifteen : (pages : ℕ) → units fill pages (begin fill) 15 ≡ record { used = 15; stop = Calls Reply (0 ∷ 8 ∷ []) fill_asks }
unfolding units
fill_fifteen pages =
    ap (units_from fill pages 0 15) (fill_begins ∙ ap (λ b. at_fill b [] 0) first_fill) ∙ fill_runs pages (replicate 65528 0) (length-replicate {A = ℕ} 65528 0)

pub fill_last : (pages : ℕ) → units fill pages (answered fill_asks None) 1 ≡ record { used = 1; stop = Done }
unfolding units unit
fill_last pages = refl
