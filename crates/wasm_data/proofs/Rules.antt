-- What follows where an instruction has a rule.
use Rattle.std.proofs.Common.{◌≡◌, ◌≢◌, ℕ, ◌+◌, ◌-◌, ◌<◌, ◌≤◌, Bool, true, false, List, [], ◌∷◌, length, refl, sym, subst, arith, inl, inr}
use Rattle.std.specs.Prelude.{slice_get, Option, Some, None, nat_eq, nat_le, ◌&&◌, if◌then◌else◌, ◌⊎◌}
use Rattle.std.proofs.lemmas.Option.{slice_get_within}
use Rattle.std.proofs.lemmas.Bool.Decides.{nat_tests}
use Rattle.wasm_ast.specs.Operators.{between, Access, load_of, store_of}
use Rattle.wasm_ast.specs.Memory.{memory_load, memory_store}
use Rattle.wasm_ast.specs.Spaces.{page_limit}
use Rattle.wasm_ast.specs.declared.modules.Module.{Module}
use Rattle.wasm_ast.specs.declared.trees.Instr.TheOpen.{Instr-F}
use Rattle.wasm_ast.specs.declared.trees.Instr.{Instr}
use Rattle.wasm_ast.specs.Trees.{Layer, layer}
use Rattle.wasm_semantics.specs.Data.{DataEffect, effect_of, fetched, written, Wrong, with_some, with_top, moves, set_local, set_global}
use Rattle.wasm_semantics.specs.declared.operators.Operator.{Operator}
use Rattle.wasm_semantics.specs.Operators.{operator_of}
use Rattle.wasm_memory.specs.Contents.{Contents}
use Rattle.wasm_data.specs.declared.marks.Marks.{Marks}
use Rattle.wasm_data.specs.declared.moved.Moved.{Moved}
use Rattle.wasm_data.specs.Marked.{AreInArray, locals_in, operands_in}
use Rattle.wasm_data.specs.Effects.{Cells, cells, seen, Does, CarriesOut, CarriesGlobals, CarriesMemory}
use Rattle.wasm_data.specs.Operands.{operated, IsListed, IsLoad, IsStoreCode}
use Rattle.wasm_data.specs.Rules.{HasRule}
use Rattle.wasm_data.proofs.Arrays.{length_operands, length_locals}
use Rattle.wasm_data.proofs.Moves.{some_there, top_there}

-- the instruction is this one
pub rule_at : (i : Instr) (y : Layer) (globals values : List ℕ) (marks : Marks) → layer i ≡ y → HasRule (layer i) globals values marks → HasRule y globals values marks
rule_at i y globals values marks is h = let P : Layer → Type 0 = λ y. HasRule y globals values marks in subst P is h

pub carried : (i : Instr) (y : Layer) (globals old new : List ℕ) (marks : Marks) (answer : Moved) → layer i ≡ y → CarriesOut y old new marks answer → CarriesGlobals (layer i) globals globals old new marks answer
carried i y globals old new marks answer is h =
    let P : Layer → Type 0 = λ y. CarriesGlobals y globals globals old new marks answer in
    subst P (sym is) (λ m pages memory. h m pages memory globals)

pub carried_globals : (i : Instr) (y : Layer) (globals globals' old new : List ℕ) (marks : Marks) (answer : Moved) → layer i ≡ y → CarriesGlobals y globals globals' old new marks answer
    → CarriesGlobals (layer i) globals globals' old new marks answer
carried_globals i y globals globals' old new marks answer is h = let P : Layer → Type 0 = λ y. CarriesGlobals y globals globals' old new marks answer in subst P (sym is) h

-- operands that are there
one_there : (marks : Marks) (values : List ℕ) (go : ℕ → List ℕ → DataEffect) → AreInArray marks (length values) → with_top Wrong (operands_in marks.floor marks.sp values) go ≢ Wrong → marks.floor < marks.sp
one_there marks values go w h = omega (arith, top_there (operands_in marks.floor marks.sp values) go h, length_operands marks.floor marks.sp values w.room)

local_within : (marks : Marks) (values : List ℕ) (x v : ℕ) → AreInArray marks (length values) → slice_get (locals_in marks.base marks.floor values) x ≡ Some v → x < marks.floor - marks.base
local_within marks values x v w e =
    omega (arith, slice_get_within (locals_in marks.base marks.floor values) x v e, length_locals marks.base marks.floor values (omega (arith, w.operands, w.room)))

pub drop_needs : (globals values : List ℕ) (marks : Marks) → AreInArray marks (length values) → HasRule Instr-F.Drop globals values marks → marks.floor < marks.sp
drop_needs globals values marks w h =
    let d = seen (cells h.memory globals values) marks in
    one_there marks values (λ v vs. moves d vs) w h.typed

three_there : (vs : List ℕ) (go : ℕ → ℕ → ℕ → List ℕ → DataEffect) → with_top Wrong vs (λ v ws. with_top Wrong ws (λ b xs. with_top Wrong xs (λ a ys. go v b a ys))) ≢ Wrong → 3 ≤ length vs
three_there [] go h = absurd (h refl)
three_there (v ∷ []) go h = absurd (h refl)
three_there (v ∷ b ∷ []) go h = absurd (h refl)
three_there (v ∷ b ∷ a ∷ xs) go h = omega arith

pub select_needs : (globals values : List ℕ) (marks : Marks) → AreInArray marks (length values) → HasRule Instr-F.Select globals values marks → marks.floor + 3 ≤ marks.sp
select_needs globals values marks w h = omega (arith, three_there (operands_in marks.floor marks.sp values) _ h.typed, length_operands marks.floor marks.sp values w.room)

pub local_get_needs : (x : ℕ) (globals values : List ℕ) (marks : Marks) → AreInArray marks (length values) → HasRule (Instr-F.LocalGet x) globals values marks → x < marks.floor - marks.base
local_get_needs x globals values marks w h =
    let d = seen (cells h.memory globals values) marks in
    let there = some_there (slice_get d.locals x) (λ v. moves d (v ∷ d.values)) h.typed in
    local_within marks values x there.0 w there.1

-- an instruction that sets what is there to the topmost operand
set_needs : {A : Type 0} (o : Option A) (marks : Marks) (values : List ℕ) (go : ℕ → List ℕ → DataEffect) → AreInArray marks (length values)
    → with_some Wrong o (λ old. with_top Wrong (operands_in marks.floor marks.sp values) go) ≢ Wrong → ((v : A) × (o ≡ Some v)) × (marks.floor < marks.sp)
set_needs None marks values go w h = absurd (h refl)
set_needs (Some v) marks values go w h = ((v, refl), one_there marks values go w h)

pub local_set_needs : (x : ℕ) (globals values : List ℕ) (marks : Marks) → AreInArray marks (length values) → HasRule (Instr-F.LocalSet x) globals values marks → (x < marks.floor - marks.base) × (marks.floor < marks.sp)
local_set_needs x globals values marks w h =
    let d = seen (cells h.memory globals values) marks in
    let there = set_needs (slice_get d.locals x) marks values (λ v vs. set_local d x v vs) w h.typed in
    (local_within marks values x there.0.0 w there.0.1, there.1)

pub local_tee_needs : (x : ℕ) (globals values : List ℕ) (marks : Marks) → AreInArray marks (length values) → HasRule (Instr-F.LocalTee x) globals values marks → (x < marks.floor - marks.base) × (marks.floor < marks.sp)
local_tee_needs x globals values marks w h =
    let d = seen (cells h.memory globals values) marks in
    let there = set_needs (slice_get d.locals x) marks values (λ v vs. set_local d x v (v ∷ vs)) w h.typed in
    (local_within marks values x there.0.0 w there.0.1, there.1)

pub global_get_needs : (x : ℕ) (globals values : List ℕ) (marks : Marks) → HasRule (Instr-F.GlobalGet x) globals values marks → x < length globals
global_get_needs x globals values marks h =
    let d = seen (cells h.memory globals values) marks in
    let there = some_there (slice_get globals x) (λ v. moves d (v ∷ d.values)) h.typed in
    slice_get_within globals x there.0 there.1

pub global_set_needs : (x : ℕ) (globals values : List ℕ) (marks : Marks) → AreInArray marks (length values) → HasRule (Instr-F.GlobalSet x) globals values marks → (x < length globals) × (marks.floor < marks.sp)
global_set_needs x globals values marks w h =
    let d = seen (cells h.memory globals values) marks in
    let there = set_needs (slice_get globals x) marks values (λ v vs. set_global d x v vs) w h.typed in
    (slice_get_within globals x there.0.0 there.0.1, there.1)

-- opcodes of operators
tested : (b : Bool) (x rest : Option Operator) (o : Operator) → (if b then x else rest) ≡ Some o → (b ≡ true) ⊎ (rest ≡ Some o)
tested true x rest o h = inl refl
tested false x rest o h = inr h

equal : (a b : ℕ) → nat_eq a b ≡ true → a ≡ b
equal a b h = grind (arith, nat_tests)

both : (a b : Bool) → (a && b) ≡ true → (a ≡ true) × (b ≡ true)
both true b h = (refl, h)
both false b h = cc

at_most : (a b : ℕ) → nat_le a b ≡ true → a ≤ b
at_most a b h = grind (arith, nat_tests)

ranged : (low high n : ℕ) → between low high n ≡ true → (low ≤ n) × (n ≤ high)
ranged low high n h = let t = both (nat_le low n) (nat_le n high) h in (at_most low n t.0, at_most n high t.1)

listed_by : (n low high : ℕ) → (low ≤ n) × (n ≤ high) → (69 ≤ low) → (high ≤ 196) → ((90 < high) → (103 ≤ low)) → ((138 < high) → (167 ≤ low)) → ((167 < high) → (172 ≤ low)) → ((173 < high) → (192 ≤ low)) → IsListed n
listed_by n low high h a b c d e f = record {
  first = omega (arith, h.0);
  second = λ g. omega (arith, h.0, h.1, c, g);
  third = λ g. omega (arith, h.0, h.1, d, g);
  fourth = λ g. omega (arith, h.0, h.1, e, g);
  fifth = λ g. omega (arith, h.0, h.1, f, g);
  last = omega (arith, h.1);
}

at_69 : (n k : ℕ) → n ≡ k → (k ≤ n) × (n ≤ k)
at_69 n k e = (omega (arith, e), omega (arith, e))

pub listed : (n : ℕ) (o : Operator) → operator_of n ≡ Some o → IsListed n
unfolding operator_of
listed n o h =
    elim (tested (nat_eq n 69) _ _ o h) [
      | inl e ↦ listed_by n 69 69 (at_69 n 69 (equal n 69 e)) (omega arith) (omega arith) (λ g. omega (arith, g)) (λ g. omega (arith, g)) (λ g. omega (arith, g)) (λ g. omega (arith, g))
      | inr h1 ↦
          elim (tested (between 70 79 n) _ _ o h1) [
            | inl e ↦ listed_by n 70 79 (ranged 70 79 n e) (omega arith) (omega arith) (λ g. omega (arith, g)) (λ g. omega (arith, g)) (λ g. omega (arith, g)) (λ g. omega (arith, g))
            | inr h2 ↦
                elim (tested (nat_eq n 80) _ _ o h2) [
                  | inl e ↦ listed_by n 80 80 (at_69 n 80 (equal n 80 e)) (omega arith) (omega arith) (λ g. omega (arith, g)) (λ g. omega (arith, g)) (λ g. omega (arith, g)) (λ g. omega (arith, g))
                  | inr h3 ↦
                      elim (tested (between 81 90 n) _ _ o h3) [
                        | inl e ↦ listed_by n 81 90 (ranged 81 90 n e) (omega arith) (omega arith) (λ g. omega (arith, g)) (λ g. omega (arith, g)) (λ g. omega (arith, g)) (λ g. omega (arith, g))
                        | inr h4 ↦
                            elim (tested (between 103 105 n) _ _ o h4) [
                              | inl e ↦ listed_by n 103 105 (ranged 103 105 n e) (omega arith) (omega arith) (λ g. omega (arith, g)) (λ g. omega (arith, g)) (λ g. omega (arith, g)) (λ g. omega (arith, g))
                              | inr h5 ↦
                                  elim (tested (between 106 120 n) _ _ o h5) [
                                    | inl e ↦ listed_by n 106 120 (ranged 106 120 n e) (omega arith) (omega arith) (λ g. omega (arith, g)) (λ g. omega (arith, g)) (λ g. omega (arith, g)) (λ g. omega (arith, g))
                                    | inr h6 ↦
                                        elim (tested (between 121 123 n) _ _ o h6) [
                                          | inl e ↦ listed_by n 121 123 (ranged 121 123 n e) (omega arith) (omega arith) (λ g. omega (arith, g)) (λ g. omega (arith, g)) (λ g. omega (arith, g)) (λ g. omega (arith, g))
                                          | inr h7 ↦
                                              elim (tested (between 124 138 n) _ _ o h7) [
                                                | inl e ↦ listed_by n 124 138 (ranged 124 138 n e) (omega arith) (omega arith) (λ g. omega (arith, g)) (λ g. omega (arith, g)) (λ g. omega (arith, g)) (λ g. omega (arith, g))
                                                | inr h8 ↦
                                                    elim (tested (nat_eq n 167) _ _ o h8) [
                                                      | inl e ↦ listed_by n 167 167 (at_69 n 167 (equal n 167 e)) (omega arith) (omega arith) (λ g. omega (arith, g)) (λ g. omega (arith, g)) (λ g. omega (arith, g)) (λ g. omega (arith, g))
                                                      | inr h9 ↦
                                                          elim (tested (between 172 173 n) _ _ o h9) [
                                                            | inl e ↦ listed_by n 172 173 (ranged 172 173 n e) (omega arith) (omega arith) (λ g. omega (arith, g)) (λ g. omega (arith, g)) (λ g. omega (arith, g)) (λ g. omega (arith, g))
                                                            | inr h10 ↦
                                                                elim (tested (between 192 193 n) _ _ o h10) [
                                                                  | inl e ↦ listed_by n 192 193 (ranged 192 193 n e) (omega arith) (omega arith) (λ g. omega (arith, g)) (λ g. omega (arith, g)) (λ g. omega (arith, g)) (λ g. omega (arith, g))
                                                                  | inr h11 ↦
                                                                      elim (tested (between 194 196 n) _ _ o h11) [ inl e ↦ listed_by n 194 196 (ranged 194 196 n e) (omega arith) (omega arith) (λ g. omega (arith, g)) (λ g. omega (arith, g)) (λ g. omega (arith, g)) (λ g. omega (arith, g)) | inr none ↦ cc ]
                                                                ]
                                                          ]
                                                    ]
                                              ]
                                        ]
                                  ]
                            ]
                      ]
                ]
          ]
    ]

pub number_needs : (code : ℕ) (globals values : List ℕ) (marks : Marks) → HasRule (Instr-F.Num code) globals values marks → IsListed code
number_needs code globals values marks h =
    let d = seen (cells h.memory globals values) marks in
    let there = some_there (operator_of code) (λ o. operated o d) h.typed in
    listed code there.0 there.1

found : (b : Bool) (x rest : Option Access) (a : Access) → (if b then x else rest) ≡ Some a → (b ≡ true) ⊎ (rest ≡ Some a)
found true x rest a h = inl refl
found false x rest a h = inr h

pub load_listed : (n : ℕ) (a : Access) → load_of n ≡ Some a → IsLoad n
unfolding load_of
load_listed n a h0 =
    elim (found (nat_eq n 40) _ _ a h0) [
      | inl e ↦ (let s : n ≡ 40 = equal n 40 e in record { first = omega (arith, s); second = λ g. omega (arith, s, g); last = omega (arith, s) })
      | inr h1 ↦
          elim (found (nat_eq n 41) _ _ a h1) [
            | inl e ↦ (let s : n ≡ 41 = equal n 41 e in record { first = omega (arith, s); second = λ g. omega (arith, s, g); last = omega (arith, s) })
            | inr h2 ↦
                elim (found (nat_eq n 44) _ _ a h2) [
                  | inl e ↦ (let s : n ≡ 44 = equal n 44 e in record { first = omega (arith, s); second = λ g. omega (arith, s, g); last = omega (arith, s) })
                  | inr h3 ↦
                      elim (found (nat_eq n 45) _ _ a h3) [
                        | inl e ↦ (let s : n ≡ 45 = equal n 45 e in record { first = omega (arith, s); second = λ g. omega (arith, s, g); last = omega (arith, s) })
                        | inr h4 ↦
                            elim (found (nat_eq n 46) _ _ a h4) [
                              | inl e ↦ (let s : n ≡ 46 = equal n 46 e in record { first = omega (arith, s); second = λ g. omega (arith, s, g); last = omega (arith, s) })
                              | inr h5 ↦
                                  elim (found (nat_eq n 47) _ _ a h5) [
                                    | inl e ↦ (let s : n ≡ 47 = equal n 47 e in record { first = omega (arith, s); second = λ g. omega (arith, s, g); last = omega (arith, s) })
                                    | inr h6 ↦
                                        elim (found (nat_eq n 48) _ _ a h6) [
                                          | inl e ↦ (let s : n ≡ 48 = equal n 48 e in record { first = omega (arith, s); second = λ g. omega (arith, s, g); last = omega (arith, s) })
                                          | inr h7 ↦
                                              elim (found (nat_eq n 49) _ _ a h7) [
                                                | inl e ↦ (let s : n ≡ 49 = equal n 49 e in record { first = omega (arith, s); second = λ g. omega (arith, s, g); last = omega (arith, s) })
                                                | inr h8 ↦
                                                    elim (found (nat_eq n 50) _ _ a h8) [
                                                      | inl e ↦ (let s : n ≡ 50 = equal n 50 e in record { first = omega (arith, s); second = λ g. omega (arith, s, g); last = omega (arith, s) })
                                                      | inr h9 ↦
                                                          elim (found (nat_eq n 51) _ _ a h9) [
                                                            | inl e ↦ (let s : n ≡ 51 = equal n 51 e in record { first = omega (arith, s); second = λ g. omega (arith, s, g); last = omega (arith, s) })
                                                            | inr h10 ↦
                                                                elim (found (nat_eq n 52) _ _ a h10) [
                                                                  | inl e ↦ (let s : n ≡ 52 = equal n 52 e in record { first = omega (arith, s); second = λ g. omega (arith, s, g); last = omega (arith, s) })
                                                                  | inr h11 ↦
                                                                      elim (found (nat_eq n 53) _ _ a h11) [ inl e ↦ (let s : n ≡ 53 = equal n 53 e in record { first = omega (arith, s); second = λ g. omega (arith, s, g); last = omega (arith, s) }) | inr h12 ↦ cc ]
                                                                ]
                                                          ]
                                                    ]
                                              ]
                                        ]
                                  ]
                            ]
                      ]
                ]
          ]
    ]

pub store_listed : (n : ℕ) (a : Access) → store_of n ≡ Some a → IsStoreCode n
unfolding store_of
store_listed n a h0 =
    elim (found (nat_eq n 54) _ _ a h0) [
      | inl e ↦ (let s : n ≡ 54 = equal n 54 e in record { first = omega (arith, s); second = λ g. omega (arith, s, g); last = omega (arith, s) })
      | inr h1 ↦
          elim (found (nat_eq n 55) _ _ a h1) [
            | inl e ↦ (let s : n ≡ 55 = equal n 55 e in record { first = omega (arith, s); second = λ g. omega (arith, s, g); last = omega (arith, s) })
            | inr h2 ↦
                elim (found (nat_eq n 58) _ _ a h2) [
                  | inl e ↦ (let s : n ≡ 58 = equal n 58 e in record { first = omega (arith, s); second = λ g. omega (arith, s, g); last = omega (arith, s) })
                  | inr h3 ↦
                      elim (found (nat_eq n 59) _ _ a h3) [
                        | inl e ↦ (let s : n ≡ 59 = equal n 59 e in record { first = omega (arith, s); second = λ g. omega (arith, s, g); last = omega (arith, s) })
                        | inr h4 ↦
                            elim (found (nat_eq n 60) _ _ a h4) [
                              | inl e ↦ (let s : n ≡ 60 = equal n 60 e in record { first = omega (arith, s); second = λ g. omega (arith, s, g); last = omega (arith, s) })
                              | inr h5 ↦
                                  elim (found (nat_eq n 61) _ _ a h5) [
                                    | inl e ↦ (let s : n ≡ 61 = equal n 61 e in record { first = omega (arith, s); second = λ g. omega (arith, s, g); last = omega (arith, s) })
                                    | inr h6 ↦
                                        elim (found (nat_eq n 62) _ _ a h6) [ inl e ↦ (let s : n ≡ 62 = equal n 62 e in record { first = omega (arith, s); second = λ g. omega (arith, s, g); last = omega (arith, s) }) | inr h7 ↦ cc ]
                                  ]
                            ]
                      ]
                ]
          ]
    ]

-- what an instruction on the memory needs
pub load_needs : (m : Module) (pages code align offset : ℕ) (c : Cells) (marks : Marks) → AreInArray marks (length c.values) → effect_of m pages (Instr-F.Load code align offset) (seen c marks) ≢ Wrong
    → IsLoad code × (marks.floor < marks.sp)
load_needs m pages code align offset c marks w h =
    let d = seen c marks in
    let there = some_there (load_of code) (λ k. with_top Wrong d.values (λ a vs. fetched d k (memory_load d.memory (a + offset) k.width) vs)) h in
    let P : Option Access → Type 0 = λ o. with_some Wrong o (λ k. with_top Wrong d.values (λ a vs. fetched d k (memory_load d.memory (a + offset) k.width) vs)) ≢ Wrong in
    (load_listed code there.0 there.1, one_there marks c.values (λ a vs. fetched d there.0 (memory_load d.memory (a + offset) there.0.width) vs) w (subst P there.1 h))

two_there : (vs : List ℕ) (go : ℕ → ℕ → List ℕ → DataEffect) → with_top Wrong vs (λ v ws. with_top Wrong ws (go v)) ≢ Wrong → 2 ≤ length vs
two_there [] go h = absurd (h refl)
two_there (v ∷ []) go h = absurd (h refl)
two_there (v ∷ b ∷ xs) go h = omega arith

pub store_needs : (m : Module) (pages code align offset : ℕ) (c : Cells) (marks : Marks) → AreInArray marks (length c.values) → effect_of m pages (Instr-F.Store code align offset) (seen c marks) ≢ Wrong
    → IsStoreCode code × (marks.floor + 2 ≤ marks.sp)
store_needs m pages code align offset c marks w h =
    let d = seen c marks in
    let go = λ (k : Access) (v a : ℕ) (ws : List ℕ). written d (memory_store d.memory (a + offset) k.width v) ws in
    let there = some_there (store_of code) (λ k. with_top Wrong d.values (λ v vs. with_top Wrong vs (go k v))) h in
    let P : Option Access → Type 0 = λ o. with_some Wrong o (λ k. with_top Wrong d.values (λ v vs. with_top Wrong vs (go k v))) ≢ Wrong in
    let some = two_there d.values (go there.0) (subst P there.1 h) in
    (store_listed code there.0 there.1, omega (arith, some, length_operands marks.floor marks.sp c.values w.room))

pub grow_needs : (m : Module) (pages : ℕ) (c : Cells) (marks : Marks) → AreInArray marks (length c.values) → effect_of m pages Instr-F.MemoryGrow (seen c marks) ≢ Wrong → marks.floor < marks.sp
grow_needs m pages c marks w h = one_there marks c.values _ w h

pub copy_needs : (m : Module) (pages : ℕ) (c : Cells) (marks : Marks) → AreInArray marks (length c.values) → effect_of m pages Instr-F.MemoryCopy (seen c marks) ≢ Wrong → marks.floor + 3 ≤ marks.sp
copy_needs m pages c marks w h = omega (arith, three_there (operands_in marks.floor marks.sp c.values) _ h, length_operands marks.floor marks.sp c.values w.room)

pub fill_needs : (m : Module) (pages : ℕ) (c : Cells) (marks : Marks) → AreInArray marks (length c.values) → effect_of m pages Instr-F.MemoryFill (seen c marks) ≢ Wrong → marks.floor + 3 ≤ marks.sp
fill_needs m pages c marks w h = omega (arith, three_there (operands_in marks.floor marks.sp c.values) _ h, length_operands marks.floor marks.sp c.values w.room)

pub carried_memory : (i : Instr) (y : Layer) (m : Module) (pages : ℕ) (memory memory' : Contents) (globals old new : List ℕ) (marks : Marks) (answer : Moved) → layer i ≡ y → page_limit m ≡ memory.maximum
    → CarriesMemory y pages memory memory' old new marks answer
    → Does (effect_of m pages (layer i) (seen (cells memory.bytes globals old) marks)) (cells memory.bytes globals old) (cells memory'.bytes globals new) marks answer
carried_memory i y m pages memory memory' globals old new marks answer is limit h =
    let P : Layer → Type 0 = λ y. Does (effect_of m pages y (seen (cells memory.bytes globals old) marks)) (cells memory.bytes globals old) (cells memory'.bytes globals new) marks answer in
    subst P (sym is) (h m globals limit)
