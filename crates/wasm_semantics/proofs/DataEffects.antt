-- Instructions that only move data.
use Rattle.std.proofs.Common.{◌≡◌, ◌+◌, ℕ, List, ◌∷◌, ◌++◌, length, min, refl, sym, ap, subst, ◌∙◌, arith, lit<}
use Rattle.std.specs.Prelude.{Option, Some, None, IfSome, slice_get, slice_set, nat_eq}
use Rattle.std.specs.Option.{option_map}
use Rattle.std.proofs.lemmas.Option.{slice_get-map}
use Rattle.wasm_ast.specs.declared.val_types.ValType.{ValType}
use Rattle.wasm_ast.specs.declared.val_types.ValType.TheVariants.{I32}
use Rattle.wasm_ast.specs.declared.trees.Instr.TheOpen.{Instr-F}
use Rattle.wasm_ast.specs.Trees.{Layer}
use Rattle.wasm_ast.specs.declared.modules.Module.{Module}
use Rattle.wasm_ast.specs.declared.memory_types.MemoryType.{MemoryType}
use Rattle.wasm_ast.specs.declared.global_vars.GlobalVar.{GlobalVar}
use Rattle.wasm_ast.specs.Spaces.{global_types, memory_of, greatest_pages, page_limit}
use Rattle.wasm_ast.specs.Operators.{Access, load_of, store_of, OperatorType}
use Rattle.wasm_ast.specs.Bytes.{in_pages}
use Rattle.wasm_ast.specs.Memory.{memory_load, memory_store, memory_grow, memory_copy, memory_fill}
use Rattle.wasm_ast.specs.Typing.{Context, Plain}
use Rattle.wasm_semantics.specs.Operators.{operator_of, type_of_operator, compute, Computed, Number, Fails, Missing, read_as}
use Rattle.wasm_semantics.specs.Data.{Data, DataEffect, Moves, Traps, Wrong, with_top, split, moves, computed, chosen, fetched, written, sized, effect_of}
use Rattle.wasm_semantics.specs.OfModule.{Fits, Holds, IsMemory}
use Rattle.wasm_semantics.proofs.Values.{holds_get, holds_set}
use Rattle.wasm_semantics.proofs.Combinators.{top_rule, some_rule, if_rule, split_rule}
use Rattle.wasm_semantics.proofs.Numbers.{NumFine, compute_fine, operator_typed}
use Rattle.wasm_semantics.proofs.Memories.{AsLong, Grew, read_fits, store_as_long, copy_as_long, fill_as_long, grow_grew}

pub record IsData (c : Context) (ts : List ValType) (d : Data) : Type 0 where
  pub memory : IsMemory (memory_of c.program) d.memory
  pub globals : Holds (global_types c.program) d.globals
  pub locals : Holds c.locals d.locals
  pub values : Holds ts d.values

abbrev pub Fine : Context → List ValType → DataEffect → Type 0
Fine c ts (Moves d) = IsData c ts d
Fine c ts (Traps t) = Unit {0}
Fine c ts Wrong = ⊥

-- the data at an instruction
pub record At (c : Context) (labels : List (List ValType)) (d : Data) (y : Layer) (after : List ValType) : Type 0 where
  pub before : List ValType
  pub here : IsData c before d
  pub plain : Plain c labels y before after

puts : (c : Context) (ts us : List ValType) (d : Data) → IsData c ts d → (values : List ℕ) → Holds us values → Fine c us (moves d values)
puts c ts us d x values h = record { memory = x.memory; globals = x.globals; locals = x.locals; values = h }

-- constants and operands
nop_fine : (c : Context) (labels : List (List ValType)) (pages : ℕ) (d : Data) (after : List ValType) (x : At c labels d Instr-F.Nop after) → Fine c after (effect_of c.program pages Instr-F.Nop d)
nop_fine c labels pages d after x = puts c x.before after d x.here d.values (subst (λ ts. Holds ts d.values) (sym x.plain) x.here.values)

const_fine : (c : Context) (labels : List (List ValType)) (pages : ℕ) (d : Data) (after : List ValType) (n : ℕ) (x : At c labels d (Instr-F.I32Const n) after)
    → Fine c after (effect_of c.program pages (Instr-F.I32Const n) d)
const_fine c labels pages d after n x = puts c x.before after d x.here (n ∷ d.values) (subst (λ ts. Holds ts (n ∷ d.values)) (sym x.plain.1) (x.plain.0, x.here.values))

const64_fine : (c : Context) (labels : List (List ValType)) (pages : ℕ) (d : Data) (after : List ValType) (n : ℕ) (x : At c labels d (Instr-F.I64Const n) after)
    → Fine c after (effect_of c.program pages (Instr-F.I64Const n) d)
const64_fine c labels pages d after n x = puts c x.before after d x.here (n ∷ d.values) (subst (λ ts. Holds ts (n ∷ d.values)) (sym x.plain.1) (x.plain.0, x.here.values))

drop_fine : (c : Context) (labels : List (List ValType)) (pages : ℕ) (d : Data) (after : List ValType) (x : At c labels d Instr-F.Drop after) → Fine c after (effect_of c.program pages Instr-F.Drop d)
drop_fine c labels pages d after x =
    top_rule (Fine c after) Wrong x.plain.0 after d.values (λ v vs. moves d vs) (subst (λ ts. Holds ts d.values) x.plain.1 x.here.values) (λ v vs fv hv. puts c x.before after d x.here vs hv)

select_fine : (c : Context) (labels : List (List ValType)) (pages : ℕ) (d : Data) (after : List ValType) (x : At c labels d Instr-F.Select after) → Fine c after (effect_of c.program pages Instr-F.Select d)
select_fine c labels pages d after x =
    let t = x.plain.0 in
    let below = x.plain.1.0 in
    top_rule (Fine c after) Wrong I32 (t ∷ (t ∷ below)) d.values (λ v vs. with_top Wrong vs (λ b ws. with_top Wrong ws (λ a xs. moves d (chosen v a b ∷ xs))))
    (subst (λ ts. Holds ts d.values) x.plain.1.1 x.here.values)
    (λ v vs fv hv. top_rule (Fine c after) Wrong t (t ∷ below) vs (λ b ws. with_top Wrong ws (λ a xs. moves d (chosen v a b ∷ xs))) hv
    (λ b ws fb hb. top_rule (Fine c after) Wrong t below ws (λ a xs. moves d (chosen v a b ∷ xs)) hb
    (λ a xs fa ha. puts c x.before after d x.here (chosen v a b ∷ xs)
    (subst (λ ts. Holds ts (chosen v a b ∷ xs)) (sym x.plain.1.2) (if_rule (λ n. Fits t n) (nat_eq v 0) b a (λ e. fb) (λ e. fa), ha)))))

-- locals and globals
local_get_fine : (c : Context) (labels : List (List ValType)) (pages : ℕ) (d : Data) (after : List ValType) (n : ℕ) (x : At c labels d (Instr-F.LocalGet n) after)
    → Fine c after (effect_of c.program pages (Instr-F.LocalGet n) d)
local_get_fine c labels pages d after n x =
    let g = holds_get c.locals d.locals n x.plain.0 x.here.locals x.plain.1 in
    some_rule (Fine c after) Wrong (slice_get d.locals n) g.0 (λ v. moves d (v ∷ d.values)) g.1
    (puts c x.before after d x.here (g.0 ∷ d.values) (subst (λ ts. Holds ts (g.0 ∷ d.values)) (sym x.plain.2) (g.2, x.here.values)))

local_set_fine : (c : Context) (labels : List (List ValType)) (pages : ℕ) (d : Data) (after : List ValType) (n : ℕ) (x : At c labels d (Instr-F.LocalSet n) after)
    → Fine c after (effect_of c.program pages (Instr-F.LocalSet n) d)
local_set_fine c labels pages d after n x =
    let g = holds_get c.locals d.locals n x.plain.0 x.here.locals x.plain.1 in
    let go = λ (v : ℕ) (vs : List ℕ). Moves (record { memory = d.memory; globals = d.globals; locals = slice_set d.locals n v; values = vs }) in
    some_rule (Fine c after) Wrong (slice_get d.locals n) g.0 (λ old. with_top Wrong d.values go) g.1
    (top_rule (Fine c after) Wrong x.plain.0 after d.values go (subst (λ ts. Holds ts d.values) x.plain.2 x.here.values)
    (λ v vs fv hv. record { memory = x.here.memory; globals = x.here.globals; locals = holds_set c.locals d.locals n x.plain.0 v x.here.locals x.plain.1 fv; values = hv }))

local_tee_fine : (c : Context) (labels : List (List ValType)) (pages : ℕ) (d : Data) (after : List ValType) (n : ℕ) (x : At c labels d (Instr-F.LocalTee n) after)
    → Fine c after (effect_of c.program pages (Instr-F.LocalTee n) d)
local_tee_fine c labels pages d after n x =
    let t = x.plain.0 in
    let below = x.plain.2.0 in
    let g = holds_get c.locals d.locals n t x.here.locals x.plain.1 in
    let go = λ (v : ℕ) (vs : List ℕ). Moves (record { memory = d.memory; globals = d.globals; locals = slice_set d.locals n v; values = v ∷ vs }) in
    some_rule (Fine c after) Wrong (slice_get d.locals n) g.0 (λ old. with_top Wrong d.values go) g.1
    (top_rule (Fine c after) Wrong t below d.values go (subst (λ ts. Holds ts d.values) x.plain.2.1 x.here.values)
    (λ v vs fv hv. record {
      memory = x.here.memory;
      globals = x.here.globals;
      locals = holds_set c.locals d.locals n t v x.here.locals x.plain.1 fv;
      values = subst (λ ts. Holds ts (v ∷ vs)) (sym x.plain.2.2) (fv, hv);
    }))

kind_at : (m : Module) (n : ℕ) (g : GlobalVar) → slice_get m.globals n ≡ Some g → slice_get (global_types m) n ≡ Some g.val_type
kind_at m n g e = slice_get-map (λ (h : GlobalVar). h.val_type) m.globals n ∙ ap (option_map (λ (h : GlobalVar). h.val_type)) e

global_get_fine : (c : Context) (labels : List (List ValType)) (pages : ℕ) (d : Data) (after : List ValType) (n : ℕ) (x : At c labels d (Instr-F.GlobalGet n) after)
    → Fine c after (effect_of c.program pages (Instr-F.GlobalGet n) d)
global_get_fine c labels pages d after n x =
    let g = holds_get (global_types c.program) d.globals n x.plain.0.val_type x.here.globals (kind_at c.program n x.plain.0 x.plain.1) in
    some_rule (Fine c after) Wrong (slice_get d.globals n) g.0 (λ v. moves d (v ∷ d.values)) g.1
    (puts c x.before after d x.here (g.0 ∷ d.values) (subst (λ ts. Holds ts (g.0 ∷ d.values)) (sym x.plain.2) (g.2, x.here.values)))

global_set_fine : (c : Context) (labels : List (List ValType)) (pages : ℕ) (d : Data) (after : List ValType) (n : ℕ) (x : At c labels d (Instr-F.GlobalSet n) after)
    → Fine c after (effect_of c.program pages (Instr-F.GlobalSet n) d)
global_set_fine c labels pages d after n x =
    let t = x.plain.0.val_type in
    let at = kind_at c.program n x.plain.0 x.plain.1 in
    let g = holds_get (global_types c.program) d.globals n t x.here.globals at in
    let go = λ (v : ℕ) (vs : List ℕ). Moves (record { memory = d.memory; globals = slice_set d.globals n v; locals = d.locals; values = vs }) in
    some_rule (Fine c after) Wrong (slice_get d.globals n) g.0 (λ old. with_top Wrong d.values go) g.1
    (top_rule (Fine c after) Wrong t after d.values go (subst (λ ts. Holds ts d.values) x.plain.3 x.here.values)
    (λ v vs fv hv. record { memory = x.here.memory; globals = holds_set (global_types c.program) d.globals n t v x.here.globals at fv; locals = x.here.locals; values = hv }))

-- numbers
computed_fine : (c : Context) (ts us : List ValType) (t : ValType) (d : Data) → IsData c ts d → (below : List ℕ) → Holds us below → (r : Computed) → NumFine t r → Fine c (t ∷ us) (computed d below r)
computed_fine c ts us t d x below h (Number n) f = puts c ts (t ∷ us) d x (n ∷ below) (f, h)
computed_fine c ts us t d x below h (Fails trap) f = tt
computed_fine c ts us t d x below h Missing f = absurd f

num_fine : (c : Context) (labels : List (List ValType)) (pages : ℕ) (d : Data) (after : List ValType) (n : ℕ) (x : At c labels d (Instr-F.Num n) after)
    → Fine c after (effect_of c.program pages (Instr-F.Num n) d)
num_fine c labels pages d after n x =
    let found = operator_typed n x.plain.0 x.plain.1 in
    let op = found.0 in
    let o = type_of_operator op in
    let below = x.plain.2.0 in
    subst (λ ts. Fine c ts (effect_of c.program pages (Instr-F.Num n) d)) (sym (x.plain.2.2 ∙ ap (λ (k : OperatorType). k.leaves ∷ below) (sym found.2)))
    (some_rule (Fine c (o.leaves ∷ below)) Wrong (operator_of n) op (λ op. split Wrong (length (type_of_operator op).takes) d.values (λ args rest. computed d rest (compute op args))) found.1
    (split_rule (Fine c (o.leaves ∷ below)) Wrong (length o.takes) o.takes below d.values (λ args rest. computed d rest (compute op args))
    (subst (λ ts. Holds ts d.values) (x.plain.2.1 ∙ ap (λ (k : OperatorType). k.takes ++ below) (sym found.2)) x.here.values) refl
    (λ args rest ha hr. computed_fine c x.before below o.leaves d x.here rest hr (compute op args) (compute_fine op args ha))))

-- memory
memory_kept : (o : Option MemoryType) (t : MemoryType) (a b : List ℕ) → o ≡ Some t → AsLong a b → IsMemory o a → IsMemory o b
memory_kept None t a b e l h = cc
memory_kept (Some k) t a b e l h = (h.0, l ∙ h.1, h.2, h.3)

fetched_fine : (c : Context) (ts us : List ValType) (d : Data) → IsData c ts d → (a : Access) (o : Option ℕ) (below : List ℕ) → Holds us below → Fine c (a.val_type ∷ us) (fetched d a o below)
fetched_fine c ts us d x a None below h = tt
fetched_fine c ts us d x a (Some n) below h = puts c ts (a.val_type ∷ us) d x (read_as a n ∷ below) (read_fits a n, h)

written_fine : (c : Context) (ts us : List ValType) (t : MemoryType) (d : Data) → IsData c ts d → memory_of c.program ≡ Some t → (o : Option (List ℕ)) → IfSome o (AsLong d.memory) → (below : List ℕ) → Holds us below
    → Fine c us (written d o below)
written_fine c ts us t d x e None l below h = tt
written_fine c ts us t d x e (Some memory) l below h = record { memory = memory_kept (memory_of c.program) t d.memory memory e l x.memory; globals = x.globals; locals = x.locals; values = h }

load_fine : (c : Context) (labels : List (List ValType)) (pages : ℕ) (d : Data) (after : List ValType) (op align offset : ℕ) (x : At c labels d (Instr-F.Load op align offset) after)
    → Fine c after (effect_of c.program pages (Instr-F.Load op align offset) d)
load_fine c labels pages d after op align offset x =
    let k = x.plain.0 in
    let below = x.plain.4.0 in
    some_rule (Fine c after) Wrong (load_of op) k (λ k. with_top Wrong d.values (λ a vs. fetched d k (memory_load d.memory (a + offset) k.width) vs)) x.plain.1
    (top_rule (Fine c after) Wrong I32 below d.values (λ a vs. fetched d k (memory_load d.memory (a + offset) k.width) vs) (subst (λ ts. Holds ts d.values) x.plain.4.1 x.here.values)
    (λ a vs fa hv. subst (λ ts. Fine c ts (fetched d k (memory_load d.memory (a + offset) k.width) vs)) (sym x.plain.4.2)
    (fetched_fine c x.before below d x.here k (memory_load d.memory (a + offset) k.width) vs hv)))

store_fine : (c : Context) (labels : List (List ValType)) (pages : ℕ) (d : Data) (after : List ValType) (op align offset : ℕ) (x : At c labels d (Instr-F.Store op align offset) after)
    → Fine c after (effect_of c.program pages (Instr-F.Store op align offset) d)
store_fine c labels pages d after op align offset x =
    let k = x.plain.0 in
    let go = λ (k : Access) (v a : ℕ) (ws : List ℕ). written d (memory_store d.memory (a + offset) k.width v) ws in
    some_rule (Fine c after) Wrong (store_of op) k (λ k. with_top Wrong d.values (λ v vs. with_top Wrong vs (go k v))) x.plain.1
    (top_rule (Fine c after) Wrong k.val_type (I32 ∷ after) d.values (λ v vs. with_top Wrong vs (go k v)) (subst (λ ts. Holds ts d.values) x.plain.4 x.here.values)
    (λ v vs fv hv. top_rule (Fine c after) Wrong I32 after vs (go k v) hv
    (λ a ws fa ha.
    written_fine c x.before after x.plain.3.0 d x.here x.plain.3.1 (memory_store d.memory (a + offset) k.width v) (store_as_long d.memory (a + offset) k.width v) ws ha)))

copy_fine : (c : Context) (labels : List (List ValType)) (pages : ℕ) (d : Data) (after : List ValType) (x : At c labels d Instr-F.MemoryCopy after) → Fine c after (effect_of c.program pages Instr-F.MemoryCopy d)
copy_fine c labels pages d after x =
    let go = λ (n from to : ℕ) (xs : List ℕ). written d (memory_copy d.memory to from n) xs in
    top_rule (Fine c after) Wrong I32 (I32 ∷ (I32 ∷ after)) d.values (λ n vs. with_top Wrong vs (λ from ws. with_top Wrong ws (go n from))) (subst (λ ts. Holds ts d.values) x.plain.2 x.here.values)
    (λ n vs fn hv. top_rule (Fine c after) Wrong I32 (I32 ∷ after) vs (λ from ws. with_top Wrong ws (go n from)) hv
    (λ from ws ff hw. top_rule (Fine c after) Wrong I32 after ws (go n from) hw
    (λ to xs ft hx. written_fine c x.before after x.plain.0 d x.here x.plain.1 (memory_copy d.memory to from n) (copy_as_long d.memory to from n) xs hx)))

fill_fine : (c : Context) (labels : List (List ValType)) (pages : ℕ) (d : Data) (after : List ValType) (x : At c labels d Instr-F.MemoryFill after) → Fine c after (effect_of c.program pages Instr-F.MemoryFill d)
fill_fine c labels pages d after x =
    let go = λ (n v at : ℕ) (xs : List ℕ). written d (memory_fill d.memory at v n) xs in
    top_rule (Fine c after) Wrong I32 (I32 ∷ (I32 ∷ after)) d.values (λ n vs. with_top Wrong vs (λ v ws. with_top Wrong ws (go n v))) (subst (λ ts. Holds ts d.values) x.plain.2 x.here.values)
    (λ n vs fn hv. top_rule (Fine c after) Wrong I32 (I32 ∷ after) vs (λ v ws. with_top Wrong ws (go n v)) hv
    (λ v ws fv hw. top_rule (Fine c after) Wrong I32 after ws (go n v) hw
    (λ at xs fa hx. written_fine c x.before after x.plain.0 d x.here x.plain.1 (memory_fill d.memory at v n) (fill_as_long d.memory at v n) xs hx)))

size_fits : (t : MemoryType) (bytes : List ℕ) → IsMemory (Some t) bytes → Fits I32 (in_pages bytes)
size_fits t bytes h =
    let long = h.1 in
    let most = h.3 in
    omega arith

size_fine : (c : Context) (labels : List (List ValType)) (pages : ℕ) (d : Data) (after : List ValType) (x : At c labels d Instr-F.MemorySize after) → Fine c after (effect_of c.program pages Instr-F.MemorySize d)
size_fine c labels pages d after x =
    puts c x.before after d x.here (in_pages d.memory ∷ d.values)
    (subst (λ ts. Holds ts (in_pages d.memory ∷ d.values)) (sym x.plain.2) (size_fits x.plain.0 d.memory (subst (λ o. IsMemory o d.memory) x.plain.1 x.here.memory), x.here.values))

grown_is : (o : Option MemoryType) (t : MemoryType) (pages n : ℕ) (old new : List ℕ) → o ≡ Some t → IsMemory o old → Grew (min pages (greatest_pages o)) old n new → IsMemory o new
grown_is None t pages n old new e h g = cc
grown_is (Some k) t pages n old new e h g =
    let long = h.1 in
    let least = h.2 in
    let longer = g.length in
    let most = g.within in
    (h.0 + n, omega arith, omega arith, omega arith)

sized_fine : (c : Context) (ts us : List ValType) (t : MemoryType) (pages n : ℕ) (d : Data) → IsData c ts d → memory_of c.program ≡ Some t → (o : Option (List ℕ))
    → IfSome o (Grew (min pages (page_limit c.program)) d.memory n) → (below : List ℕ) → Holds us below → Fine c (I32 ∷ us) (sized d o below)
sized_fine c ts us t pages n d x e None g below h = puts c ts (I32 ∷ us) d x (4294967295 ∷ below) (lit< tt, h)
sized_fine c ts us t pages n d x e (Some memory) g below h = record {
  memory = grown_is (memory_of c.program) t pages n d.memory memory e x.memory g;
  globals = x.globals;
  locals = x.locals;
  values = (size_fits t d.memory (subst (λ o. IsMemory o d.memory) e x.memory), h);
}

grow_fine : (c : Context) (labels : List (List ValType)) (pages : ℕ) (d : Data) (after : List ValType) (x : At c labels d Instr-F.MemoryGrow after) → Fine c after (effect_of c.program pages Instr-F.MemoryGrow d)
grow_fine c labels pages d after x =
    let below = x.plain.2.0 in
    let go = λ (v : ℕ) (vs : List ℕ). sized d (memory_grow (min pages (page_limit c.program)) d.memory v) vs in
    top_rule (Fine c after) Wrong I32 below d.values go (subst (λ ts. Holds ts d.values) x.plain.2.1 x.here.values)
    (λ v vs fv hv. subst (λ ts. Fine c ts (go v vs)) (sym x.plain.2.2)
    (sized_fine c x.before below x.plain.0 pages v d x.here x.plain.1 (memory_grow (min pages (page_limit c.program)) d.memory v) (grow_grew (min pages (page_limit c.program)) d.memory v) vs hv))

abbrev pub IsOnData : Layer → Type 0
IsOnData Instr-F.Unreachable = ⊥
IsOnData (Instr-F.Block bt s) = ⊥
IsOnData (Instr-F.Loop bt s) = ⊥
IsOnData (Instr-F.If bt s r) = ⊥
IsOnData (Instr-F.Br n) = ⊥
IsOnData (Instr-F.BrIf n) = ⊥
IsOnData (Instr-F.BrTable ns n) = ⊥
IsOnData Instr-F.Return = ⊥
IsOnData (Instr-F.Call n) = ⊥
IsOnData (Instr-F.CallIndirect n) = ⊥
IsOnData _ = Unit {0}

pub data_fine : (c : Context) (labels : List (List ValType)) (pages : ℕ) (d : Data) (after : List ValType) (y : Layer) (x : At c labels d y after) → IsOnData y → Fine c after (effect_of c.program pages y d)
data_fine c labels pages d after Instr-F.Nop x h = nop_fine c labels pages d after x
data_fine c labels pages d after Instr-F.Drop x h = drop_fine c labels pages d after x
data_fine c labels pages d after Instr-F.Select x h = select_fine c labels pages d after x
data_fine c labels pages d after (Instr-F.LocalGet n) x h = local_get_fine c labels pages d after n x
data_fine c labels pages d after (Instr-F.LocalSet n) x h = local_set_fine c labels pages d after n x
data_fine c labels pages d after (Instr-F.LocalTee n) x h = local_tee_fine c labels pages d after n x
data_fine c labels pages d after (Instr-F.GlobalGet n) x h = global_get_fine c labels pages d after n x
data_fine c labels pages d after (Instr-F.GlobalSet n) x h = global_set_fine c labels pages d after n x
data_fine c labels pages d after (Instr-F.Load op a n) x h = load_fine c labels pages d after op a n x
data_fine c labels pages d after (Instr-F.Store op a n) x h = store_fine c labels pages d after op a n x
data_fine c labels pages d after Instr-F.MemorySize x h = size_fine c labels pages d after x
data_fine c labels pages d after Instr-F.MemoryGrow x h = grow_fine c labels pages d after x
data_fine c labels pages d after Instr-F.MemoryCopy x h = copy_fine c labels pages d after x
data_fine c labels pages d after Instr-F.MemoryFill x h = fill_fine c labels pages d after x
data_fine c labels pages d after (Instr-F.I32Const n) x h = const_fine c labels pages d after n x
data_fine c labels pages d after (Instr-F.I64Const n) x h = const64_fine c labels pages d after n x
data_fine c labels pages d after (Instr-F.Num n) x h = num_fine c labels pages d after n x
data_fine c labels pages d after (Instr-F.FloatMemory op a n) x h = absurd x.plain
data_fine c labels pages d after (Instr-F.F32Const n) x h = absurd x.plain
data_fine c labels pages d after (Instr-F.F64Const n) x h = absurd x.plain
data_fine c labels pages d after (Instr-F.FloatOp op) x h = absurd x.plain
data_fine c labels pages d after _ x h = absurd h
