-- An instruction that moves data, at the innermost level.
use Rattle.std.proofs.Common.{◌≡◌, ◌≢◌, ℕ, ◌≤◌, List, [], ◌∷◌, ◌++◌, length, drop, refl, sym, ap, subst, ◌∙◌, arith, length-append}
use Rattle.std.specs.Prelude.{Option}
use Rattle.std.proofs.lemmas.List.{append-nil}
use Rattle.wasm_ast.specs.declared.val_types.ValType.{ValType}
use Rattle.wasm_ast.specs.declared.trees.Instr.{Instr}
use Rattle.wasm_ast.specs.declared.trees.Instr.TheOpen.{Instr-F}
use Rattle.wasm_ast.specs.declared.modules.Module.{Module}
use Rattle.wasm_ast.specs.Trees.{Layer}
use Rattle.wasm_semantics.specs.declared.traps.Trap.{Trap}
use Rattle.wasm_semantics.specs.Operators.{truth}
use Rattle.wasm_semantics.specs.Threads.{Level, Frame, Goes}
use Rattle.wasm_semantics.specs.Data.{Data, DataEffect, Moves, Traps, Wrong, effect_of}
use Rattle.wasm_semantics.specs.Control.{Spot, thread_at, spot_with}
use Rattle.wasm_semantics.specs.Units.{act, applied, data_of}
use Rattle.wasm_semantics.specs.Operands.{LieOnTop}
use Rattle.wasm_semantics.specs.OfModule.{Holds}
use Rattle.wasm_semantics.specs.Laws.{deeper, lifted}
use Rattle.wasm_semantics.proofs.DeeperOperands.{effect_flat}
use Rattle.wasm_data.specs.Cuts.{under}
use Rattle.wasm_blocks.specs.declared.open.Open.{Open}
use Rattle.wasm_blocks.specs.Levels.{Around, rest_of, first_of, values_in, level_in, levels_in, spot_in}
use Rattle.wasm_blocks.proofs.Cuts.{above_cut, under_cut, cut_whole, length_under}
use Rattle.wasm_blocks.proofs.Levels.{height_of, take_kept}

abbrev pub IsData : Layer → Type 0
IsData Instr-F.Unreachable = ⊥
IsData (Instr-F.Block bt body) = ⊥
IsData (Instr-F.Loop bt body) = ⊥
IsData (Instr-F.If bt first second) = ⊥
IsData (Instr-F.Br n) = ⊥
IsData (Instr-F.BrIf n) = ⊥
IsData (Instr-F.BrTable ns n) = ⊥
IsData Instr-F.Return = ⊥
IsData (Instr-F.Call x) = ⊥
IsData (Instr-F.CallIndirect k) = ⊥
IsData _ = Unit {0}

pub act_data : (m : Module) (pages : ℕ) (i : Instr) (y : Layer) (p : Spot) → IsData y → act m pages i y p ≡ applied p (effect_of m pages y (data_of p))
act_data m pages i Instr-F.Unreachable p d = absurd d
act_data m pages i (Instr-F.Block bt body) p d = absurd d
act_data m pages i (Instr-F.Loop bt body) p d = absurd d
act_data m pages i (Instr-F.If bt first second) p d = absurd d
act_data m pages i (Instr-F.Br n) p d = absurd d
act_data m pages i (Instr-F.BrIf n) p d = absurd d
act_data m pages i (Instr-F.BrTable ns n) p d = absurd d
act_data m pages i Instr-F.Return p d = absurd d
act_data m pages i (Instr-F.Call x) p d = absurd d
act_data m pages i (Instr-F.CallIndirect k) p d = absurd d
act_data m pages i _ p d = refl

-- what lies below the innermost level's operands
abbrev pub deep_of : List Open → List ℕ → List ℕ
deep_of [] operands = []
deep_of (o ∷ os) operands = under o.height operands

pub values_whole : (own : List Open) (ops : List ℕ) → values_in own ops ++ deep_of own ops ≡ ops
values_whole [] ops = append-nil ops
values_whole (o ∷ os) ops = cut_whole o.height ops

abbrev spot_by : Around → Level → List Level → Spot
spot_by a l ls = record { store = a.store; locals = a.locals; gives = a.gives; frames = a.frames; level = l; levels = ls }

abbrev level_by : List ℕ → List Instr → ℕ → List Instr → Level
level_by vs code keeps target = record { values = vs; code = code; keeps = keeps; target = target }

-- other operands of the innermost level, over the same
pub spot_moved : (a : Around) (code : List Instr) (nexts : List (List Instr)) (own : List Open) (ops more : List ℕ) → height_of own ≤ length ops
    → spot_in a code nexts own (more ++ deep_of own ops) ≡ spot_with (spot_in a code nexts own ops) more code
spot_moved a code nexts [] ops more le = ap (λ xs. spot_by a (level_by xs code 0 []) []) (append-nil more)
spot_moved a code nexts (o ∷ os) ops more le =
    let w = under o.height ops in
    let long : length w ≡ o.height = length_under o.height ops le in
    let below = λ (xs : List ℕ). level_in (rest_of o.loops (first_of nexts)) (drop 1 nexts) os xs ∷ levels_in (drop 1 nexts) os xs in
    ap (λ xs. spot_by a (level_by xs code (truth o.keeps) (first_of nexts)) (below (under o.height (more ++ w)))) (above_cut more w o.height long)
    ∙ ap (λ xs. spot_by a (level_by more code (truth o.keeps) (first_of nexts)) (below xs)) (under_cut more w o.height long)

moves_same : (a b : Data) → Moves a ≡ Moves b → a ≡ b
moves_same a b h = cc

lifted_moves : (w : List ℕ) (e : DataEffect) (d : Data) → lifted w e ≡ Moves d → (d' : Data) × (e ≡ Moves d') × (deeper d' w ≡ d)
lifted_moves w (Moves x) d h = (x, refl, moves_same (deeper x w) d h)
lifted_moves w (Traps t) d h = cc
lifted_moves w Wrong d h = cc

lifted_traps : (w : List ℕ) (e : DataEffect) (t : Trap) → lifted w e ≡ Traps t → e ≡ Traps t
lifted_traps w (Moves x) t h = cc
lifted_traps w (Traps s) t h = h
lifted_traps w Wrong t h = cc

lifted_wrong : (w : List ℕ) (e : DataEffect) → lifted w e ≡ Wrong → e ≡ Wrong
lifted_wrong w (Moves x) h = cc
lifted_wrong w (Traps t) h = cc
lifted_wrong w Wrong h = refl

abbrev pub data_by : Around → List ℕ → Data
data_by a values = record { memory = a.store.memory; globals = a.store.globals; locals = a.locals; values = values }

seen_whole : (a : Around) (own : List Open) (ops : List ℕ) → deeper (data_by a (values_in own ops)) (deep_of own ops) ≡ data_by a ops
seen_whole a own ops = ap (data_by a) (values_whole own ops)

flat : (m : Module) (pages : ℕ) (y : Layer) (a : Around) (own : List Open) (ops : List ℕ) → effect_of m pages y (data_by a (values_in own ops)) ≢ Wrong
    → effect_of m pages y (data_by a ops) ≡ lifted (deep_of own ops) (effect_of m pages y (data_by a (values_in own ops)))
flat m pages y a own ops t = ap (effect_of m pages y) (sym (seen_whole a own ops)) ∙ effect_flat m pages y (data_by a (values_in own ops)) (deep_of own ops) t

pub whole_typed : (m : Module) (pages : ℕ) (y : Layer) (a : Around) (own : List Open) (ops : List ℕ) → effect_of m pages y (data_by a (values_in own ops)) ≢ Wrong → effect_of m pages y (data_by a ops) ≢ Wrong
whole_typed m pages y a own ops t wrong = t (lifted_wrong (deep_of own ops) (effect_of m pages y (data_by a (values_in own ops))) (sym (flat m pages y a own ops t) ∙ wrong))

pub traps_whole : (m : Module) (pages : ℕ) (y : Layer) (a : Around) (own : List Open) (ops : List ℕ) (t : Trap) → effect_of m pages y (data_by a (values_in own ops)) ≢ Wrong
    → effect_of m pages y (data_by a ops) ≡ Traps t → effect_of m pages y (data_by a (values_in own ops)) ≡ Traps t
traps_whole m pages y a own ops t h e = lifted_traps (deep_of own ops) (effect_of m pages y (data_by a (values_in own ops))) t (sym (flat m pages y a own ops h) ∙ e)

-- the data move
pub moves_whole : (m : Module) (pages : ℕ) (y : Layer) (a b : Around) (code : List Instr) (nexts : List (List Instr)) (own : List Open) (ops ops' : List ℕ) → height_of own ≤ length ops
    → effect_of m pages y (data_by a (values_in own ops)) ≢ Wrong → effect_of m pages y (data_by a ops) ≡ Moves (data_by b ops')
    → b.store.table ≡ a.store.table → b.gives ≡ a.gives → b.frames ≡ a.frames
    → (applied (spot_in a code nexts own ops) (effect_of m pages y (data_by a (values_in own ops))) ≡ Goes (thread_at (spot_in b code nexts own ops'))) × (length (deep_of own ops) ≤ length ops')
moves_whole m pages y a b code nexts own ops ops' le t e table gives frames =
    let w = deep_of own ops in
    let d = data_by a (values_in own ops) in
    let f = lifted_moves w (effect_of m pages y d) (data_by b ops') (sym (flat m pages y a own ops t) ∙ e) in
    let x = f.0 in
    let p = spot_in a code nexts own ops in
    let by = λ (memory globals : List ℕ) (table : List (Option ℕ)) (locals : List ℕ) (gives : ℕ) (fs : List Frame) (vs : List ℕ).
    Goes (thread_at (spot_in (record { store = record { memory = memory; globals = globals; table = table }; locals = locals; gives = gives; frames = fs }) code nexts own vs)) in
    let around : Around = record { store = record { memory = x.memory; globals = x.globals; table = a.store.table }; locals = x.locals; gives = a.gives; frames = a.frames } in
    let values_now : x.values ++ w ≡ ops' = ap (λ d. d.values) f.2 in (
      ap (applied p) f.1
          ∙ (ap (λ s. Goes (thread_at s)) (sym (spot_moved around code nexts own ops x.values le))
          ∙ (ap (λ z. by z x.globals a.store.table x.locals a.gives a.frames (x.values ++ w)) (ap (λ d. d.memory) f.2)
          ∙ (ap (λ z. by b.store.memory z a.store.table x.locals a.gives a.frames (x.values ++ w)) (ap (λ d. d.globals) f.2)
          ∙ (ap (λ z. by b.store.memory b.store.globals z x.locals a.gives a.frames (x.values ++ w)) (sym table)
          ∙ (ap (λ z. by b.store.memory b.store.globals b.store.table z a.gives a.frames (x.values ++ w)) (ap (λ d. d.locals) f.2)
          ∙ (ap (λ z. by b.store.memory b.store.globals b.store.table b.locals z a.frames (x.values ++ w)) (sym gives)
          ∙ (ap (λ z. by b.store.memory b.store.globals b.store.table b.locals b.gives z (x.values ++ w)) (sym frames)
          ∙ ap (by b.store.memory b.store.globals b.store.table b.locals b.gives b.frames) values_now))))))),
      omega (arith, ap length values_now, length-append x.values w),
    )

-- the operands of the whole frame have the declared types too
pub fits_whole : (ts : List ValType) (own : List Open) (ops : List ℕ) → length ts ≤ length (values_in own ops) → LieOnTop ts (values_in own ops) → LieOnTop ts ops
fits_whole ts own ops le f = subst (Holds ts) (take_kept (length ts) own ops le) f
