-- No unit makes a memory shorter, and pages count only as far as the module lets its memory grow.
use Rattle.std.proofs.Common.{◌≤◌, ◌+◌, ℕ, List, [], ◌∷◌, ◌++◌, length, take, drop, min, arith}
use Rattle.std.specs.Prelude.{Option, Some, None, IfSome, nat_lt, nat_eq, if◌then◌else◌, slice_get, get_or, zero, suc}
use Rattle.wasm_ast.specs.declared.trees.Instr.{Instr}
use Rattle.wasm_ast.specs.declared.trees.Instr.TheOpen.{Instr-F}
use Rattle.wasm_ast.specs.declared.func_types.FuncType.{FuncType}
use Rattle.wasm_ast.specs.declared.imports.Import.{Import}
use Rattle.wasm_ast.specs.declared.modules.Module.{Module}
use Rattle.wasm_ast.specs.Trees.{Layer, layer}
use Rattle.wasm_ast.specs.Spaces.{own, type_of, page_limit}
use Rattle.wasm_ast.specs.Operators.{Access, load_of, store_of}
use Rattle.wasm_ast.specs.Memory.{memory_load, memory_store, memory_grow, memory_copy, memory_fill}
use Rattle.wasm_ast.specs.Typing.{results}
use Rattle.wasm_ast.specs.Hosts.{host_named, host_params, same_type}
use Rattle.wasm_semantics.specs.declared.traps.Trap.TheVariants as trap
use Rattle.wasm_semantics.specs.Operators.{operator_of, type_of_operator, compute, Computed, Number, Fails, Missing}
use Rattle.wasm_semantics.specs.Data.{Data, DataEffect, Moves, Traps, Wrong, with_top, with_some, split, moves, computed, chosen, set_local, set_global, fetched, written, sized, effect_of}
use Rattle.wasm_semantics.specs.Threads.{Store, Level, Frame, Thread, Outcome, Goes, Calls, Done, Trapped, Stuck, too_much}
use Rattle.wasm_semantics.specs.Control.{Spot, thread_at, spot_in, first_spot, at_level, level_with, spot_with, onto, handed, hand, finish, branch, branch_at, enter, leave_to, opened, asked, call_of, call, indirect}
use Rattle.wasm_semantics.specs.Units.{data_of, applied, act, unit_front, unit_at, limited, unit, Course, after_unit, units_from, units}
use Rattle.wasm_semantics.specs.Laws.{KeepsBytes}
use Rattle.wasm_semantics.proofs.Combinators.{if_rule}
use Rattle.wasm_semantics.proofs.Memories.{AsLong, Grew, store_as_long, copy_as_long, fill_as_long, grow_grew}

-- what is shown of each way on holds of the whole
pub top_any : {R : Type 0} (P : R → Type 0) (bad : R) (values : List ℕ) (go : ℕ → List ℕ → R) → P bad → ((v : ℕ) (vs : List ℕ) → P (go v vs)) → P (with_top bad values go)
top_any P bad [] go h k = h
top_any P bad (v ∷ vs) go h k = k v vs

pub some_any : {R A : Type 0} (P : R → Type 0) (bad : R) (o : Option A) (go : A → R) → P bad → ((a : A) → P (go a)) → P (with_some bad o go)
some_any P bad None go h k = h
some_any P bad (Some a) go h k = k a

pub split_any : {R : Type 0} (P : R → Type 0) (bad : R) (n : ℕ) (values : List ℕ) (go : List ℕ → List ℕ → R) → P bad → ((kept below : List ℕ) → P (go kept below)) → P (split bad n values go)
split_any P bad n values go h k = if_rule P (nat_lt (length values) n) bad (go (take n values) (drop n values)) (λ e. h) (λ e. k (take n values) (drop n values))

-- effects
abbrev EffectKeeps : ℕ → DataEffect → Type 0
EffectKeeps n (Moves d) = n ≤ length d.memory
EffectKeeps n (Traps t) = Unit {0}
EffectKeeps n Wrong = Unit {0}

abbrev size : Data → ℕ
size d = length d.memory

same_size : (n : ℕ) → n ≤ n
same_size n = omega arith

computed_keeps : (d : Data) (below : List ℕ) (r : Computed) → EffectKeeps (size d) (computed d below r)
computed_keeps d below (Number n) = same_size (size d)
computed_keeps d below (Fails t) = tt
computed_keeps d below Missing = tt

fetched_keeps : (d : Data) (a : Access) (o : Option ℕ) (below : List ℕ) → EffectKeeps (size d) (fetched d a o below)
fetched_keeps d a None below = tt
fetched_keeps d a (Some n) below = same_size (size d)

written_keeps : (d : Data) (o : Option (List ℕ)) (below : List ℕ) → IfSome o (AsLong d.memory) → EffectKeeps (size d) (written d o below)
written_keeps d None below h = tt
written_keeps d (Some memory) below h = omega arith

sized_keeps : (limit n : ℕ) (d : Data) (o : Option (List ℕ)) (below : List ℕ) → IfSome o (Grew limit d.memory n) → EffectKeeps (size d) (sized d o below)
sized_keeps limit n d None below h = same_size (size d)
sized_keeps limit n d (Some memory) below h = let longer = h.length in omega arith

three_keeps : (d : Data) (values : List ℕ) (go : ℕ → ℕ → ℕ → List ℕ → DataEffect) → ((x y z : ℕ) (zs : List ℕ) → EffectKeeps (size d) (go x y z zs))
    → EffectKeeps (size d) (with_top Wrong values (λ x xs. with_top Wrong xs (λ y ys. with_top Wrong ys (go x y))))
three_keeps d values go k =
    top_any (EffectKeeps (size d)) Wrong values (λ x xs. with_top Wrong xs (λ y ys. with_top Wrong ys (go x y))) tt
    (λ x xs. top_any (EffectKeeps (size d)) Wrong xs (λ y ys. with_top Wrong ys (go x y)) tt (λ y ys. top_any (EffectKeeps (size d)) Wrong ys (go x y) tt (λ z zs. k x y z zs)))

effect_keeps : (m : Module) (pages : ℕ) (y : Layer) (d : Data) → EffectKeeps (size d) (effect_of m pages y d)
effect_keeps m pages Instr-F.Nop d = same_size (size d)
effect_keeps m pages Instr-F.Drop d = top_any (EffectKeeps (size d)) Wrong d.values (λ v vs. moves d vs) tt (λ v vs. same_size (size d))
effect_keeps m pages Instr-F.Select d =
    top_any (EffectKeeps (size d)) Wrong d.values (λ v vs. with_top Wrong vs (λ b ws. with_top Wrong ws (λ a xs. moves d (chosen v a b ∷ xs)))) tt
    (λ v vs. top_any (EffectKeeps (size d)) Wrong vs (λ b ws. with_top Wrong ws (λ a xs. moves d (chosen v a b ∷ xs))) tt
    (λ b ws. top_any (EffectKeeps (size d)) Wrong ws (λ a xs. moves d (chosen v a b ∷ xs)) tt (λ a xs. same_size (size d))))
effect_keeps m pages (Instr-F.LocalGet x) d = some_any (EffectKeeps (size d)) Wrong (slice_get d.locals x) (λ v. moves d (v ∷ d.values)) tt (λ v. same_size (size d))
effect_keeps m pages (Instr-F.LocalSet x) d =
    some_any (EffectKeeps (size d)) Wrong (slice_get d.locals x) (λ old. with_top Wrong d.values (λ v vs. set_local d x v vs)) tt
    (λ old. top_any (EffectKeeps (size d)) Wrong d.values (λ v vs. set_local d x v vs) tt (λ v vs. same_size (size d)))
effect_keeps m pages (Instr-F.LocalTee x) d =
    some_any (EffectKeeps (size d)) Wrong (slice_get d.locals x) (λ old. with_top Wrong d.values (λ v vs. set_local d x v (v ∷ vs))) tt
    (λ old. top_any (EffectKeeps (size d)) Wrong d.values (λ v vs. set_local d x v (v ∷ vs)) tt (λ v vs. same_size (size d)))
effect_keeps m pages (Instr-F.GlobalGet x) d = some_any (EffectKeeps (size d)) Wrong (slice_get d.globals x) (λ v. moves d (v ∷ d.values)) tt (λ v. same_size (size d))
effect_keeps m pages (Instr-F.GlobalSet x) d =
    some_any (EffectKeeps (size d)) Wrong (slice_get d.globals x) (λ old. with_top Wrong d.values (λ v vs. set_global d x v vs)) tt
    (λ old. top_any (EffectKeeps (size d)) Wrong d.values (λ v vs. set_global d x v vs) tt (λ v vs. same_size (size d)))
effect_keeps m pages (Instr-F.Load op align offset) d =
    let go = λ (k : Access) (a : ℕ) (vs : List ℕ). fetched d k (memory_load d.memory (a + offset) k.width) vs in
    some_any (EffectKeeps (size d)) Wrong (load_of op) (λ k. with_top Wrong d.values (go k)) tt
    (λ k. top_any (EffectKeeps (size d)) Wrong d.values (go k) tt (λ a vs. fetched_keeps d k (memory_load d.memory (a + offset) k.width) vs))
effect_keeps m pages (Instr-F.Store op align offset) d =
    let go = λ (k : Access) (v a : ℕ) (ws : List ℕ). written d (memory_store d.memory (a + offset) k.width v) ws in
    some_any (EffectKeeps (size d)) Wrong (store_of op) (λ k. with_top Wrong d.values (λ v vs. with_top Wrong vs (go k v))) tt
    (λ k. top_any (EffectKeeps (size d)) Wrong d.values (λ v vs. with_top Wrong vs (go k v)) tt
    (λ v vs. top_any (EffectKeeps (size d)) Wrong vs (go k v) tt
    (λ a ws. written_keeps d (memory_store d.memory (a + offset) k.width v) ws (store_as_long d.memory (a + offset) k.width v))))
effect_keeps m pages Instr-F.MemorySize d = same_size (size d)
effect_keeps m pages Instr-F.MemoryGrow d =
    let limit = min pages (page_limit m) in
    top_any (EffectKeeps (size d)) Wrong d.values (λ v vs. sized d (memory_grow limit d.memory v) vs) tt
    (λ v vs. sized_keeps limit v d (memory_grow limit d.memory v) vs (grow_grew limit d.memory v))
effect_keeps m pages Instr-F.MemoryCopy d =
    let go = λ (n from to : ℕ) (xs : List ℕ). written d (memory_copy d.memory to from n) xs in
    three_keeps d d.values go (λ n from to xs. written_keeps d (memory_copy d.memory to from n) xs (copy_as_long d.memory to from n))
effect_keeps m pages Instr-F.MemoryFill d =
    let go = λ (n v at : ℕ) (xs : List ℕ). written d (memory_fill d.memory at v n) xs in
    three_keeps d d.values go (λ n v at xs. written_keeps d (memory_fill d.memory at v n) xs (fill_as_long d.memory at v n))
effect_keeps m pages (Instr-F.I32Const n) d = same_size (size d)
effect_keeps m pages (Instr-F.I64Const n) d = same_size (size d)
effect_keeps m pages (Instr-F.Num op) d =
    some_any (EffectKeeps (size d)) Wrong (operator_of op) (λ o. split Wrong (length (type_of_operator o).takes) d.values (λ args below. computed d below (compute o args))) tt
    (λ o. split_any (EffectKeeps (size d)) Wrong (length (type_of_operator o).takes) d.values (λ args below. computed d below (compute o args)) tt (λ args below. computed_keeps d below (compute o args)))
effect_keeps m pages _ d = tt

-- units
abbrev Keeps : Store → Outcome → Type 0
Keeps st = KeepsBytes (length st.memory)

level_keeps : (st : Store) (kept : List ℕ) (g : Frame) (gs : List Frame) (levels : List Level) → Keeps st (handed kept (spot_in st g gs levels))
level_keeps st kept g gs [] = tt
level_keeps st kept g gs (l ∷ ls) = same_size (length st.memory)

hand_keeps : (st : Store) (kept : List ℕ) (fs : List Frame) → Keeps st (hand st kept fs)
hand_keeps st kept [] = tt
hand_keeps st kept (g ∷ gs) = level_keeps st kept g gs g.levels

finish_keeps : (p : Spot) (values : List ℕ) → Keeps p.store (finish p values)
finish_keeps p values = split_any (Keeps p.store) Stuck p.gives values (λ kept below. hand p.store kept p.frames) tt (λ kept below. hand_keeps p.store kept p.frames)

branch_keeps : (p : Spot) (n : ℕ) (values : List ℕ) (levels : List Level) → Keeps p.store (branch p n values levels)
branch_keeps p n values [] = tt
branch_keeps p zero values (l ∷ []) = finish_keeps p values
branch_keeps p zero values (l ∷ o ∷ os) =
    split_any (Keeps p.store) Stuck l.keeps values (λ kept below. Goes (thread_at (at_level p (level_with o (kept ++ o.values) l.target) os))) tt (λ kept below. same_size (length p.store.memory))
branch_keeps p (suc n) values (l ∷ ls) = branch_keeps p n values ls

spot_keeps : (p : Spot) (n : ℕ) (values : List ℕ) → Keeps p.store (branch_at p n values)
spot_keeps p n values = branch_keeps p n values (p.level ∷ p.levels)

leave_keeps : (p : Spot) (levels : List Level) → Keeps p.store (leave_to p levels)
leave_keeps p [] = finish_keeps p p.level.values
leave_keeps p (o ∷ os) = same_size (length p.store.memory)

call_of_keeps : (m : Module) (x : ℕ) (p : Spot) (values : List ℕ) (o : Option Import) → Keeps p.store (call_of m x p values o)
call_of_keeps m x p values None =
    some_any (Keeps p.store) Stuck (own m x) (λ fn. split Stuck (length fn.signature.params) values (opened fn p)) tt
    (λ fn. split_any (Keeps p.store) Stuck (length fn.signature.params) values (opened fn p) tt (λ args below. same_size (length p.store.memory)))
call_of_keeps m x p values (Some i) =
    some_any (Keeps p.store) Stuck (host_named i.name) (λ h. split Stuck (length (host_params h)) values (asked h p)) tt
    (λ h. split_any (Keeps p.store) Stuck (length (host_params h)) values (asked h p) tt (λ args below. same_size (length p.store.memory)))

indirect_keeps : (m : Module) (ft : FuncType) (p : Spot) (values : List ℕ) (o : Option (Option ℕ)) → Keeps p.store (indirect m ft p values o)
indirect_keeps m ft p values None = tt
indirect_keeps m ft p values (Some None) = tt
indirect_keeps m ft p values (Some (Some x)) =
    some_any (Keeps p.store) Stuck (type_of m x) (λ found. if same_type found ft then call m x p values else Trapped trap.TypeDiffers) tt
    (λ found. if_rule (Keeps p.store) (same_type found ft) (call m x p values) (Trapped trap.TypeDiffers) (λ e. call_of_keeps m x p values (slice_get m.imports x)) (λ e. tt))

applied_keeps : (p : Spot) (e : DataEffect) → EffectKeeps (length p.store.memory) e → Keeps p.store (applied p e)
applied_keeps p (Moves d) h = h
applied_keeps p (Traps t) h = tt
applied_keeps p Wrong h = tt

act_keeps : (m : Module) (pages : ℕ) (i : Instr) (y : Layer) (p : Spot) → Keeps p.store (act m pages i y p)
act_keeps m pages i Instr-F.Unreachable p = tt
act_keeps m pages i (Instr-F.Block bt body) p = same_size (length p.store.memory)
act_keeps m pages i (Instr-F.Loop bt body) p = same_size (length p.store.memory)
act_keeps m pages i (Instr-F.If bt first second) p =
    top_any (Keeps p.store) Stuck p.level.values (λ v vs. enter p vs (if nat_eq v 0 then second.items else first.items) (length (results bt)) p.level.code) tt (λ v vs. same_size (length p.store.memory))
act_keeps m pages i (Instr-F.Br n) p = spot_keeps p n p.level.values
act_keeps m pages i (Instr-F.BrIf n) p =
    top_any (Keeps p.store) Stuck p.level.values (λ v vs. if nat_eq v 0 then onto p vs else branch_at p n vs) tt
    (λ v vs. if_rule (Keeps p.store) (nat_eq v 0) (onto p vs) (branch_at p n vs) (λ e. same_size (length p.store.memory)) (λ e. spot_keeps p n vs))
act_keeps m pages i (Instr-F.BrTable ns n) p =
    top_any (Keeps p.store) Stuck p.level.values (λ v vs. branch_at p (get_or ns v n) vs) tt (λ v vs. spot_keeps p (get_or ns v n) vs)
act_keeps m pages i Instr-F.Return p = finish_keeps p p.level.values
act_keeps m pages i (Instr-F.Call x) p = call_of_keeps m x p p.level.values (slice_get m.imports x)
act_keeps m pages i (Instr-F.CallIndirect k) p =
    some_any (Keeps p.store) Stuck (slice_get m.types k) (λ ft. with_top Stuck p.level.values (λ v vs. indirect m ft p vs (slice_get p.store.table v))) tt
    (λ ft. top_any (Keeps p.store) Stuck p.level.values (λ v vs. indirect m ft p vs (slice_get p.store.table v)) tt (λ v vs. indirect_keeps m ft p vs (slice_get p.store.table v)))
act_keeps m pages i y p = applied_keeps p (effect_of m pages y (data_of p)) (effect_keeps m pages y (data_of p))

front_keeps : (m : Module) (pages : ℕ) (code : List Instr) (p : Spot) → Keeps p.store (unit_front m pages code p)
front_keeps m pages [] p = leave_keeps p p.levels
front_keeps m pages (i ∷ rest) p = act_keeps m pages i (layer i) (spot_with p p.level.values rest)

in_keeps : (m : Module) (pages : ℕ) (st : Store) (f : Frame) (fs : List Frame) (levels : List Level) → Keeps st (with_some Stuck (spot_in st f fs levels) (unit_at m pages))
in_keeps m pages st f fs [] = tt
in_keeps m pages st f fs (l ∷ ls) = front_keeps m pages l.code (record { store = st; locals = f.locals; gives = f.gives; frames = fs; level = l; levels = ls })

frames_keep : (m : Module) (pages : ℕ) (st : Store) (frames : List Frame) → Keeps st (with_some Stuck (first_spot st frames) (unit_at m pages))
frames_keep m pages st [] = tt
frames_keep m pages st (f ∷ fs) = in_keeps m pages st f fs f.levels

limited_keeps : (n : ℕ) (o : Outcome) → KeepsBytes n o → KeepsBytes n (limited o)
limited_keeps n (Goes t) h = if_rule (KeepsBytes n) (too_much t) (Trapped trap.Stack) (Goes t) (λ e. tt) (λ e. h)
limited_keeps n (Calls c args t) h = if_rule (KeepsBytes n) (too_much t) (Trapped trap.Stack) (Calls c args t) (λ e. tt) (λ e. h)
limited_keeps n Done h = tt
limited_keeps n (Trapped t) h = tt
limited_keeps n Stuck h = tt

pub unit_keeps : (m : Module) (pages : ℕ) (t : Thread) → KeepsBytes (length t.store.memory) (unit m pages t)
unfolding unit
unit_keeps m pages t = limited_keeps (length t.store.memory) (with_some Stuck (first_spot t.store t.frames) (unit_at m pages)) (frames_keep m pages t.store t.frames)

more_kept : (n k : ℕ) (o : Outcome) → n ≤ k → KeepsBytes k o → KeepsBytes n o
more_kept n k (Goes t) h g = omega arith
more_kept n k (Calls c args t) h g = omega arith
more_kept n k Done h g = tt
more_kept n k (Trapped t) h g = tt
more_kept n k Stuck h g = tt

course_keeps : (n : ℕ) (o : Outcome) (used : ℕ) (go : Thread → Course) → KeepsBytes n o → ((t : Thread) → KeepsBytes (length t.store.memory) (go t).stop) → KeepsBytes n (after_unit o used go).stop
course_keeps n (Goes t) used go h k = more_kept n (length t.store.memory) (go t).stop h (k t)
course_keeps n (Calls c args t) used go h k = h
course_keeps n Done used go h k = tt
course_keeps n (Trapped t) used go h k = tt
course_keeps n Stuck used go h k = tt

from_keep : (m : Module) (pages used n : ℕ) (t : Thread) → KeepsBytes (length t.store.memory) (units_from m pages used n t).stop
from_keep m pages used zero t = same_size (length t.store.memory)
from_keep m pages used (suc n) t =
    course_keeps (length t.store.memory) (unit m pages t) (used + 1) (units_from m pages (used + 1) n) (unit_keeps m pages t) (λ u. from_keep m pages (used + 1) n u)

pub units_keep : (m : Module) (pages n : ℕ) (t : Thread) → KeepsBytes (length t.store.memory) (units m pages t n).stop
unfolding units
units_keep m pages n t = from_keep m pages 0 n t
