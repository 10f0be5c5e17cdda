-- A whole unit.
use Rattle.std.specs.Prelude.{zero, suc, ◌+◌}
use Rattle.std.proofs.Common.{◌≡◌, ℕ, List, [], ◌∷◌, refl, subst}
use Rattle.wasm_ast.specs.declared.val_types.ValType.{ValType}
use Rattle.wasm_ast.specs.declared.trees.Instr.{Instr}
use Rattle.wasm_ast.specs.declared.trees.Instr.TheOpen.{Instr-F}
use Rattle.wasm_ast.specs.Trees.{Layer, layer}
use Rattle.wasm_ast.specs.declared.modules.Module.{Module}
use Rattle.wasm_ast.specs.Typing.{context_of, Step, Types}
use Rattle.wasm_ast.specs.Validity.{Valid}
use Rattle.wasm_semantics.specs.declared.traps.Trap.TheVariants as trap
use Rattle.wasm_semantics.specs.Data.{DataEffect, Moves, Traps, Wrong, with_some, effect_of}
use Rattle.wasm_semantics.specs.Threads.{Store, Level, Frame, Thread, Outcome, Goes, Calls, Done, Trapped, Stuck, too_much}
use Rattle.wasm_semantics.specs.Control.{Spot, spot_in, first_spot, spot_with}
use Rattle.wasm_semantics.specs.Units.{data_of, applied, act, unit_front, unit_at, limited, unit, Course, after_unit, units_from, units}
use Rattle.wasm_semantics.specs.OfModule.{Holds, IsStore, Shape, labels_of, Levels, Running, IsOf, Sound}
use Rattle.wasm_ast.proofs.Typings.{IsPlain, plain_of, block_of, loop_of, if_of, at_end, uncons}
use Rattle.wasm_semantics.proofs.Combinators.{if_rule}
use Rattle.wasm_semantics.proofs.Frames.{Inside, Here, HasLocals, Stood, inside_of, goes_rule, leave_rule}
use Rattle.wasm_semantics.proofs.DataEffects.{Fine, IsOnData, data_fine}
use Rattle.wasm_semantics.proofs.Control.{Next, within, labels, Takes, block_sound, loop_sound, if_sound, br_sound, br_if_sound, br_table_sound, return_sound, call_sound, call_indirect_sound}

applied_rule : {m : Module} {p : Spot} (x : Next m p) (e : DataEffect) → Fine (within x) x.after e → Sound m (applied p e)
applied_rule {p = p} x (Moves d) h =
    goes_rule x.here (record { memory = d.memory; globals = d.globals; table = p.store.table }) d.locals d.values p.level.code x.after
    (record { memory = h.memory; globals = h.globals; length = x.stood.store.length; table = x.stood.store.table }) h.locals h.values x.onward
applied_rule x (Traps t) h = tt
applied_rule x Wrong h = absurd h

plain_at : {m : Module} {p : Spot} (x : Next m p) (i : Instr) (y : Layer) → layer i ≡ y → Step (within x) (labels x) i x.before x.after → IsPlain y → Takes x y
plain_at x i y e d h = plain_of (within x) (labels x) i x.before x.after y d e h

data_sound : {m : Module} {p : Spot} (x : Next m p) (pages : ℕ) (y : Layer) → Takes x y → IsOnData y → Sound m (applied p (effect_of m pages y (data_of p)))
data_sound {m = m} {p = p} x pages y q h =
    applied_rule x (effect_of m pages y (data_of p))
    (data_fine (within x) (labels x) pages (data_of p) x.after y
    (record { before = x.before; here = record { memory = x.stood.store.memory; globals = x.stood.store.globals; locals = x.stood.locals; values = x.values }; plain = q }) h)

act_sound : {m : Module} {p : Spot} (pages : ℕ) (i : Instr) (y : Layer) (x : Next m p) → Valid m → layer i ≡ y → Step (within x) (labels x) i x.before x.after
    → Types (within x) (labels x) (i ∷ p.level.code) x.before x.here.shape.leaves → Sound m (act m pages i y p)
act_sound pages i Instr-F.Unreachable x valid e d w = tt
act_sound pages i (Instr-F.Block bt body) x valid e d w = let b = block_of (within x) (labels x) i x.before x.after bt body d e in block_sound x pages i bt body b.0 b.1
act_sound pages i (Instr-F.Loop bt body) x valid e d w = let b = loop_of (within x) (labels x) i x.before x.after bt body d e in loop_sound x pages i bt body w b.0 b.1
act_sound pages i (Instr-F.If bt first second) x valid e d w =
    let b = if_of (within x) (labels x) i x.before x.after bt first second d e in if_sound x pages i bt first second b.2.0 b.0 b.1 b.2.1 b.2.2
act_sound pages i (Instr-F.Br n) x valid e d w = br_sound x pages i n (plain_at x i (Instr-F.Br n) e d tt)
act_sound pages i (Instr-F.BrIf n) x valid e d w = br_if_sound x pages i n (plain_at x i (Instr-F.BrIf n) e d tt)
act_sound pages i (Instr-F.BrTable is n) x valid e d w = br_table_sound x pages i is n (plain_at x i (Instr-F.BrTable is n) e d tt)
act_sound pages i Instr-F.Return x valid e d w = return_sound x pages i (plain_at x i Instr-F.Return e d tt)
act_sound pages i (Instr-F.Call n) x valid e d w = call_sound x pages i n valid (plain_at x i (Instr-F.Call n) e d tt)
act_sound pages i (Instr-F.CallIndirect n) x valid e d w = call_indirect_sound x pages i n valid (plain_at x i (Instr-F.CallIndirect n) e d tt)
act_sound pages i y x valid e d w = data_sound x pages y (plain_at x i y e d tt) tt

front_sound : {m : Module} {p : Spot} (h : Here m p.gives p.frames p.level p.levels) (pages : ℕ) (code : List Instr) (stands : List ValType) → Valid m → Stood p h.inside
    → Holds stands p.level.values → Types (context_of m h.inside.function) (labels_of (h.shape ∷ h.others)) code stands h.shape.leaves → Sound m (unit_front m pages code p)
front_sound {m = m} {p = p} h pages [] stands valid g hv t =
    leave_rule p h.inside p.levels h.others h.shape.leaves g h.levels
    (subst (λ ts. Holds ts p.level.values) (at_end (context_of m h.inside.function) (labels_of (h.shape ∷ h.others)) stands h.shape.leaves t) hv)
front_sound {m = m} {p = p} h pages (i ∷ rest) stands valid g hv t =
    let u = uncons (context_of m h.inside.function) (labels_of (h.shape ∷ h.others)) (i ∷ rest) i rest stands h.shape.leaves t refl in
    act_sound {p = spot_with p p.level.values rest} pages i (layer i)
    (record {
      here = record { inside = h.inside; shape = h.shape; others = h.others; target = h.target; levels = h.levels };
      stood = record { store = g.store; locals = g.locals };
      before = stands;
      after = u.0;
      values = hv;
      onward = u.2;
    }) valid refl u.1 t

inside_sound : {m : Module} (f : Frame) {fs : List Frame} (i : Inside m f.gives fs) (pages : ℕ) (st : Store) (levels : List Level) (s : Shape) (ss : List Shape) → Valid m → IsStore m st → HasLocals i f.locals
    → Levels (context_of m i.function) levels (s ∷ ss) [] → Sound m (with_some Stuck (spot_in st f fs levels) (unit_at m pages))
inside_sound f i pages st [] s ss valid hs hl lv = absurd lv
inside_sound f {fs = fs} i pages st (l ∷ ls) s ss valid hs hl lv =
    front_sound {p = record { store = st; locals = f.locals; gives = f.gives; frames = fs; level = l; levels = ls }} (record { inside = i; shape = s; others = ss; target = lv.0.target; levels = lv.1 }) pages l.code
    s.stands valid (record { store = hs; locals = hl }) lv.0.values lv.0.code

frames_sound : (m : Module) (pages : ℕ) (st : Store) (frames : List Frame) → Valid m → IsStore m st → Running m frames [] → Sound m (with_some Stuck (first_spot st frames) (unit_at m pages))
frames_sound m pages st [] valid hs r = absurd r
frames_sound m pages st (f ∷ fs) valid hs r = inside_sound f (inside_of m f fs [] r.0 r.1) pages st f.levels r.0.first r.0.others valid hs r.0.locals r.0.levels

limited_sound : (m : Module) (o : Outcome) → Sound m o → Sound m (limited o)
limited_sound m (Goes t) h = if_rule (Sound m) (too_much t) (Trapped trap.Stack) (Goes t) (λ b. tt) (λ b. h)
limited_sound m (Calls call args t) h = if_rule (Sound m) (too_much t) (Trapped trap.Stack) (Calls call args t) (λ b. tt) (λ b. h)
limited_sound m Done h = tt
limited_sound m (Trapped t) h = tt
limited_sound m Stuck h = h

pub unit_sound : (m : Module) (pages : ℕ) (t : Thread) → Valid m → IsOf m t → Sound m (unit m pages t)
unfolding unit
unit_sound m pages t valid r = limited_sound m (with_some Stuck (first_spot t.store t.frames) (unit_at m pages)) (frames_sound m pages t.store t.frames valid r.store r.running)

course_sound : (m : Module) (o : Outcome) (used : ℕ) (go : Thread → Course) → Sound m o → ((t : Thread) → IsOf m t → Sound m (go t).stop) → Sound m (after_unit o used go).stop
course_sound m (Goes t) used go h k = k t h
course_sound m (Calls c args t) used go h k = h
course_sound m Done used go h k = tt
course_sound m (Trapped t) used go h k = tt
course_sound m Stuck used go h k = h

units_from_sound : (m : Module) (pages used n : ℕ) (t : Thread) → Valid m → IsOf m t → Sound m (units_from m pages used n t).stop
units_from_sound m pages used zero t valid h = h
units_from_sound m pages used (suc n) t valid h =
    course_sound m (unit m pages t) (used + 1) (units_from m pages (used + 1) n) (unit_sound m pages t valid h) (λ u g. units_from_sound m pages (used + 1) n u valid g)

pub units_sound : (m : Module) (pages n : ℕ) (t : Thread) → Valid m → IsOf m t → Sound m (units m pages t n).stop
unfolding units
units_sound m pages n t valid h = units_from_sound m pages 0 n t valid h
