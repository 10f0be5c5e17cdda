-- Fewer operands of the innermost level.
use Rattle.std.proofs.Common.{◌≡◌, ℕ, ◌+◌, ◌-◌, ◌≤◌, List, [], ◌∷◌, ◌++◌, length, take, drop, refl, sym, ap, ◌∙◌, arith, length-drop, length-take}
use Rattle.std.specs.Prelude.{reverse}
use Rattle.std.proofs.lemmas.List.{take-append-drop, append-nil}
use Rattle.std.proofs.Math.Seq.{drop-append-add}
use Rattle.wasm_ast.specs.declared.trees.Instr.{Instr}
use Rattle.wasm_ast.specs.declared.modules.Module.{Module}
use Rattle.wasm_semantics.specs.Threads.{Store}
use Rattle.wasm_semantics.specs.Control.{Spot, spot_with}
use Rattle.wasm_data.specs.Cuts.{above}
use Rattle.wasm_data.specs.Marked.{locals_in, operands_in}
use Rattle.wasm_data.proofs.Arrays.{length_operands}
use Rattle.wasm_data.proofs.Opened.{callers_operands, new_locals}
use Rattle.wasm_blocks.specs.declared.open.Open.{Open}
use Rattle.wasm_blocks.specs.Levels.{Around, values_in, spot_in, IsTower}
use Rattle.wasm_blocks.specs.Runs.{own_nexts}
use Rattle.wasm_blocks.proofs.Cuts.{length_above}
use Rattle.wasm_blocks.proofs.Levels.{height_of, heights, spot_more}
use Rattle.wasm_frames.specs.declared.active.Active.{Active}
use Rattle.wasm_frames.specs.Standing.{Surroundings, spot_at, IsStanding, IsPlaced}

-- with so many fewer on top
pub spot_fewer : (a : Around) (code : List Instr) (nexts : List (List Instr)) (own : List Open) (ops : List ℕ) (n : ℕ) → height_of own + n ≤ length ops
    → (let p = spot_in a code nexts own ops in spot_with p (drop n p.level.values) code ≡ spot_in a code nexts own (drop n ops))
spot_fewer a code nexts own ops n le =
    let q = spot_in a code nexts own (drop n ops) in
    let vs = take n ops ++ q.level.values in
    let whole : spot_in a code nexts own ops ≡ spot_with q vs code =
    ap (spot_in a code nexts own) (sym (take-append-drop n ops)) ∙ spot_more a code nexts own (drop n ops) (take n ops) (omega (arith, length-drop n ops, le)) in
    let front : n ≡ length (take n ops) + 0 = omega (arith, length-take n ops, le) in
    let rest : drop n vs ≡ q.level.values = ap (λ k. drop k vs) front ∙ drop-append-add (take n ops) q.level.values 0 in
    ap (λ (p : Spot). spot_with p (drop n p.level.values) code) whole ∙ ap (λ vs. spot_with q vs code) rest

pub height_room : (own : List Open) (ops : List ℕ) (n : ℕ) → height_of own ≤ length ops → n ≤ length (values_in own ops) → height_of own + n ≤ length ops
height_room [] ops n high le = omega (arith, le)
height_room (o ∷ os) ops n high le = omega (arith, length_above o.height ops, le, high)

tower_again : (own : List Open) (h h' : ℕ) → IsTower own h → height_of own ≤ h' → IsTower own h'
tower_again [] h h' t le = tt
tower_again (o ∷ os) h h' t le = (le, t.1)

abbrev pub own_operands : Active → Surroundings → List ℕ
own_operands a h = operands_in a.hot.marks.floor a.hot.marks.sp h.values

-- the frame with the free places from here on
abbrev pub with_sp : Active → ℕ → Active
with_sp a sp = record { hot = record { code = a.hot.code; marks = record { base = a.hot.marks.base; floor = a.hot.marks.floor; sp = sp }; low = a.hot.low }; function = a.function; gives = a.gives }

-- so many operands lie above those of the blocks around
pub own_room : (a : Active) (h : Surroundings) (n : ℕ) → IsStanding a h → n ≤ length (values_in (above a.hot.low h.opens) (own_operands a h)) → height_of (above a.hot.low h.opens) + n ≤ length (own_operands a h)
own_room a h n s le =
    let m = a.hot.marks in
    let own = above a.hot.low h.opens in
    height_room own (own_operands a h) n (omega (arith, heights own (m.sp - m.floor) s.here.tower, length_operands m.floor m.sp h.values s.here.within.room)) le

pub sp_room : (a : Active) (h : Surroundings) (n : ℕ) → IsStanding a h → n ≤ length (values_in (above a.hot.low h.opens) (own_operands a h)) → height_of (above a.hot.low h.opens) + n + a.hot.marks.floor ≤ a.hot.marks.sp
sp_room a h n s le =
    let m = a.hot.marks in
    omega (arith, own_room a h n s le, length_operands m.floor m.sp h.values s.here.within.room, s.here.within.operands)

pub fewer_stands : (a : Active) (h : Surroundings) (n : ℕ) → IsStanding a h → n ≤ length (values_in (above a.hot.low h.opens) (own_operands a h)) → IsStanding (with_sp a (a.hot.marks.sp - n)) h
fewer_stands a h n s le =
    let m = a.hot.marks in
    let w = s.here.within in
    let room = sp_room a h n s le in
    record {
      here = record {
        within = record { locals = w.locals; operands = omega (arith, room); room = omega (arith, w.room) };
        low = s.here.low;
        many = s.here.many;
        tower = tower_again (above a.hot.low h.opens) (m.sp - m.floor) (m.sp - n - m.floor) s.here.tower (omega (arith, room));
      };
      begins = s.begins;
      below = s.below;
      warm = s.warm;
    }

pub fewer_placed : (m : Module) (a : Active) (h : Surroundings) (sp : ℕ) → IsPlaced m a h → IsPlaced m (with_sp a sp) h
fewer_placed m a h sp pl = record { here = pl.here; below = pl.below }

-- where the thread runs then
pub spot_lowered : (m : Module) (st : Store) (a : Active) (h : Surroundings) (n : ℕ) → IsStanding a h → n ≤ length (values_in (above a.hot.low h.opens) (own_operands a h))
    → (let p = spot_at m st a h in spot_with p (drop n p.level.values) a.hot.code.now ≡ spot_at m st (with_sp a (a.hot.marks.sp - n)) h)
spot_lowered m st a h n s le =
    let k = a.hot.marks in
    let w = s.here.within in
    let p = spot_at m st a h in
    let around : Around = record { store = st; locals = p.locals; gives = p.gives; frames = p.frames } in
    let own = above a.hot.low h.opens in
    let nexts = own_nexts a.hot.low h.opens h.nexts in
    let room = sp_room a h n s le in
    spot_fewer around a.hot.code.now nexts own (own_operands a h) n (own_room a h n s le)
    ∙ ap (spot_in around a.hot.code.now nexts own) (sym (callers_operands k.floor k.sp n h.values h.values (omega (arith, room)) w.operands w.room refl))

-- the operands that are left out, in order, lie behind the rest
pub args_behind : (floor sp n : ℕ) (values : List ℕ) → n + floor ≤ sp → sp ≤ length values → reverse (take n (operands_in floor sp values)) ≡ locals_in (sp - n) (sp - n + n) values
args_behind floor sp n values le le' =
    let at : sp - n + n ≡ sp + 0 = omega (arith, le) in
    sym (ap (λ k. locals_in (sp - n) k values) at
    ∙ (new_locals floor sp n 0 values values (omega (arith, le)) (omega (arith, le)) le' refl refl refl
    ∙ append-nil (reverse (take n (operands_in floor sp values)))))
