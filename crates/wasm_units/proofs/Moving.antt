-- A unit that moves data, over frames that wait.
use Rattle.std.proofs.Common.{◌≡◌, ◌≢◌, ℕ, ◌+◌, ◌-◌, ◌≤◌, List, [], ◌∷◌, length, take, refl, sym, ap, ◌∙◌, arith, Bor}
use Rattle.wasm_ast.specs.declared.trees.Instr.{Instr}
use Rattle.wasm_ast.specs.declared.modules.Module.{Module}
use Rattle.wasm_ast.specs.Trees.{layer}
use Rattle.wasm_semantics.specs.declared.traps.Trap.{Trap}
use Rattle.wasm_semantics.specs.Operators.{truth}
use Rattle.wasm_semantics.specs.Threads.{Store, Trapped, Stuck}
use Rattle.wasm_semantics.specs.Data.{Moves, Traps, Wrong, moves, effect_of}
use Rattle.wasm_semantics.specs.Control.{thread_at}
use Rattle.wasm_semantics.specs.Units.{act, applied, unit_at}
use Rattle.wasm_data.specs.Cuts.{above, under}
use Rattle.wasm_data.specs.Marked.{AreInArray, locals_in, operands_in, raised}
use Rattle.wasm_data.specs.Effects.{Does, cells, seen}
use Rattle.wasm_data.proofs.Arrays.{length_operands, length_locals}
use Rattle.wasm_blocks.specs.declared.open.Open.{Open}
use Rattle.wasm_blocks.specs.Levels.{Around, values_in, spot_in, IsTower}
use Rattle.wasm_blocks.specs.Runs.{own_nexts}
use Rattle.wasm_blocks.proofs.Cuts.{length_under}
use Rattle.wasm_blocks.proofs.Levels.{height_of, heights}
use Rattle.wasm_blocks.proofs.BlocksOnStacks.{lower}
use Rattle.wasm_frames.specs.declared.active.Active.{Active}
use Rattle.wasm_frames.specs.Resting.{frames_at_rest}
use Rattle.wasm_frames.specs.Standing.{Surroundings, held, store_of, spot_at, IsStanding, IsPlaced}
use Rattle.wasm_frames.specs.Turns.{Went, IsPast, Answered}
use Rattle.wasm_frames.proofs.Counts.{levels_values, rest_values}
use Rattle.wasm_frames.proofs.Lifts.{below_stays}
use Rattle.wasm_frames.proofs.FewerOperands.{own_operands, with_sp}
use Rattle.wasm_units.proofs.Takes.{passed, takes, fits, fits_many}
use Rattle.wasm_semantics.specs.Operands.{operand_types, LieOnTop}
use Rattle.wasm_data.specs.declared.moved.Moved.{Moved}
use Rattle.wasm_data.specs.declared.moved.Moved.TheVariants as moved
use Rattle.wasm_units.specs.Acts.{turn_of}
use Rattle.wasm_units.proofs.Fronts.{Front, ruled, placed_behind}
use Rattle.wasm_units.proofs.DataUnits.{IsData, act_data, deep_of, data_by, moves_whole, traps_whole, whole_typed, fits_whole}

-- what lies around the levels
abbrev pub around_of : Module → Store → Active → Surroundings → Around
around_of m st a h = record { store = st; locals = locals_in a.hot.marks.base a.hot.marks.floor h.values; gives = truth a.gives; frames = frames_at_rest m h.places h.values (under a.hot.low h.opens) }

-- the effect at the innermost level is one
pub data_typed : (m : Module) (pages : ℕ) (st : Store) (a : Active) (h : Surroundings) (i : Instr) (rest : Bor (List Instr)) → IsData (layer i) → act m pages i (layer i) (spot_at m st (passed a rest) h) ≢ Stuck
    → effect_of m pages (layer i) (data_by (around_of m st a h) (values_in (above a.hot.low h.opens) (own_operands a h))) ≢ Wrong
data_typed m pages st a h i rest d t wrong = let p = spot_at m st (passed a rest) h in t (act_data m pages i (layer i) p d ∙ ap (applied p) wrong)

deep_long : (own : List Open) (ops : List ℕ) → height_of own ≤ length ops → height_of own ≤ length (deep_of own ops)
deep_long [] ops le = omega arith
deep_long (o ∷ os) ops le = omega (arith, length_under o.height ops le)

tower_again : (own : List Open) (h h' : ℕ) → IsTower own h → height_of own ≤ h' → IsTower own h'
tower_again [] h h' t le = tt
tower_again (o ∷ os) h h' t le = (le, t.1)

pub data_went : (m : Module) (pages : ℕ) (st st' : Store) (a : Active) (h : Surroundings) (values' : List ℕ) (i : Instr) (rest : Bor (List Instr)) (sp : ℕ) → a.hot.code.now ≡ i ∷ rest.now → IsData (layer i)
    → IsStanding a h → IsPlaced m a h → IsPlaced m (passed a rest) h → act m pages i (layer i) (spot_at m st (passed a rest) h) ≢ Stuck → st'.table ≡ st.table
    → effect_of m pages (layer i) (seen (cells st.memory st.globals h.values) a.hot.marks) ≡ Moves (seen (cells st'.memory st'.globals values') (raised a.hot.marks sp))
    → AreInArray (raised a.hot.marks sp) (length values') → take a.hot.marks.base values' ≡ take a.hot.marks.base h.values → length h.values ≤ length values'
    → Went m (unit_at m pages (spot_at m st a h)) st' (held h.places h.codes values' h.opens h.nexts) (with_sp (passed a rest) sp)
data_went m pages st st' a h values' i rest sp e d s pl pl' t table moved within deep long =
    let k = a.hot.marks in
    let low = a.hot.low in
    let own = above low h.opens in
    let nexts = own_nexts low h.opens h.nexts in
    let ops = own_operands a h in
    let p = spot_at m st (passed a rest) h in
    let w = s.here.within in
    let size = length_operands k.floor k.sp h.values w.room in
    let size' = length_operands k.floor sp values' within.room in
    let high : height_of own ≤ length ops = omega (arith, heights own (k.sp - k.floor) s.here.tower, size) in
    let below = below_stays m a low k.base h.places h.codes h.values values' h.opens h.opens h.nexts h.nexts s pl refl refl deep long refl refl in
    let around : Around = around_of m st a h in
    let after : Around = record { store = st'; locals = locals_in k.base k.floor values'; gives = truth a.gives; frames = frames_at_rest m h.places values' (under low h.opens) } in
    let on = moves_whole m pages (layer i) around after rest.now nexts own ops (operands_in k.floor sp values') high (data_typed m pages st a h i rest d t) moved table refl (sym below.0) in
    record {
      is = takes m pages st a h i rest (layer i) e refl ∙ (act_data m pages i (layer i) p d ∙ on.0);
      stands = record {
        here = record {
          within = within;
          low = s.here.low;
          many = s.here.many;
          tower = tower_again own (k.sp - k.floor) (sp - k.floor) s.here.tower (omega (arith, deep_long own ops high, on.1, size'));
        };
        begins = below.1;
        below = below.2;
        warm = below.3;
      };
      placed = record { here = pl'.here; below = below.4 };
    }

pub data_traps : (m : Module) (pages : ℕ) (st : Store) (a : Active) (h : Surroundings) (i : Instr) (rest : Bor (List Instr)) (trap : Trap) → a.hot.code.now ≡ i ∷ rest.now → IsData (layer i)
    → act m pages i (layer i) (spot_at m st (passed a rest) h) ≢ Stuck → effect_of m pages (layer i) (seen (cells st.memory st.globals h.values) a.hot.marks) ≡ Traps trap
    → unit_at m pages (spot_at m st a h) ≡ Trapped trap
data_traps m pages st a h i rest trap e d t traps =
    let p = spot_at m st (passed a rest) h in
    takes m pages st a h i rest (layer i) e refl
    ∙ (act_data m pages i (layer i) p d
    ∙ ap (applied p) (traps_whole m pages (layer i) (around_of m st a h) (above a.hot.low h.opens) (own_operands a h) trap (data_typed m pages st a h i rest d t) traps))

-- one operand more, for which there is no place
pub data_past : (m : Module) (pages : ℕ) (st : Store) (a : Active) (h : Surroundings) (i : Instr) (rest : Bor (List Instr)) (v : ℕ) → a.hot.code.now ≡ i ∷ rest.now → IsData (layer i)
    → IsStanding a h → act m pages i (layer i) (spot_at m st (passed a rest) h) ≢ Stuck
    → effect_of m pages (layer i) (seen (cells st.memory st.globals h.values) a.hot.marks) ≡ moves (seen (cells st.memory st.globals h.values) a.hot.marks) (v ∷ own_operands a h)
    → a.hot.marks.sp ≡ length h.values → IsPast (unit_at m pages (spot_at m st a h)) h
data_past m pages st a h i rest v e d s t moved full =
    let k = a.hot.marks in
    let low = a.hot.low in
    let own = above low h.opens in
    let nexts = own_nexts low h.opens h.nexts in
    let ops = own_operands a h in
    let p = spot_at m st (passed a rest) h in
    let w = s.here.within in
    let size = length_operands k.floor k.sp h.values w.room in
    let high : height_of own ≤ length ops = omega (arith, heights own (k.sp - k.floor) s.here.tower, size) in
    let around : Around = around_of m st a h in
    let on = moves_whole m pages (layer i) around around rest.now nexts own ops (v ∷ ops) high (data_typed m pages st a h i rest d t) moved refl refl refl in
    let up = levels_values rest.now nexts own (v ∷ ops) (k.sp - k.floor + 1) (omega (arith, size)) (lower own (k.sp - k.floor) (k.sp - k.floor + 1) (omega arith) s.here.tower) in
    let below = rest_values m h.places h.values (under low h.opens) k.base s.begins s.below in
    record {
      thread = thread_at (spot_in around rest.now nexts own (v ∷ ops));
      is = takes m pages st a h i rest (layer i) e refl ∙ (act_data m pages i (layer i) p d ∙ on.0);
      past = omega (arith, up, below, length_locals k.base k.floor h.values (omega (arith, w.operands, w.room)), w.locals, w.operands, full);
    }

-- what is carried out on data needs, and comes to
pub moves_typed : {m : Module} {st : Store} {a : Active} {h : Surroundings} {i : Instr} {rest : Bor (List Instr)} → Front m st a h i rest → (pages : ℕ) → IsData (layer i)
    → effect_of m pages (layer i) (seen (cells st.memory st.globals h.values) a.hot.marks) ≢ Wrong
moves_typed {m} {st} {a} {h} {i} {rest} f pages d =
    whole_typed m pages (layer i) (around_of m st a h) (above a.hot.low h.opens) (own_operands a h) (data_typed m pages st a h i rest d (ruled f pages (layer i) refl))

pub moves_fit : {m : Module} {st : Store} {a : Active} {h : Surroundings} {i : Instr} {rest : Bor (List Instr)} → Front m st a h i rest → LieOnTop (operand_types m (layer i)) (own_operands a h)
moves_fit {m} {st} {a} {h} {i} {rest} f =
    let ts = operand_types m (layer i) in
    let own = above a.hot.low h.opens in
    let ops = own_operands a h in
    let e = fits m st a h i rest (layer i) f.of f.first refl in
    fits_whole ts own ops (fits_many ts (values_in own ops) e) e

pub data_answered : {m : Module} {st : Store} {a : Active} {h : Surroundings} {i : Instr} {rest : Bor (List Instr)} → Front m st a h i rest → (pages : ℕ) → IsData (layer i) → (memory globals values : List ℕ) (answer : Moved)
    → length h.values ≤ length values
    → Does (effect_of m pages (layer i) (seen (cells st.memory st.globals h.values) a.hot.marks)) (cells st.memory st.globals h.values) (cells memory globals values) a.hot.marks answer
    → Answered m (unit_at m pages (spot_at m st a h)) st (store_of memory globals st.table) h (held h.places h.codes values h.opens h.nexts) (turn_of (passed a rest) answer)
data_answered {m} {st} {a} {h} {i} {rest} f pages d memory globals values (moved.Goes sp) long e = (
  data_went m pages st (store_of memory globals st.table) a h values i rest sp f.first d f.stands f.placed (placed_behind f) (ruled f pages (layer i) refl) refl e.is e.within e.deep long,
  record { frames = omega arith; blocks = omega arith },
)
data_answered {m} {st} {a} {h} {i} {rest} f pages d memory globals values (moved.Trapped t) long e = data_traps m pages st a h i rest t f.first d (ruled f pages (layer i) refl) e.1
data_answered {m} {st} {a} {h} {i} {rest} f pages d memory globals values moved.Full long e = (
  ap (λ x. store_of x.memory x.globals st.table) e.0,
  ap (λ x. held h.places h.codes x.values h.opens h.nexts) e.0,
  data_past m pages st a h i rest e.1.value f.first d f.stands (ruled f pages (layer i) refl) e.1.is e.1.full,
)
data_answered {m} {st} {a} {h} {i} {rest} f pages d memory globals values moved.NoMemory long e = tt
