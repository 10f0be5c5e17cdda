-- Machines between two runs.
use Rattle.std.proofs.Common.{◌≡◌, ℕ, ◌+◌, ◌-◌, ◌<◌, ◌≤◌, ◌^◌, Bool, true, false, List, [], ◌∷◌, length, take, replicate, refl, sym, ap, subst, ◌∙◌, arith}
use Rattle.std.specs.Prelude.{Option, Some, None, is_some, nat_lt, if◌then◌else◌}
use Rattle.std.proofs.Math.ListN.{set}
use Rattle.std.proofs.lemmas.Bool.Decides.{nat_tests}
use Rattle.std.proofs.lemmas.List.{take-set-le, length-set, length-replicate}
use Rattle.wasm_ast.specs.declared.hosts.HostName.{HostName}
use Rattle.wasm_ast.specs.declared.hosts.HostName.TheVariants.{Input, Read, Write, Delete, Send, Raise, Reply, OwnLabel, Release}
use Rattle.wasm_ast.specs.declared.modules.Module.{Module}
use Rattle.wasm_ast.specs.Spaces.{memory_of, page_limit}
use Rattle.wasm_ast.specs.Bytes.{placed, first_memory}
use Rattle.wasm_ast.specs.Memory.{memory_write}
use Rattle.wasm_ast.proofs.Lengths.{length_placed}
use Rattle.wasm_memory.specs.Contents.{Contents, after}
use Rattle.wasm_ast.specs.Validity.{Valid}
use Rattle.wasm_ast.specs.Hosts.{host_results}
use Rattle.wasm_semantics.specs.Operators.{truth}
use Rattle.wasm_semantics.specs.Threads.{Store, Frame}
use Rattle.wasm_semantics.specs.Control.{thread_at}
use Rattle.wasm_semantics.specs.Units.{Course, units, answered}
use Rattle.wasm_semantics.specs.Begin.{first_globals, first_table, begin}
use Rattle.wasm_semantics.specs.OfModule.{IsOf, IsAnswer}
use Rattle.wasm_semantics.proofs.Begin.{begin_is_of}
use Rattle.wasm_semantics.proofs.Waits.{answer_is_of}
use Rattle.wasm_semantics.proofs.Memory.{same_length, another_is_of, another_waits}
use Rattle.wasm_data.specs.Cuts.{above, under}
use Rattle.wasm_data.specs.Marked.{locals_in, operands_in}
use Rattle.wasm_data.proofs.Arrays.{put_operands, put_locals, length_operands}
use Rattle.wasm_blocks.specs.declared.open.Open.{Open}
use Rattle.wasm_blocks.specs.Levels.{Around, spot_in}
use Rattle.wasm_blocks.specs.Rest.{nexts_in}
use Rattle.wasm_blocks.proofs.Levels.{height_of, heights, spot_more}
use Rattle.wasm_blocks.proofs.BlocksOnStacks.{lower}
use Rattle.wasm_frames.specs.declared.active.Place.{Place}
use Rattle.wasm_frames.specs.Resting.{body_of, frames_at_rest, AreResting}
use Rattle.wasm_frames.specs.Standing.{store_of}
use Rattle.wasm_frames.proofs.Resting.{same_frames}
use Rattle.wasm_exec.specs.declared.machine.Machine.{Machine}
use Rattle.wasm_exec.specs.declared.stops.Stop.{Stop}
use Rattle.wasm_exec.specs.declared.stops.Stop.TheVariants as stop
use Rattle.wasm_exec.specs.Asking.{has_answer, one_more, PutsAnswer}
use Rattle.wasm_exec.specs.Going.{code_at}
use Rattle.wasm_exec.specs.Resting.{thread_at_rest, AreAtRest, CanGoOn, AwaitsAnswer, Rests}
use Rattle.wasm_exec.specs.Machines.{store_in, thread_of, FitsModule, StopsAs}
use Rattle.wasm_exec.specs.Stopped.{call_in}
use Rattle.wasm_exec.specs.Starting.{AreFirst}

-- an answer
one_result : (h : HostName) → has_answer h ≡ true → 0 < length (host_results h)
one_result Input e = omega arith
one_result Read e = omega arith
one_result Write e = omega arith
one_result Delete e = omega arith
one_result Send e = cc
one_result Raise e = cc
one_result Reply e = cc
one_result OwnLabel e = omega arith
one_result Release e = cc

some_fits : (h : HostName) (v : ℕ) → true ≡ has_answer h → v < 2 ^ 32 → IsAnswer h (Some v)
some_fits Input v e lt = (lt, tt)
some_fits Read v e lt = (lt, tt)
some_fits Write v e lt = (lt, tt)
some_fits Delete v e lt = (lt, tt)
some_fits Send v e lt = cc
some_fits Raise v e lt = cc
some_fits Reply v e lt = cc
some_fits OwnLabel v e lt = (lt, tt)
some_fits Release v e lt = cc

none_fits : (h : HostName) → false ≡ has_answer h → IsAnswer h None
none_fits Input e = cc
none_fits Read e = cc
none_fits Write e = cc
none_fits Delete e = cc
none_fits Send e = tt
none_fits Raise e = tt
none_fits Reply e = tt
none_fits OwnLabel e = cc
none_fits Release e = tt

-- one operand more
operand_more : (m : Module) (st : Store) (h : HostName) (p : Place) (ps : List Place) (values : List ℕ) (os : List Open) (v : ℕ) → AwaitsAnswer m st h p ps values os → p.marks.sp < length values
    → (thread_at_rest m st (one_more p ∷ ps) (set values p.marks.sp v) os ≡ answered (thread_at_rest m st (p ∷ ps) values os) (Some v)) × AreAtRest (one_more p) ps (set values p.marks.sp v) os
operand_more m st h p ps values os v w lt =
    let k = p.marks in
    let sp = k.sp in
    let r = w.rests.resting in
    let within = r.0.within in
    let own = above p.low os in
    let nexts = nexts_in (body_of m p.function) own in
    let code = code_at m p os in
    let new = set values sp v in
    let size : length new ≡ length values = length-set {A = ℕ} values sp v in
    let ops = operands_in k.floor sp values in
    let locals = locals_in k.base k.floor values in
    let fs = frames_at_rest m ps values (under p.low os) in
    let deep : take k.base new ≡ take k.base values = take-set-le k.base values sp v (omega (arith, within.locals, within.operands)) in
    let below = same_frames m ps k.base values new (under p.low os) r.0.begins r.1 deep (omega (arith, size)) in
    let at = λ (ls vs : List ℕ) (gs : List Frame). thread_at (spot_in (record { store = st; locals = ls; gives = truth p.gives; frames = gs }) code nexts own vs) in
    let around : Around = record { store = st; locals = locals; gives = truth p.gives; frames = fs } in
    let high : height_of own ≤ length ops = omega (arith, heights own (sp - k.floor) r.0.tower, length_operands k.floor sp values within.room) in (
      ap (λ ls. at ls (operands_in k.floor (sp + 1) new) (frames_at_rest m ps new (under p.low os))) (put_locals k.base k.floor sp values v within.locals within.operands)
          ∙ (ap (λ vs. at locals vs (frames_at_rest m ps new (under p.low os))) (put_operands k.floor sp values v within.operands lt)
          ∙ (ap (at locals (v ∷ ops)) below.0
          ∙ ap thread_at (spot_more around code nexts own ops (v ∷ []) high))),
      record {
        resting = (
          record {
            within = record { locals = within.locals; operands = omega (arith, within.operands); room = omega (arith, size, lt) };
            low = r.0.low;
            tower = lower own (sp - k.floor) (sp + 1 - k.floor) (omega arith) r.0.tower;
            begins = r.0.begins;
          },
          below.1,
        );
        size = omega (arith, size, w.rests.size);
        frames = w.rests.frames;
        blocks = w.rests.blocks;
      },
    )

-- the thread goes on behind the answer
pub goes_on : (m : Module) (st : Store) (h : HostName) (p p' : Place) (ps : List Place) (values values' : List ℕ) (os : List Open) (answer : Option ℕ) → AwaitsAnswer m st h p ps values os → is_some answer ≡ has_answer h → PutsAnswer answer p values p' values'
    → (thread_at_rest m st (p' ∷ ps) values' os ≡ answered (thread_at_rest m st (p ∷ ps) values os) answer) × CanGoOn m st p' ps values' os
goes_on m st h p p' ps values values' os None w e a =
    let t = thread_at_rest m st (p ∷ ps) values os in
    let same : thread_at_rest m st (p' ∷ ps) values' os ≡ answered t None = ap (λ q. thread_at_rest m st (q ∷ ps) values' os) a.0 ∙ ap (λ vs. thread_at_rest m st (p ∷ ps) vs os) a.1 in
    let rests = subst (λ q. AreAtRest q ps values' os) (sym a.0) (subst (λ vs. AreAtRest p ps vs os) (sym a.1) w.rests) in
    (same, record { of = subst (IsOf m) (sym same) (answer_is_of m h t None w.waits w.memory (none_fits h e)); rests = rests })
goes_on m st h p p' ps values values' os (Some v) w e a =
    let t = thread_at_rest m st (p ∷ ps) values os in
    let lt : p.marks.sp < length values = omega (arith, w.room, one_result h (sym e)) in
    let to = a.1 lt in
    let more = operand_more m st h p ps values os v w lt in
    let same : thread_at_rest m st (p' ∷ ps) values' os ≡ answered t (Some v) = ap (λ q. thread_at_rest m st (q ∷ ps) values' os) to.0 ∙ (ap (λ vs. thread_at_rest m st (one_more p ∷ ps) vs os) to.1 ∙ more.0) in
    let rests = subst (λ q. AreAtRest q ps values' os) (sym to.0) (subst (λ vs. AreAtRest (one_more p) ps vs os) (sym to.1) more.1) in
    (same, record { of = subst (IsOf m) (sym same) (answer_is_of m h t (Some v) w.waits w.memory (some_fits h v e a.0)); rests = rests })

-- another memory of the same length
not_past : (n k : ℕ) → nat_lt n k ≡ false → k ≤ n
not_past n k h = grind (arith, nat_tests)

by_test : (c : Contents) (at : ℕ) (from : List ℕ) (b : Bool) → nat_lt (length c.bytes) (at + length from) ≡ b → length (after c (if b then None else Some (placed c.bytes at from))).bytes ≡ length c.bytes
by_test c at from true e = refl
by_test c at from false e = length_placed c.bytes at from (not_past (length c.bytes) (at + length from) e)

pub write_keeps : (c d : Contents) (at : ℕ) (from : List ℕ) → d ≡ after c (memory_write c.bytes at from) → length d.bytes ≡ length c.bytes
write_keeps c d at from e = ap (λ (x : Contents). length x.bytes) e ∙ by_test c at from (nat_lt (length c.bytes) (at + length from)) refl

after_most : (c : Contents) (o : Option (List ℕ)) → (after c o).maximum ≡ c.maximum
after_most c None = refl
after_most c (Some bytes) = refl

pub write_most : (c d : Contents) (at : ℕ) (from : List ℕ) → d ≡ after c (memory_write c.bytes at from) → d.maximum ≡ c.maximum
write_most c d at from e = ap (λ (x : Contents). x.maximum) e ∙ after_most c (memory_write c.bytes at from)

abbrev stored : Store → List ℕ → Store
stored st bytes = record { memory = bytes; globals = st.globals; table = st.table }

pub still_goes : (m : Module) (st : Store) (bytes : List ℕ) (p : Place) (ps : List Place) (values : List ℕ) (os : List Open) → length bytes ≡ length st.memory → CanGoOn m st p ps values os → CanGoOn m (stored st bytes) p ps values os
still_goes m st bytes p ps values os e g =
    record { of = another_is_of m (thread_at_rest m st (p ∷ ps) values os) bytes g.of (same_length (memory_of m) st.memory bytes e g.of.store.memory); rests = g.rests }

pub still_waits : (m : Module) (st : Store) (h : HostName) (bytes : List ℕ) (p : Place) (ps : List Place) (values : List ℕ) (os : List Open) → length bytes ≡ length st.memory → AwaitsAnswer m st h p ps values os → AwaitsAnswer m (stored st bytes) h p ps values os
still_waits m st h bytes p ps values os e w = record {
  waits = another_waits m h (thread_at_rest m st (p ∷ ps) values os) bytes w.waits;
  memory = same_length (memory_of m) st.memory bytes e w.memory;
  rests = w.rests;
  room = w.room;
}

-- the beginning
pub begun : (m : Module) (st : Store) (p : Place) (ps : List Place) (values : List ℕ) (os : List Open) → Valid m → st ≡ record { memory = first_memory m; globals = first_globals m; table = first_table m }
    → values ≡ replicate p.marks.sp 0 → os ≡ [] → AreFirst m p ps → (thread_at_rest m st (p ∷ ps) values os ≡ begin m) × CanGoOn m st p ps values os
unfolding begin
begun m st p ps values os valid stored zeros none f =
    let t : thread_at_rest m st (p ∷ ps) values os ≡ begin m =
    ap (λ s. thread_at_rest m s (p ∷ ps) values os) stored
    ∙ (ap (λ vs. thread_at_rest m (begin m).store (p ∷ ps) vs os) zeros
    ∙ (ap (λ xs. thread_at_rest m (begin m).store (p ∷ ps) (replicate p.marks.sp 0) xs) none
    ∙ ap (λ fs. record { store = (begin m).store; frames = fs }) f.frames)) in
    let size : length values ≡ p.marks.sp = ap length zeros ∙ length-replicate {A = ℕ} p.marks.sp 0 in
    let R : List ℕ → List Open → Type 0 = λ vs xs. AreResting (p ∷ ps) vs xs in (
      t,
      record {
        of = subst (IsOf m) (sym t) (begin_is_of m valid);
        rests = record {
          resting = subst (λ vs. R vs os) (sym zeros) (subst (R (replicate p.marks.sp 0)) (sym none) f.resting);
          size = omega (arith, size, f.most);
          frames = omega (arith, f.few);
          blocks = omega (arith, ap length none);
        };
      },
    )

pub record HasStarted (m : Module) (memory : Contents) (globals : List ℕ) (table : List (Option ℕ)) (p : Place) (ps : List Place) (values : List ℕ) (os : List Open) : Type 0 where
  pub thread : thread_at_rest m (store_of memory.bytes globals table) (p ∷ ps) values os ≡ begin m
  pub goes : CanGoOn m (store_of memory.bytes globals table) p ps values os
  pub maximum : page_limit m ≡ memory.maximum

pub started : (m n : Module) (memory : Contents) (globals : List ℕ) (table : List (Option ℕ)) (p : Place) (ps below : List Place) (values : List ℕ) (os : List Open) → m ≡ n → Valid m
    → memory ≡ record { bytes = first_memory m; maximum = page_limit m } → globals ≡ first_globals m → table ≡ first_table m → values ≡ replicate p.marks.sp 0 → os ≡ [] → ps ≡ below → AreFirst m p below
    → HasStarted n memory globals table p ps values os
started m n memory globals table p ps below values os e valid bytes gs ts zeros none stack first =
    let store : store_of memory.bytes globals table ≡ store_of (first_memory m) (first_globals m) (first_table m) =
    ap (λ (x : Contents). store_of x.bytes globals table) bytes ∙ (ap (λ xs. store_of (first_memory m) xs table) gs ∙ ap (store_of (first_memory m) (first_globals m)) ts) in
    let b = begun m (store_of memory.bytes globals table) p ps values os valid store zeros none (subst (AreFirst m p) (sym stack) first) in
    subst (λ k. HasStarted k memory globals table p ps values os) e (record { thread = b.0; goes = b.1; maximum = sym (ap (λ (x : Contents). x.maximum) bytes) })

-- what a run came to, of the machine
pub stops_at : (m : Module) (course : Course) (used : ℕ) (why : Stop) (x : Machine) → FitsModule m x → Rests m course (store_in x) x.place x.places x.values.items x.opens used why → x.waits_for ≡ call_in why → StopsAs m course used why x
unfolding thread_of
stops_at m course used stop.Spent x s r e = (r.0, record { serves = s; none = e; goes = r.1 })
stops_at m course used stop.Done x s r e = r
stops_at m course used (stop.Trapped t) x s r e = r
stops_at m course used (stop.Call asked) x s r e = record { args = r.args; is = r.is; places = r.places; waits = record { serves = s; some = e; waits = r.waits } }
stops_at m course used stop.NoMemory x s r e = tt

pub stops_in : (m n : Module) (pages count : ℕ) (st : Store) (bytes globals : List ℕ) (slice table : List (Option ℕ)) (p p' : Place) (ps ps' : List Place) (values values' : List ℕ) (os os' : List Open) (used : ℕ) (why : Stop) → m ≡ n → slice ≡ table
    → Rests m (units m pages (thread_at_rest m (store_of st.memory st.globals slice) (p ∷ ps) values os) count) (store_of bytes globals slice) p' ps' values' os' used why
    → Rests n (units n pages (thread_at_rest n (store_of st.memory st.globals table) (p ∷ ps) values os) count) (store_of bytes globals table) p' ps' values' os' used why
stops_in m n pages count st bytes globals slice table p p' ps ps' values values' os os' used why e e' r =
    subst (λ k. Rests k (units k pages (thread_at_rest k (store_of st.memory st.globals table) (p ∷ ps) values os) count) (store_of bytes globals table) p' ps' values' os' used why) e
    (subst (λ xs. Rests m (units m pages (thread_at_rest m (store_of st.memory st.globals xs) (p ∷ ps) values os) count) (store_of bytes globals xs) p' ps' values' os' used why) e' r)
