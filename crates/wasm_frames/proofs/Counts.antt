-- How much a thread has: its values are those of the array, its blocks those of the stack.
use Rattle.std.proofs.Common.{◌≡◌, ℕ, ◌+◌, ◌-◌, ◌<◌, ◌≤◌, Bool, true, false, List, [], ◌∷◌, ◌++◌, length, take, drop, refl, sym, ap, ◌∙◌, arith, length-append, length-take}
use Rattle.std.specs.Prelude.{reverse, nat_lt, ◌||◌, if◌then◌else◌}
use Rattle.std.proofs.lemmas.Bool.Decides.{nat_tests}
use Rattle.std.proofs.lemmas.List.{length-reverse}
use Rattle.wasm_ast.specs.declared.val_types.ValType.{ValType}
use Rattle.wasm_ast.specs.declared.hosts.HostName.{HostName}
use Rattle.wasm_ast.specs.declared.trees.Instr.{Instr}
use Rattle.wasm_ast.specs.declared.modules.Module.{Module}
use Rattle.wasm_semantics.specs.declared.traps.Trap.TheVariants as trap
use Rattle.wasm_semantics.specs.Threads.{Store, Thread, Outcome, Goes, Calls, Trapped, values_of, blocks_of, too_much}
use Rattle.wasm_semantics.specs.Threads.{values_in as all_in}
use Rattle.wasm_semantics.specs.Control.{thread_at, behind, zeros, first_frame, call}
use Rattle.wasm_semantics.specs.Units.{limited}
use Rattle.wasm_data.specs.Cuts.{above, under}
use Rattle.wasm_data.specs.Marked.{operands_in}
use Rattle.wasm_data.proofs.Arrays.{length_operands, length_locals}
use Rattle.wasm_blocks.specs.declared.open.Open.{Open}
use Rattle.wasm_blocks.specs.Levels.{rest_of, first_of, values_in, level_in, levels_in, IsTower}
use Rattle.wasm_blocks.specs.Rest.{last, code_in, nexts_in}
use Rattle.wasm_blocks.specs.Runs.{own_nexts}
use Rattle.wasm_blocks.proofs.Cuts.{length_above, length_under}
use Rattle.wasm_frames.specs.declared.active.Place.{Place}
use Rattle.wasm_frames.specs.declared.active.Active.{Active}
use Rattle.wasm_frames.specs.declared.callees.Entry.{Entry}
use Rattle.wasm_frames.specs.Resting.{body_of, frames_at_rest, BeginsAt, AreResting}
use Rattle.wasm_frames.specs.Standing.{Surroundings, spot_at, thread_in, IsStanding}
use Rattle.wasm_frames.specs.Callees.{IsEntry}
use Rattle.wasm_frames.specs.Turns.{IsPast, IsBounded}
use Rattle.wasm_frames.proofs.FewerOperands.{own_operands, with_sp, sp_room, fewer_stands, spot_lowered}
use Rattle.wasm_frames.proofs.Calling.{call_own}

pub levels_values : (code : List Instr) (nexts : List (List Instr)) (own : List Open) (ops : List ℕ) (n : ℕ) → length ops ≡ n → IsTower own n → all_in (level_in code nexts own ops ∷ levels_in nexts own ops) ≡ n
levels_values code nexts [] ops n e t = omega (arith, e)
levels_values code nexts (o ∷ os) ops n e t =
    let room : o.height ≤ length ops = omega (arith, e, t.0) in
    let deep = levels_values (rest_of o.loops (first_of nexts)) (drop 1 nexts) os (under o.height ops) o.height (length_under o.height ops room) t.1 in
    omega (arith, deep, length_above o.height ops, e, t.0)

levels_count : (nexts : List (List Instr)) (own : List Open) (ops : List ℕ) → length (levels_in nexts own ops) ≡ length own
levels_count nexts [] ops = refl
levels_count nexts (o ∷ os) ops = omega (arith, levels_count (drop 1 nexts) os (under o.height ops))

pub rest_values : (m : Module) (ps : List Place) (values : List ℕ) (os : List Open) (n : ℕ) → BeginsAt ps n → AreResting ps values os → values_of (frames_at_rest m ps values os) ≡ n
rest_values m [] values os n b s = sym b
rest_values m (p ∷ ps) values os n b s =
    let k = p.marks in
    let w = s.0.within in
    let own = above p.low os in
    let body = body_of m p.function in
    let here = levels_values (last (code_in body own) p.left) (nexts_in body own) own (operands_in k.floor k.sp values) (k.sp - k.floor) (length_operands k.floor k.sp values w.room) s.0.tower in
    let below = rest_values m ps values (under p.low os) k.base s.0.begins s.1 in
    omega (arith, here, below, b, length_locals k.base k.floor values (omega (arith, w.operands, w.room)), w.locals, w.operands)

rest_blocks : (m : Module) (ps : List Place) (values : List ℕ) (os : List Open) → AreResting ps values os → blocks_of (frames_at_rest m ps values os) ≡ length os
rest_blocks m [] values os s = sym s
rest_blocks m (p ∷ ps) values os s =
    let own = above p.low os in
    let here = levels_count (nexts_in (body_of m p.function) own) own (operands_in p.marks.floor p.marks.sp values) in
    omega (arith, here, rest_blocks m ps values (under p.low os) s.1, length_above p.low os, length_under p.low os s.0.low, s.0.low)

rest_count : (m : Module) (ps : List Place) (values : List ℕ) (os : List Open) → length (frames_at_rest m ps values os) ≡ length ps
rest_count m [] values os = refl
rest_count m (p ∷ ps) values os = omega (arith, rest_count m ps values (under p.low os))

pub thread_values : (m : Module) (st : Store) (a : Active) (h : Surroundings) → IsStanding a h → values_of (thread_in m st a h).frames ≡ a.hot.marks.sp
thread_values m st a h s =
    let k = a.hot.marks in
    let w = s.here.within in
    let own = above a.hot.low h.opens in
    let here = levels_values a.hot.code.now (own_nexts a.hot.low h.opens h.nexts) own (own_operands a h) (k.sp - k.floor) (length_operands k.floor k.sp h.values w.room) s.here.tower in
    let below = rest_values m h.places h.values (under a.hot.low h.opens) k.base s.begins s.below in
    omega (arith, here, below, length_locals k.base k.floor h.values (omega (arith, w.operands, w.room)), w.locals, w.operands)

thread_blocks : (m : Module) (st : Store) (a : Active) (h : Surroundings) → IsStanding a h → blocks_of (thread_in m st a h).frames ≡ length h.opens
thread_blocks m st a h s =
    let low = a.hot.low in
    let own = above low h.opens in
    let here = levels_count (own_nexts low h.opens h.nexts) own (own_operands a h) in
    omega (arith, here, rest_blocks m h.places h.values (under low h.opens) s.below, length_above low h.opens, length_under low h.opens s.here.low, s.here.low)

thread_count : (m : Module) (st : Store) (a : Active) (h : Surroundings) → length (thread_in m st a h).frames ≡ length h.places + 1
thread_count m st a h = omega (arith, rest_count m h.places h.values (under a.hot.low h.opens))

zeros_long : (ts : List ValType) → length (zeros ts) ≡ length ts
zeros_long [] = refl
zeros_long (t ∷ ts) = omega (arith, zeros_long ts)

-- more locals than there is room for
pub past_call : (m : Module) (st : Store) (a : Active) (h : Surroundings) (x n : ℕ) (e : Entry) → IsEntry m x n e → IsStanding a h → n ≤ length (values_in (above a.hot.low h.opens) (own_operands a h))
    → length h.values - a.hot.marks.sp < e.declared → (let p = spot_at m st a h in IsPast (call m x p p.level.values) h)
past_call m st a h x n e i s le more =
    let p = spot_at m st a h in
    let vs = p.level.values in
    let fn = i.function in
    let below = (behind p (drop n vs)).frames in
    let rest : values_of below ≡ a.hot.marks.sp - n =
    ap (λ t. values_of (thread_at t).frames) (spot_lowered m st a h n s le) ∙ thread_values m st (with_sp a (a.hot.marks.sp - n)) h (fewer_stands a h n s le) in
    let args : length (reverse (take n vs) ++ zeros fn.declared) ≡ n + e.declared =
    omega (arith, length-append (reverse (take n vs)) (zeros fn.declared), length-reverse (take n vs), length-take n vs, le, zeros_long fn.declared, i.zeros) in
    record {
      thread = record { store = st; frames = first_frame fn (reverse (take n vs) ++ zeros fn.declared) ∷ below };
      is = call_own m st a h x n e i le;
      past = omega (arith, args, rest, more, sp_room a h n s le, s.here.within.room);
    }

not_more : (n k : ℕ) → k ≤ n → nat_lt n k ≡ false
not_more n k h = grind (arith, nat_tests)

is_more : (n k : ℕ) → n < k → nat_lt n k ≡ true
is_more n k h = grind (arith, nat_tests)

or_true : (a : Bool) → (a || true) ≡ true
or_true true = refl
or_true false = refl

few : (a b c x y z : ℕ) → x ≤ a → y ≤ b → z ≤ c → (nat_lt a x || (nat_lt b y || nat_lt c z)) ≡ false
few a b c x y z h h' h'' =
    ap (λ t. t || (nat_lt b y || nat_lt c z)) (not_more a x h) ∙ (ap (λ t. t || nat_lt c z) (not_more b y h') ∙ not_more c z h'')

many_first : (a b c x y z : ℕ) → a < x → (nat_lt a x || (nat_lt b y || nat_lt c z)) ≡ true
many_first a b c x y z h = ap (λ t. t || (nat_lt b y || nat_lt c z)) (is_more a x h)

many_second : (a b c x y z : ℕ) → b < y → (nat_lt a x || (nat_lt b y || nat_lt c z)) ≡ true
many_second a b c x y z h = ap (λ t. nat_lt a x || (t || nat_lt c z)) (is_more b y h) ∙ or_true (nat_lt a x)

many_third : (a b c x y z : ℕ) → c < z → (nat_lt a x || (nat_lt b y || nat_lt c z)) ≡ true
many_third a b c x y z h = ap (λ t. nat_lt a x || (nat_lt b y || t)) (is_more c z h) ∙ (ap (λ t. nat_lt a x || t) (or_true (nat_lt b y)) ∙ or_true (nat_lt a x))

goes_if : (t : Thread) → too_much t ≡ false → limited (Goes t) ≡ Goes t
goes_if t h = ap (λ b. if b then Trapped trap.Stack else Goes t) h

calls_if : (name : HostName) (args : List ℕ) (t : Thread) → too_much t ≡ false → limited (Calls name args t) ≡ Calls name args t
calls_if name args t h = ap (λ b. if b then Trapped trap.Stack else Calls name args t) h

traps_if : (t : Thread) → too_much t ≡ true → limited (Goes t) ≡ Trapped trap.Stack
traps_if t h = ap (λ b. if b then Trapped trap.Stack else Goes t) h

within : (m : Module) (st : Store) (a : Active) (h : Surroundings) → IsStanding a h → IsBounded h → too_much (thread_in m st a h) ≡ false
within m st a h s w =
    let t = thread_in m st a h in
    few 65536 1024 16384 (values_of t.frames) (length t.frames) (blocks_of t.frames) (omega (arith, thread_values m st a h s, w.values, s.here.within.room))
    (omega (arith, thread_count m st a h, w.frames)) (omega (arith, thread_blocks m st a h s, w.blocks))

pub goes_within : (m : Module) (st : Store) (a : Active) (h : Surroundings) → IsStanding a h → IsBounded h → limited (Goes (thread_in m st a h)) ≡ Goes (thread_in m st a h)
goes_within m st a h s w = goes_if (thread_in m st a h) (within m st a h s w)

pub asks_within : (m : Module) (st : Store) (a : Active) (h : Surroundings) (name : HostName) (args : List ℕ) → IsStanding a h → IsBounded h → limited (Calls name args (thread_in m st a h)) ≡ Calls name args (thread_in m st a h)
asks_within m st a h name args s w = calls_if name args (thread_in m st a h) (within m st a h s w)

pub traps_frames : (m : Module) (st : Store) (a : Active) (h : Surroundings) → 1023 < length h.places → limited (Goes (thread_in m st a h)) ≡ Trapped trap.Stack
traps_frames m st a h more =
    let t = thread_in m st a h in
    traps_if t (many_second 65536 1024 16384 (values_of t.frames) (length t.frames) (blocks_of t.frames) (omega (arith, thread_count m st a h, more)))

pub traps_blocks : (m : Module) (st : Store) (a : Active) (h : Surroundings) → IsStanding a h → 16384 < length h.opens → limited (Goes (thread_in m st a h)) ≡ Trapped trap.Stack
traps_blocks m st a h s more =
    let t = thread_in m st a h in
    traps_if t (many_third 65536 1024 16384 (values_of t.frames) (length t.frames) (blocks_of t.frames) (omega (arith, thread_blocks m st a h s, more)))

pub traps_past : (o : Outcome) (was : Surroundings) → IsPast o was → 65536 ≤ length was.values → limited o ≡ Trapped trap.Stack
traps_past o was past full =
    let t = past.thread in
    ap limited past.is ∙ traps_if t (many_first 65536 1024 16384 (values_of t.frames) (length t.frames) (blocks_of t.frames) (omega (arith, past.past, full)))
