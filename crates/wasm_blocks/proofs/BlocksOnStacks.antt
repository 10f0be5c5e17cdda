-- Blocks entered, left and branched to, on the stacks of a run.
use Rattle.std.proofs.Common.{◌≡◌, ℕ, ◌+◌, ◌-◌, ◌<◌, ◌≤◌, List, [], ◌∷◌, ◌++◌, length, take, drop, refl, sym, ap, subst, ◌∙◌, arith, Bor, length-drop}
use Rattle.std.specs.Prelude.{slice_get, Some, zero, suc, if◌then◌else◌}
use Rattle.wasm_ast.specs.declared.trees.Instr.{Instr}
use Rattle.wasm_ast.specs.Trees.{layer}
use Rattle.wasm_semantics.specs.Operators.{truth}
use Rattle.wasm_semantics.specs.Threads.{Goes}
use Rattle.wasm_semantics.specs.Control.{thread_at, branch_at, enter, leave}
use Rattle.wasm_data.specs.declared.marks.Marks.{Marks}
use Rattle.wasm_data.specs.Cuts.{above, under}
use Rattle.wasm_data.specs.Marked.{locals_in, operands_in, raised}
use Rattle.wasm_data.proofs.Arrays.{length_operands}
use Rattle.wasm_blocks.specs.declared.open.Open.{Open}
use Rattle.wasm_blocks.specs.declared.hot.Hot.{Hot}
use Rattle.wasm_blocks.specs.Levels.{Around, rest_of, values_in, spot_in, IsTower, HasKept}
use Rattle.wasm_blocks.specs.Runs.{Outer, own_nexts, place, StandsInArray, GoesOnAnywhere}
use Rattle.wasm_blocks.specs.Rest.{Placed, part_of}
use Rattle.wasm_blocks.proofs.Cuts.{length_above}
use Rattle.wasm_blocks.proofs.Levels.{enter_goes, leave_goes, branch_goes, tower_at}
use Rattle.wasm_blocks.proofs.OwnBlocks.{above_more, under_more, nexts_more, drop_more, above_drop, under_drop, nexts_drop, drop_drop, get_above, next_own}
use Rattle.wasm_blocks.proofs.Rests.{placed_enter, placed_leave, placed_branch}

abbrev around : Outer → Hot → List ℕ → Around
around a hot values = record { store = a.store; locals = locals_in hot.marks.base hot.marks.floor values; gives = a.gives; frames = a.frames }

pub lower : (os : List Open) (a b : ℕ) → a ≤ b → IsTower os a → IsTower os b
lower [] a b le t = tt
lower (o ∷ os) a b le t = (omega (arith, le, t.0), t.1)

abbrev pub hot_with : Hot → Bor (List Instr) → Marks → Hot
hot_with hot code marks = record { code = code; marks = marks; low = hot.low }

entered : (hot : Hot) (values : List ℕ) (os : List Open) (ns : List (Bor (List Instr))) (code next : Bor (List Instr)) (o : Open)
    → StandsInArray hot values os ns → rest_of o.loops next.now ≡ hot.code.now → o.height ≡ hot.marks.sp - hot.marks.floor
    → GoesOnAnywhere (λ a. let p = place a hot values os ns in enter p p.level.values code.now (truth o.keeps) next.now) hot (hot_with hot code hot.marks) values values os (o ∷ os) ns (next ∷ ns)
entered hot values os ns code next o st r h =
    let m = hot.marks in
    let low = hot.low in
    let ops = operands_in m.floor m.sp values in
    let size = length_operands m.floor m.sp values st.within.room in
    let opens_now = above_more low o os st.low in
    record {
      on = λ a.
          let to = λ (xs : List (List Instr)) (ys : List Open). Goes (thread_at (spot_in (around a hot values) code.now xs ys ops)) in
          enter_goes (around a hot values) hot.code.now (own_nexts low os ns) (above low os) ops code.now next.now o (h ∙ sym size) r
          ∙ (ap (λ xs. to xs (o ∷ above low os)) (sym (nexts_more low o os next ns st.low)) ∙ ap (to (own_nexts low (o ∷ os) (next ∷ ns))) (sym opens_now));
      stands = record {
        within = st.within;
        low = omega (arith, st.low);
        many = omega (arith, st.low, st.many);
        tower = subst (λ xs. IsTower xs (m.sp - m.floor)) (sym opens_now) (omega (arith, h), subst (IsTower (above low os)) (sym h) st.tower);
      };
      low = refl;
      base = refl;
      deep = refl;
      others = under_more low o os st.low;
      other_nexts = drop_more low o os next ns st.low;
    }

pub enter_runs : (hot : Hot) (values : List ℕ) (os os' : List Open) (ns ns' : List (Bor (List Instr))) (code next : Bor (List Instr)) (o : Open)
    → StandsInArray hot values os ns → rest_of o.loops next.now ≡ hot.code.now → o.height ≡ hot.marks.sp - hot.marks.floor → os' ≡ o ∷ os → ns' ≡ next ∷ ns
    → GoesOnAnywhere (λ a. let p = place a hot values os ns in enter p p.level.values code.now (truth o.keeps) next.now) hot (hot_with hot code hot.marks) values values os os' ns ns'
enter_runs hot values os os' ns ns' code next o st r h e e' =
    let out = λ (a : Outer). let p = place a hot values os ns in enter p p.level.values code.now (truth o.keeps) next.now in
    let P : List Open → Type 0 = λ xs. GoesOnAnywhere out hot (hot_with hot code hot.marks) values values os xs ns ns' in
    let Q : List (Bor (List Instr)) → Type 0 = λ xs. GoesOnAnywhere out hot (hot_with hot code hot.marks) values values os (o ∷ os) ns xs in
    subst P (sym e) (subst Q (sym e') (entered hot values os ns code next o st r h))

pub enter_placed : (body : List Instr) (i : Instr) (hot : Hot) (os os' : List Open) (ns ns' : List (Bor (List Instr))) (code : List Instr) (next : Bor (List Instr)) (o : Open)
    → hot.low ≤ length os → Placed body (i ∷ hot.code.now) (own_nexts hot.low os ns) (above hot.low os) → next.now ≡ (if o.loops then i ∷ hot.code.now else hot.code.now) → o.left ≡ length next.now
    → part_of o.second (layer i) ≡ code → os' ≡ o ∷ os → ns' ≡ next ∷ ns → Placed body code (own_nexts hot.low os' ns') (above hot.low os')
enter_placed body i hot os os' ns ns' code next o le p n h c e e' =
    let low = hot.low in
    let opens_now : above low os' ≡ o ∷ above low os = ap (above low) e ∙ above_more low o os le in
    let nexts_now : own_nexts low os' ns' ≡ next.now ∷ own_nexts low os ns = ap (λ xs. own_nexts low xs ns') e ∙ (ap (own_nexts low (o ∷ os)) e' ∙ nexts_more low o os next ns le) in
    let P : List Open → Type 0 = λ xs. Placed body code (own_nexts low os' ns') xs in
    let Q : List (List Instr) → Type 0 = λ xs. Placed body code xs (o ∷ above low os) in
    subst P (sym opens_now) (subst Q (sym nexts_now) (placed_enter body i hot.code.now code (own_nexts low os ns) (above low os) o next.now p n h c))

left : (hot : Hot) (values : List ℕ) (os : List Open) (ns : List (Bor (List Instr))) (code next : Bor (List Instr)) (o : Open)
    → StandsInArray hot values (o ∷ os) (next ∷ ns) → hot.low ≤ length os → code.now ≡ rest_of o.loops next.now
    → GoesOnAnywhere (λ a. leave (place a hot values (o ∷ os) (next ∷ ns))) hot (hot_with hot code hot.marks) values values (o ∷ os) os (next ∷ ns) ns
left hot values os ns code next o st le r =
    let m = hot.marks in
    let low = hot.low in
    let ops = operands_in m.floor m.sp values in
    let size = length_operands m.floor m.sp values st.within.room in
    let opens_were = above_more low o os le in
    let nexts_were = nexts_more low o os next ns le in
    let tower : IsTower (o ∷ above low os) (m.sp - m.floor) = subst (λ xs. IsTower xs (m.sp - m.floor)) opens_were st.tower in
    record {
      on = λ a.
          let at = λ (xs : List (List Instr)) (ys : List Open). leave (spot_in (around a hot values) hot.code.now xs ys ops) in
          ap (λ xs. at xs (above low (o ∷ os))) nexts_were
          ∙ (ap (at (next.now ∷ own_nexts low os ns)) opens_were
          ∙ (leave_goes (around a hot values) hot.code.now (next.now ∷ own_nexts low os ns) o (above low os) ops (subst (IsTower (o ∷ above low os)) (sym size) tower)
          ∙ ap (λ c. Goes (thread_at (spot_in (around a hot values) c (own_nexts low os ns) (above low os) ops))) (sym r)));
      stands = record {
        within = st.within;
        low = le;
        many = omega (arith, st.many, le);
        tower = lower (above low os) o.height (m.sp - m.floor) tower.0 tower.1;
      };
      low = refl;
      base = refl;
      deep = refl;
      others = sym (under_more low o os le);
      other_nexts = sym (drop_more low o os next ns le);
    }

pub leave_runs : (hot : Hot) (values : List ℕ) (os os' : List Open) (ns ns' : List (Bor (List Instr))) (code next : Bor (List Instr)) (o : Open)
    → StandsInArray hot values os ns → hot.low < length os → code.now ≡ rest_of o.loops next.now → os ≡ o ∷ os' → ns ≡ next ∷ ns'
    → GoesOnAnywhere (λ a. leave (place a hot values os ns)) hot (hot_with hot code hot.marks) values values os os' ns ns'
leave_runs hot values os os' ns ns' code next o st lt r e e' =
    let P : List Open → Type 0 = λ xs. StandsInArray hot values xs ns → GoesOnAnywhere (λ a. leave (place a hot values xs ns)) hot (hot_with hot code hot.marks) values values xs os' ns ns' in
    let Q : List (Bor (List Instr)) → Type 0 = λ xs. StandsInArray hot values (o ∷ os') xs
    → GoesOnAnywhere (λ a. leave (place a hot values (o ∷ os') xs)) hot (hot_with hot code hot.marks) values values (o ∷ os') os' xs ns' in
    subst P (sym e) (subst Q (sym e') (λ st. left hot values os' ns' code next o st (omega (arith, lt, ap length e)) r)) st

pub leave_placed : (body : List Instr) (hot : Hot) (os os' : List Open) (ns ns' : List (Bor (List Instr))) (code next : Bor (List Instr)) (o : Open)
    → hot.low < length os → code.now ≡ rest_of o.loops next.now → os ≡ o ∷ os' → ns ≡ next ∷ ns'
    → Placed body hot.code.now (own_nexts hot.low os ns) (above hot.low os) → Placed body code.now (own_nexts hot.low os' ns') (above hot.low os')
leave_placed body hot os os' ns ns' code next o lt r e e' p =
    let low = hot.low in
    let le : low ≤ length os' = omega (arith, lt, ap length e) in
    let opens_were : above low os ≡ o ∷ above low os' = ap (above low) e ∙ above_more low o os' le in
    let nexts_were : own_nexts low os ns ≡ next.now ∷ own_nexts low os' ns' = ap (λ xs. own_nexts low xs ns) e ∙ (ap (own_nexts low (o ∷ os')) e' ∙ nexts_more low o os' next ns' le) in
    let P : List Open → Type 0 = λ xs. Placed body hot.code.now (own_nexts low os ns) xs in
    let Q : List (List Instr) → Type 0 = λ xs. Placed body hot.code.now xs (o ∷ above low os') in
    let R : List Instr → Type 0 = λ c. Placed body c (own_nexts low os' ns') (above low os') in
    subst R (sym r) (placed_leave body hot.code.now next.now (own_nexts low os' ns') o (above low os') (subst Q nexts_were (subst P opens_were p)))

first_lower : (n : ℕ) (os : List Open) (p o : Open) (h : ℕ) → IsTower (p ∷ os) h → slice_get (p ∷ os) n ≡ Some o → o.height ≤ p.height
first_lower zero os p o h t e = let same : p ≡ o = cc in subst (λ (x : Open). x.height ≤ p.height) same (omega arith)
first_lower (suc n) os p o h t e = tower_at n os p.height o t.1 e

pub kept_room : (n k : ℕ) (os : List Open) (o : Open) (ops : List ℕ) → IsTower os (length ops) → slice_get os n ≡ Some o → k ≤ length (values_in os ops) → o.height + k ≤ length ops
kept_room n k [] o ops t e le = cc
kept_room n k (p ∷ os) o ops t e le = omega (arith, length_above p.height ops, first_lower n os p o (length ops) t e, t.0, le)

tower_drop : (n : ℕ) (os : List Open) (h : ℕ) (o : Open) → IsTower os h → slice_get os n ≡ Some o → IsTower (drop (suc n) os) o.height
tower_drop n [] h o t e = cc
tower_drop zero (p ∷ os) h o t e = let same : p ≡ o = cc in subst (λ (x : Open). IsTower os x.height) same t.1
tower_drop (suc n) (p ∷ os) h o t e = tower_drop n os p.height o t.1 e

-- the room of a branch
pub branch_room : (hot : Hot) (values : List ℕ) (os : List Open) (ns : List (Bor (List Instr))) (n : ℕ) (o : Open) → StandsInArray hot values os ns → n + hot.low < length os → slice_get os n ≡ Some o
    → HasKept (above hot.low os) n (operands_in hot.marks.floor hot.marks.sp values) → hot.marks.floor + o.height + truth o.keeps ≤ hot.marks.sp
branch_room hot values os ns n o st lt e kept =
    let m = hot.marks in
    let ops = operands_in m.floor m.sp values in
    let size = length_operands m.floor m.sp values st.within.room in
    let at = get_above hot.low n os lt ∙ e in
    let room = kept_room n (truth o.keeps) (above hot.low os) o ops (subst (IsTower (above hot.low os)) (sym size) st.tower) at (kept o at) in
    omega (arith, room, size, st.within.operands)

branched : (hot : Hot) (values values' : List ℕ) (os : List Open) (ns : List (Bor (List Instr))) (n sp : ℕ) (next : Bor (List Instr)) (o : Open)
    → StandsInArray hot values os ns → n + hot.low < length os → slice_get os n ≡ Some o → slice_get ns n ≡ Some next → HasKept (above hot.low os) n (operands_in hot.marks.floor hot.marks.sp values)
    → sp ≡ hot.marks.floor + o.height + truth o.keeps → length values' ≡ length values
    → operands_in hot.marks.floor sp values' ≡ take (truth o.keeps) (operands_in hot.marks.floor hot.marks.sp values) ++ under o.height (operands_in hot.marks.floor hot.marks.sp values)
    → locals_in hot.marks.base hot.marks.floor values' ≡ locals_in hot.marks.base hot.marks.floor values → take hot.marks.base values' ≡ take hot.marks.base values
    → GoesOnAnywhere (λ a. let p = place a hot values os ns in branch_at p n p.level.values) hot (hot_with hot next (raised hot.marks sp)) values values' os (drop (suc n) os) ns (drop (suc n) ns)
branched hot values values' os ns n sp next o st lt at at' kept s size ops_now locals_now deep_now =
    let m = hot.marks in
    let low = hot.low in
    let ops = operands_in m.floor m.sp values in
    let long = length_operands m.floor m.sp values st.within.room in
    let tower : IsTower (above low os) (length ops) = subst (IsTower (above low os)) (sym long) st.tower in
    let here = get_above low n os lt ∙ at in
    let room = branch_room hot values os ns n o st lt at kept in
    let w : suc n + low ≤ length os = omega (arith, lt) in
    let opens_now = above_drop low (suc n) os w in
    let nexts_now = nexts_drop low (suc n) os ns w in
    record {
      on = λ a.
          let b = around a hot values in
          let b' = around a (hot_with hot next (raised m sp)) values' in
          let to = λ (c : List Instr) (xs : List (List Instr)) (ys : List Open) (vs : List ℕ). Goes (thread_at (spot_in b c xs ys vs)) in
          let vs = take (truth o.keeps) ops ++ under o.height ops in
          branch_goes b n hot.code.now (own_nexts low os ns) (above low os) ops o tower here (kept o here)
          ∙ (ap (λ c. to c (drop (suc n) (own_nexts low os ns)) (drop (suc n) (above low os)) vs) (next_own low n os ns next lt at')
          ∙ (ap (λ xs. to next.now xs (drop (suc n) (above low os)) vs) (sym nexts_now)
          ∙ (ap (λ ys. to next.now (own_nexts low (drop (suc n) os) (drop (suc n) ns)) ys vs) (sym opens_now)
          ∙ (ap (to next.now (own_nexts low (drop (suc n) os) (drop (suc n) ns)) (above low (drop (suc n) os))) (sym ops_now)
          ∙ ap (λ ls. Goes (thread_at (spot_in (record { store = a.store; locals = ls; gives = a.gives; frames = a.frames }) next.now (own_nexts low (drop (suc n) os) (drop (suc n) ns)) (above low (drop (suc n) os)) (operands_in m.floor sp values')))) (sym locals_now)))));
      stands = record {
        within = record { locals = st.within.locals; operands = omega (arith, s); room = omega (arith, s, room, st.within.room, size) };
        low = omega (arith, w, length-drop (suc n) os);
        many = omega (arith, st.many, length-drop (suc n) os, length-drop (suc n) ns);
        tower = subst (λ xs. IsTower xs (sp - m.floor)) (sym opens_now) (lower (drop (suc n) (above low os)) o.height (sp - m.floor) (omega (arith, s)) (tower_drop n (above low os) (length ops) o tower here));
      };
      low = refl;
      base = refl;
      deep = deep_now;
      others = under_drop low (suc n) os w;
      other_nexts = drop_drop low (suc n) os ns w;
    }

pub branch_runs : (hot : Hot) (values values' : List ℕ) (os os' : List Open) (ns ns' : List (Bor (List Instr))) (n : ℕ) (marks : Marks) (next : Bor (List Instr)) (o : Open) (sp : ℕ)
    → StandsInArray hot values os ns → n + hot.low < length os → slice_get os n ≡ Some o → slice_get ns n ≡ Some next → HasKept (above hot.low os) n (operands_in hot.marks.floor hot.marks.sp values)
    → sp ≡ hot.marks.floor + o.height + truth o.keeps → length values' ≡ length values
    → operands_in hot.marks.floor sp values' ≡ take (truth o.keeps) (operands_in hot.marks.floor hot.marks.sp values) ++ under o.height (operands_in hot.marks.floor hot.marks.sp values)
    → locals_in hot.marks.base hot.marks.floor values' ≡ locals_in hot.marks.base hot.marks.floor values → take hot.marks.base values' ≡ take hot.marks.base values
    → os' ≡ drop (suc n) os → ns' ≡ drop (suc n) ns → marks ≡ raised hot.marks sp
    → GoesOnAnywhere (λ a. let p = place a hot values os ns in branch_at p n p.level.values) hot (hot_with hot next marks) values values' os os' ns ns'
branch_runs hot values values' os os' ns ns' n marks next o sp st lt at at' kept s size ops_now locals_now deep_now e e' q =
    let out = λ (a : Outer). let p = place a hot values os ns in branch_at p n p.level.values in
    let P : List Open → Type 0 = λ xs. GoesOnAnywhere out hot (hot_with hot next marks) values values' os xs ns ns' in
    let Q : List (Bor (List Instr)) → Type 0 = λ xs. GoesOnAnywhere out hot (hot_with hot next marks) values values' os (drop (suc n) os) ns xs in
    let R : Marks → Type 0 = λ m. GoesOnAnywhere out hot (hot_with hot next m) values values' os (drop (suc n) os) ns (drop (suc n) ns) in
    subst P (sym e) (subst Q (sym e') (subst R (sym q) (branched hot values values' os ns n sp next o st lt at at' kept s size ops_now locals_now deep_now)))

pub branch_placed : (body : List Instr) (hot : Hot) (os os' : List Open) (ns ns' : List (Bor (List Instr))) (n : ℕ) (next : Bor (List Instr))
    → n + hot.low < length os → slice_get ns n ≡ Some next → os' ≡ drop (suc n) os → ns' ≡ drop (suc n) ns
    → Placed body hot.code.now (own_nexts hot.low os ns) (above hot.low os) → Placed body next.now (own_nexts hot.low os' ns') (above hot.low os')
branch_placed body hot os os' ns ns' n next lt at' e e' p =
    let low = hot.low in
    let w : suc n + low ≤ length os = omega (arith, lt) in
    let opens_now : above low os' ≡ drop (suc n) (above low os) = ap (above low) e ∙ above_drop low (suc n) os w in
    let nexts_now : own_nexts low os' ns' ≡ drop (suc n) (own_nexts low os ns) = ap (λ xs. own_nexts low xs ns') e ∙ (ap (own_nexts low (drop (suc n) os)) e' ∙ nexts_drop low (suc n) os ns w) in
    let own : n < length (above low os) = omega (arith, lt, length_above low os) in
    let P : List Open → Type 0 = λ xs. Placed body next.now (own_nexts low os' ns') xs in
    let Q : List (List Instr) → Type 0 = λ xs. Placed body next.now xs (drop (suc n) (above low os)) in
    let R : List Instr → Type 0 = λ c. Placed body c (drop (suc n) (own_nexts low os ns)) (drop (suc n) (above low os)) in
    subst P (sym opens_now) (subst Q (sym nexts_now) (subst R (next_own low n os ns next lt at') (placed_branch body hot.code.now (own_nexts low os ns) (above low os) n p own)))
