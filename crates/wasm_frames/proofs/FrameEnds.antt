-- The end of a frame.
use Rattle.std.proofs.Common.{◌≡◌, ℕ, ◌+◌, ◌-◌, ◌≤◌, List, [], ◌∷◌, ◌++◌, length, take, drop, refl, sym, ap, subst, ◌∙◌, arith, Bor}
use Rattle.wasm_ast.specs.declared.trees.Instr.{Instr}
use Rattle.wasm_ast.specs.declared.modules.Module.{Module}
use Rattle.wasm_semantics.specs.Operators.{truth}
use Rattle.wasm_semantics.specs.Threads.{Store, Frame, Goes}
use Rattle.std.specs.Prelude.{zero, suc}
use Rattle.wasm_semantics.specs.Control.{Spot, thread_at, hand, finish, branch, branch_at}
use Rattle.wasm_data.specs.declared.marks.Marks.{Marks}
use Rattle.wasm_data.specs.Cuts.{above, under}
use Rattle.wasm_data.specs.Marked.{locals_in, operands_in, raised}
use Rattle.wasm_data.proofs.Arrays.{length_operands}
use Rattle.wasm_data.proofs.Opened.{locals_before, take_before}
use Rattle.wasm_blocks.specs.declared.open.Open.{Open}
use Rattle.wasm_blocks.specs.Levels.{rest_of, first_of, values_in, level_in, levels_in, spot_in}
use Rattle.wasm_blocks.specs.Runs.{own_nexts}
use Rattle.wasm_blocks.proofs.Cuts.{length_above}
use Rattle.wasm_blocks.proofs.Levels.{height_of, heights, split_goes, take_kept}
use Rattle.wasm_blocks.proofs.BlocksOnStacks.{lower}
use Rattle.wasm_frames.specs.declared.active.Place.{Place}
use Rattle.wasm_frames.specs.declared.active.Active.{Active}
use Rattle.wasm_frames.specs.Resting.{frames_at_rest}
use Rattle.wasm_frames.specs.Standing.{held, spot_at, nexts_under, IsStanding, IsPlaced}
use Rattle.wasm_frames.specs.Turns.{CanReturn, Went}
use Rattle.wasm_frames.proofs.Resting.{same_frames, frame_warm, hand_goes}

pub values_fewer : (os : List Open) (ops : List ℕ) → length (values_in os ops) ≤ length ops
values_fewer [] ops = omega arith
values_fewer (o ∷ os) ops = omega (arith, length_above o.height ops)

-- as much as it gives is there
pub room_to_return : (a : Active) (ps : List Place) (cs : List (Bor (List Instr))) (values : List ℕ) (os : List Open) (ns : List (Bor (List Instr)))
    → IsStanding a (held ps cs values os ns) → CanReturn a values os → a.hot.marks.floor + truth a.gives ≤ a.hot.marks.sp
room_to_return a ps cs values os ns s k =
    let m = a.hot.marks in
    let ops = operands_in m.floor m.sp values in
    let w = s.here.within in
    omega (arith, k, values_fewer (above a.hot.low os) ops, length_operands m.floor m.sp values w.room, w.operands)

pub finish_is : (m : Module) (st : Store) (a : Active) (ps : List Place) (cs : List (Bor (List Instr))) (values : List ℕ) (os : List Open) (ns : List (Bor (List Instr))) → CanReturn a values os
    → (let p = spot_at m st a (held ps cs values os ns) in
    finish p p.level.values ≡ hand st (take (truth a.gives) (operands_in a.hot.marks.floor a.hot.marks.sp values)) (frames_at_rest m ps values (under a.hot.low os)))
finish_is m st a ps cs values os ns k =
    let ops = operands_in a.hot.marks.floor a.hot.marks.sp values in
    let own = above a.hot.low os in
    let n = truth a.gives in
    let fs = frames_at_rest m ps values (under a.hot.low os) in
    split_goes n (values_in own ops) (λ kept below. hand st kept fs) k ∙ ap (λ vs. hand st vs fs) (take_kept n own ops k)

-- the frame below, with other marks
abbrev pub resumed : Place → Bor (List Instr) → ℕ → Active
resumed q c sp = record { hot = record { code = c; marks = raised q.marks sp; low = q.low }; function = q.function; gives = q.gives }

finish_at : (m : Module) (st : Store) (a : Active) (q : Place) (qs : List Place) (c : Bor (List Instr)) (cs : List (Bor (List Instr))) (values values' : List ℕ) (os : List Open) (ns : List (Bor (List Instr))) (sp : ℕ)
    → IsStanding a (held (q ∷ qs) (c ∷ cs) values os ns) → IsPlaced m a (held (q ∷ qs) (c ∷ cs) values os ns) → CanReturn a values os
    → sp ≡ q.marks.sp + truth a.gives → length values' ≡ length values
    → operands_in q.marks.floor sp values' ≡ take (truth a.gives) (operands_in a.hot.marks.floor a.hot.marks.sp values) ++ operands_in q.marks.floor q.marks.sp values
    → take q.marks.sp values' ≡ take q.marks.sp values
    → (let p = spot_at m st a (held (q ∷ qs) (c ∷ cs) values os ns) in
    Went m (finish p p.level.values) st (held qs cs values' (under a.hot.low os) (nexts_under a.hot.low os ns)) (resumed q c sp))
finish_at m st a q qs c cs values values' os ns sp s pl k e size ops_now deep =
    let t = q.marks in
    let os1 = under a.hot.low os in
    let ns1 = nexts_under a.hot.low os ns in
    let own = above q.low os1 in
    let nexts = own_nexts q.low os1 ns1 in
    let ops = operands_in t.floor t.sp values in
    let kept = take (truth a.gives) (operands_in a.hot.marks.floor a.hot.marks.sp values) in
    let r = s.below.0 in
    let w = r.within in
    let long = length_operands t.floor t.sp values w.room in
    let high : height_of own ≤ length ops = omega (arith, heights own (t.sp - t.floor) r.tower, long) in
    let room = room_to_return a (q ∷ qs) (c ∷ cs) values os ns s k in
    let fs = frames_at_rest m qs values (under q.low os1) in
    let locals = locals_before t.base t.floor t.sp values' values w.locals w.operands deep in
    let below = same_frames m qs t.base values values' (under q.low os1) r.begins s.below.1 (take_before t.base t.sp values' values (omega (arith, w.locals, w.operands)) deep) (omega (arith, size)) in
    let to = λ (ls vs : List ℕ) (fs : List Frame). Goes (thread_at (spot_in (record { store = st; locals = ls; gives = truth q.gives; frames = fs }) c.now nexts own vs)) in
    record {
      is = finish_is m st a (q ∷ qs) (c ∷ cs) values os ns k
          ∙ (ap (λ f. hand st kept (f ∷ fs)) (frame_warm m q c values os1 ns1 s.warm.0.left pl.below.0)
          ∙ (hand_goes st kept q c.now nexts own values fs high
          ∙ (ap (λ vs. to (locals_in t.base t.floor values) vs fs) (sym ops_now)
          ∙ (ap (λ ls. to ls (operands_in t.floor sp values') fs) (sym locals)
          ∙ ap (to (locals_in t.base t.floor values') (operands_in t.floor sp values')) (sym below.0)))));
      stands = record {
        here = record {
          within = record { locals = w.locals; operands = omega (arith, w.operands, e); room = omega (arith, e, size, room, s.here.within.room, s.here.within.locals, s.begins) };
          low = r.low;
          many = s.warm.0.many;
          tower = lower own (t.sp - t.floor) (sp - t.floor) (omega (arith, e)) r.tower;
        };
        begins = r.begins;
        below = below.1;
        warm = s.warm.1;
      };
      placed = record { here = pl.below.0; below = pl.below.1 };
    }

pub finish_goes : (m : Module) (st : Store) (a : Active) (q : Place) (ps qs : List Place) (c : Bor (List Instr)) (ds cs : List (Bor (List Instr))) (values values' : List ℕ) (os os' : List Open) (ns ns' : List (Bor (List Instr))) (marks : Marks) (sp : ℕ)
    → ps ≡ q ∷ qs → ds ≡ c ∷ cs → os' ≡ under a.hot.low os → ns' ≡ nexts_under a.hot.low os ns → marks ≡ raised q.marks sp
    → IsStanding a (held ps ds values os ns) → IsPlaced m a (held ps ds values os ns) → CanReturn a values os
    → sp ≡ q.marks.sp + truth a.gives → length values' ≡ length values
    → operands_in q.marks.floor sp values' ≡ take (truth a.gives) (operands_in a.hot.marks.floor a.hot.marks.sp values) ++ operands_in q.marks.floor q.marks.sp values
    → take q.marks.sp values' ≡ take q.marks.sp values
    → (let p = spot_at m st a (held ps ds values os ns) in
    Went m (finish p p.level.values) st (held qs cs values' os' ns') (record { hot = record { code = c; marks = marks; low = q.low }; function = q.function; gives = q.gives }))
finish_goes m st a q ps qs c ds cs values values' os os' ns ns' marks sp e1 e2 e3 e4 e5 s pl k e size ops_now deep =
    let R : Marks → Active = λ k. record { hot = record { code = c; marks = k; low = q.low }; function = q.function; gives = q.gives } in
    let G : List Place → List (Bor (List Instr)) → List Open → List (Bor (List Instr)) → Marks → Type 0 =
    λ xs ys zs us k. let p = spot_at m st a (held xs ys values os ns) in Went m (finish p p.level.values) st (held qs cs values' zs us) (R k) in
    let S : List Place → List (Bor (List Instr)) → Type 0 = λ xs ys. IsStanding a (held xs ys values os ns) in
    let P : List Place → List (Bor (List Instr)) → Type 0 = λ xs ys. IsPlaced m a (held xs ys values os ns) in
    let s' : S (q ∷ qs) (c ∷ cs) = subst (λ ys. S (q ∷ qs) ys) e2 (subst (λ xs. S xs ds) e1 s) in
    let p' : P (q ∷ qs) (c ∷ cs) = subst (λ ys. P (q ∷ qs) ys) e2 (subst (λ xs. P xs ds) e1 pl) in
    let g : G (q ∷ qs) (c ∷ cs) (under a.hot.low os) (nexts_under a.hot.low os ns) (raised q.marks sp) = finish_at m st a q qs c cs values values' os ns sp s' p' k e size ops_now deep in
    subst (λ xs. G xs ds os' ns' marks) (sym e1)
    (subst (λ ys. G (q ∷ qs) ys os' ns' marks) (sym e2)
    (subst (λ zs. G (q ∷ qs) (c ∷ cs) zs ns' marks) (sym e3)
    (subst (λ us. G (q ∷ qs) (c ∷ cs) (under a.hot.low os) us marks) (sym e4)
    (subst (λ k. G (q ∷ qs) (c ∷ cs) (under a.hot.low os) (nexts_under a.hot.low os ns) k) (sym e5) g))))

branch_past : (p : Spot) (n : ℕ) (vs : List ℕ) (code : List Instr) (nexts : List (List Instr)) (os : List Open) (ops : List ℕ) → n ≡ length os
    → branch p n vs (level_in code nexts os ops ∷ levels_in nexts os ops) ≡ finish p vs
branch_past p zero vs code nexts [] ops e = refl
branch_past p (suc n) vs code nexts [] ops e = absurd (omega (arith, e))
branch_past p zero vs code nexts (o ∷ os) ops e = absurd (omega (arith, e))
branch_past p (suc n) vs code nexts (o ∷ os) ops e = branch_past p n vs (rest_of o.loops (first_of nexts)) (drop 1 nexts) os (under o.height ops) (omega (arith, e))

-- a branch to the function's own level is a return
pub jump_returns : (m : Module) (st : Store) (a : Active) (n : ℕ) (ps : List Place) (cs : List (Bor (List Instr))) (values : List ℕ) (os : List Open) (ns : List (Bor (List Instr)))
    → n ≡ length os - a.hot.low → (let p = spot_at m st a (held ps cs values os ns) in branch_at p n p.level.values ≡ finish p p.level.values)
jump_returns m st a n ps cs values os ns e =
    let own = above a.hot.low os in
    let ops = operands_in a.hot.marks.floor a.hot.marks.sp values in
    branch_past (spot_at m st a (held ps cs values os ns)) n (values_in own ops) a.hot.code.now (own_nexts a.hot.low os ns) own ops (omega (arith, e, length_above a.hot.low os))
