-- Frames that wait stay the same where the values below their end stay.
use Rattle.std.proofs.Common.{◌≡◌, ℕ, ◌+◌, ◌-◌, ◌≤◌, List, [], ◌∷◌, ◌++◌, length, take, drop, refl, sym, ap, ◌∙◌, arith, Bor, length-append}
use Rattle.std.proofs.Math.Seq.{drop-append-add}
use Rattle.wasm_ast.specs.declared.trees.Instr.{Instr}
use Rattle.wasm_ast.specs.declared.modules.Module.{Module}
use Rattle.wasm_semantics.specs.Operators.{truth}
use Rattle.wasm_semantics.specs.Threads.{Store, Frame, Goes}
use Rattle.wasm_semantics.specs.Control.{thread_at, hand}
use Rattle.wasm_data.specs.Cuts.{above, under}
use Rattle.wasm_data.specs.Marked.{AreInArray, locals_in, operands_in}
use Rattle.wasm_data.proofs.Opened.{locals_before, operands_before, take_before}
use Rattle.wasm_blocks.specs.declared.open.Open.{Open}
use Rattle.wasm_blocks.specs.Levels.{Around, level_in, levels_in, spot_in}
use Rattle.wasm_blocks.specs.Rest.{last, code_in, nexts_in, IsEnd, Placed}
use Rattle.wasm_blocks.specs.Runs.{own_nexts}
use Rattle.wasm_blocks.proofs.Levels.{height_of, spot_more}
use Rattle.wasm_frames.specs.declared.active.Place.{Place}
use Rattle.wasm_frames.specs.Resting.{body_of, frame_in, frame_at_rest, frames_at_rest, BeginsAt, AreResting}

abbrev frame_by : ℕ → List Instr → List (List Instr) → List Open → List ℕ → List ℕ → Frame
frame_by gives code nexts own locals operands = record { locals = locals; levels = level_in code nexts own operands ∷ levels_in nexts own operands; gives = gives }

same_frame : (m : Module) (p : Place) (n : ℕ) (values values' : List ℕ) (os : List Open) → p.marks.sp ≤ n → AreInArray p.marks (length values) → take n values' ≡ take n values
    → frame_at_rest m p values' os ≡ frame_at_rest m p values os
same_frame m p n values values' os le w deep =
    let k = p.marks in
    let own = above p.low os in
    let body = body_of m p.function in
    let f = frame_by (truth p.gives) (last (code_in body own) p.left) (nexts_in body own) own in
    ap (λ ls. f ls (operands_in k.floor k.sp values')) (locals_before k.base k.floor n values' values w.locals (omega (arith, le, w.operands)) deep)
    ∙ ap (f (locals_in k.base k.floor values)) (operands_before k.floor k.sp n values' values le deep)

-- all that wait
pub same_frames : (m : Module) (ps : List Place) (n : ℕ) (values values' : List ℕ) (os : List Open) → BeginsAt ps n → AreResting ps values os → take n values' ≡ take n values → length values ≤ length values'
    → (frames_at_rest m ps values' os ≡ frames_at_rest m ps values os) × AreResting ps values' os
same_frames m [] n values values' os b st deep long = (refl, st)
same_frames m (p ∷ ps) n values values' os b st deep long =
    let w = st.0.within in
    let le : p.marks.base ≤ n = omega (arith, b, w.locals, w.operands) in
    let here = same_frame m p n values values' os (omega (arith, b)) w deep in
    let below = same_frames m ps p.marks.base values values' (under p.low os) st.0.begins st.1 (take_before p.marks.base n values' values le deep) long in (
      ap (λ f. f ∷ frames_at_rest m ps values' (under p.low os)) here ∙ ap (λ fs. frame_at_rest m p values os ∷ fs) below.0,
      (record { within = record { locals = w.locals; operands = w.operands; room = omega (arith, w.room, long) }; low = st.0.low; tower = st.0.tower; begins = st.0.begins }, below.1),
    )

pub last_of_end : (xs whole : List Instr) → IsEnd xs whole → last whole (length xs) ≡ xs
last_of_end xs whole e =
    let n : length (e.0 ++ xs) - length xs ≡ length e.0 + 0 = omega (arith, length-append e.0 xs) in
    ap (λ w. last w (length xs)) e.1 ∙ (ap (λ k. drop k (e.0 ++ xs)) n ∙ drop-append-add e.0 xs 0)

-- a frame whose slices are at hand
pub frame_warm : (m : Module) (p : Place) (c : Bor (List Instr)) (values : List ℕ) (os : List Open) (ns : List (Bor (List Instr))) → length c.now ≡ p.left
    → Placed (body_of m p.function) c.now (own_nexts p.low os ns) (above p.low os) → frame_at_rest m p values os ≡ frame_in p c.now (own_nexts p.low os ns) (above p.low os) values
frame_warm m p c values os ns left placed =
    let own = above p.low os in
    let body = body_of m p.function in
    let code : last (code_in body own) p.left ≡ c.now = ap (last (code_in body own)) (sym left) ∙ last_of_end c.now (code_in body own) placed.code_ends in
    ap (λ c. frame_in p c (nexts_in body own) own values) code ∙ ap (λ ns. frame_in p c.now ns own values) (sym placed.nexts_are)

-- results onto the operands of such a frame
pub hand_goes : (st : Store) (kept : List ℕ) (p : Place) (code : List Instr) (nexts : List (List Instr)) (own : List Open) (values : List ℕ) (fs : List Frame)
    → height_of own ≤ length (operands_in p.marks.floor p.marks.sp values)
    → hand st kept (frame_in p code nexts own values ∷ fs)
    ≡ Goes (thread_at (spot_in (record { store = st; locals = locals_in p.marks.base p.marks.floor values; gives = truth p.gives; frames = fs }) code nexts own (kept ++ operands_in p.marks.floor p.marks.sp values)))
hand_goes st kept p code nexts own values fs le =
    let a : Around = record { store = st; locals = locals_in p.marks.base p.marks.floor values; gives = truth p.gives; frames = fs } in
    sym (ap (λ s. Goes (thread_at s)) (spot_more a code nexts own (operands_in p.marks.floor p.marks.sp values) kept le))
