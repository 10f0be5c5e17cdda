-- Frames whose code is found again.
use Rattle.std.proofs.Common.{◌≡◌, ℕ, ◌+◌, ◌-◌, ◌≤◌, List, [], ◌∷◌, ◌++◌, length, take, drop, refl, sym, ap, subst, ◌∙◌, arith, Bor, length-append}
use Rattle.std.specs.Prelude.{map, slice_get, slice_set, Some}
use Rattle.std.proofs.lemmas.List.{take-append-drop}
use Rattle.std.proofs.Math.ListN.{drop_of_length-le}
use Rattle.std.proofs.Math.Seq.{drop-append-add, take-append_seam}
use Rattle.wasm_ast.specs.declared.trees.Instr.{Instr}
use Rattle.wasm_ast.specs.declared.modules.Module.{Module}
use Rattle.wasm_semantics.specs.Operators.{truth}
use Rattle.wasm_semantics.specs.Threads.{Store, Frame}
use Rattle.wasm_semantics.specs.Control.{thread_at}
use Rattle.wasm_data.specs.Cuts.{above, under}
use Rattle.wasm_data.specs.Marked.{locals_in, operands_in}
use Rattle.wasm_blocks.specs.declared.open.Open.{Open}
use Rattle.wasm_blocks.specs.Levels.{spot_in}
use Rattle.wasm_blocks.specs.Rest.{last, code_in, nexts_in, IsEnd}
use Rattle.wasm_blocks.specs.Runs.{own_nexts}
use Rattle.wasm_blocks.proofs.Cuts.{length_above, length_under, under_all}
use Rattle.wasm_frames.specs.declared.active.Place.{Place}
use Rattle.wasm_frames.specs.declared.active.Active.{Active}
use Rattle.wasm_frames.specs.Resting.{body_of, frame_in, frame_at_rest, frames_at_rest, AreResting}
use Rattle.wasm_frames.specs.Standing.{Surroundings, held, thread_in, nexts_under, IsStanding, IsPlaced}
use Rattle.wasm_frames.proofs.Resting.{last_of_end, frame_warm}
use Rattle.wasm_exec.specs.Codes.{HasLaid}
use Rattle.wasm_exec.specs.Going.{active_at, place_of, code_at, HasWarmed}
use Rattle.wasm_exec.specs.Resting.{thread_at_rest}

nows_long : (ns : List (Bor (List Instr))) → length (map (λ s. s.now) ns) ≡ length ns
nows_long [] = refl
nows_long (n ∷ ns) = omega (arith, nows_long ns)

nexts_long : (body : List Instr) (os : List Open) → length (nexts_in body os) ≡ length os
nexts_long body [] = refl
nexts_long body (o ∷ os) = omega (arith, nexts_long body os)

-- what was laid for a frame's blocks, seen from the frame
pub record LaidFor (body : List Instr) (low : ℕ) (os : List Open) (old new : List (Bor (List Instr))) : Type 0 where
  pub own : own_nexts low os new ≡ nexts_in body (above low os)
  pub rest : nexts_under low os new ≡ old
  pub many : length os - low ≤ length new

pub laid_for : (body : List Instr) (low : ℕ) (os : List Open) (old new : List (Bor (List Instr))) → HasLaid body (above low os) old new → LaidFor body low os old new
laid_for body low os old new l =
    let n : length os - low ≡ length l.fresh = omega (arith, nows_long l.fresh, ap length l.are, nexts_long body (above low os), length_above low os) in
    let n0 : length os - low ≡ length l.fresh + 0 = omega (arith, n) in
    record {
      own = ap (λ xs. map (λ s. s.now) (take (length os - low) xs)) l.over ∙ (ap (λ k. map (λ s. s.now) (take k (l.fresh ++ old))) n ∙ (ap (map (λ s. s.now)) (take-append_seam l.fresh old) ∙ l.are));
      rest = ap (λ xs. drop (length os - low) xs) l.over ∙ (ap (λ k. drop k (l.fresh ++ old)) n0 ∙ drop-append-add l.fresh old 0);
      many = omega (arith, n, ap length l.over, length-append l.fresh old);
    }

last_end : (whole : List Instr) (n : ℕ) → IsEnd (last whole n) whole
last_end whole n = (take (length whole - n) whole, sym (take-append-drop (length whole - n) whole))

code_ends : (whole code : List Instr) (n : ℕ) → code ≡ last whole n → IsEnd code whole
code_ends whole code n e = subst (λ xs. IsEnd xs whole) (sym e) (last_end whole n)

-- a stack that is cut down to nothing
pub none_left : {A : Type 0} (xs ys : List A) → ys ≡ drop (length xs - 0) xs → ys ≡ []
none_left xs ys e = e ∙ drop_of_length-le xs (omega arith)

-- a frame that begins to run
pub wakes : (m : Module) (st : Store) (p : Place) (ps : List Place) (code : Bor (List Instr)) (values : List ℕ) (os : List Open) (ns : List (Bor (List Instr))) → AreResting (p ∷ ps) values os
    → code.now ≡ code_at m p os → HasLaid (body_of m p.function) (above p.low os) [] ns
    → (thread_in m st (active_at p code) (held ps [] values os ns) ≡ thread_at_rest m st (p ∷ ps) values os)
    × IsStanding (active_at p code) (held ps [] values os ns) × IsPlaced m (active_at p code) (held ps [] values os ns)
wakes m st p ps code values os ns r e l =
    let body = body_of m p.function in
    let own = above p.low os in
    let f = laid_for body p.low os [] ns l in
    let fs = frames_at_rest m ps values (under p.low os) in (
      ap (λ xs. record { store = st; frames = frame_in p xs (own_nexts p.low os ns) own values ∷ fs }) e
          ∙ ap (λ xs. record { store = st; frames = frame_in p (code_at m p os) xs own values ∷ fs }) f.own,
      record {
        here = record { within = r.0.within; low = r.0.low; many = f.many; tower = r.0.tower };
        begins = r.0.begins;
        below = r.1;
        warm = tt;
      },
      record { here = record { nexts_are = f.own; code_ends = code_ends (code_in body own) code.now p.left e }; below = tt },
    )

-- a frame that waits again
pub rests : (m : Module) (st : Store) (a : Active) (h : Surroundings) → IsStanding a h → IsPlaced m a h
    → (thread_at_rest m st (place_of a ∷ h.places) h.values h.opens ≡ thread_in m st a h) × AreResting (place_of a ∷ h.places) h.values h.opens
rests m st a h s pl = (
  ap (λ f. record { store = st; frames = f ∷ frames_at_rest m h.places h.values (under a.hot.low h.opens) }) (frame_warm m (place_of a) a.hot.code h.values h.opens h.nexts refl pl.here),
  (record { within = s.here.within; low = s.here.low; tower = s.here.tower; begins = s.begins }, s.below),
)

first_there : {A : Type 0} (xs : List A) (x : A) → slice_get xs 0 ≡ Some x → xs ≡ x ∷ drop 1 xs
first_there [] x e = cc
first_there (y ∷ xs) x e = let same : y ≡ x = cc in ap (λ z. z ∷ xs) same

-- the frame below, with its code found
abbrev pub found_place : Place → Bor (List Instr) → Place
found_place q code = record { marks = q.marks; left = length code.now; low = q.low; function = q.function; gives = q.gives }

found_same : (m : Module) (q : Place) (code : Bor (List Instr)) (values : List ℕ) (os : List Open) → code.now ≡ code_at m q os → frame_at_rest m (found_place q code) values os ≡ frame_at_rest m q values os
found_same m q code values os e =
    let whole = code_in (body_of m q.function) (above q.low os) in
    let same : last whole (length code.now) ≡ code_at m q os = last_of_end code.now whole (code_ends whole code.now q.left e) ∙ e in
    ap (λ xs. frame_in q xs (nexts_in (body_of m q.function) (above q.low os)) (above q.low os) values) same

warms_at : (m : Module) (a : Active) (q : Place) (qs : List Place) (code : Bor (List Instr)) (values : List ℕ) (os : List Open) (ns ns1 ns2 : List (Bor (List Instr)))
    → IsStanding a (held (q ∷ qs) [] values os ns) → IsPlaced m a (held (q ∷ qs) [] values os ns)
    → code.now ≡ code_at m q (under a.hot.low os) → HasLaid (body_of m q.function) (above q.low (under a.hot.low os)) [] ns1 → HasLaid (body_of m a.function) (above a.hot.low os) ns1 ns2
    → HasWarmed m a (held (q ∷ qs) [] values os ns) (held (found_place q code ∷ qs) (code ∷ []) values os ns2)
warms_at m a q qs code values os ns ns1 ns2 s pl e l1 l2 =
    let low = a.hot.low in
    let k = a.hot.marks in
    let own = above low os in
    let below = under low os in
    let body = body_of m a.function in
    let bodyq = body_of m q.function in
    let f1 = laid_for bodyq q.low below [] ns1 l1 in
    let f2 = laid_for body low os ns1 ns2 l2 in
    let frames = ap (λ f. f ∷ frames_at_rest m qs values (under q.low below)) (found_same m q code values below e) in
    let at = λ (st : Store) (xs : List (List Instr)) (fs : List Frame).
    thread_at (spot_in (record { store = st; locals = locals_in k.base k.floor values; gives = truth a.gives; frames = fs }) a.hot.code.now xs own (operands_in k.floor k.sp values)) in
    let r = s.below in
    let N = sym f2.rest in
    record {
      thread = λ st. ap (λ xs. at st xs (frames_at_rest m (found_place q code ∷ qs) values below)) (f2.own ∙ sym pl.here.nexts_are)
          ∙ ap (at st (own_nexts low os ns)) frames;
      stands = record {
        here = record { within = s.here.within; low = s.here.low; many = f2.many; tower = s.here.tower };
        begins = s.begins;
        below = (record { within = r.0.within; low = r.0.low; tower = r.0.tower; begins = r.0.begins }, r.1);
        warm = (record { left = refl; many = subst (λ xs. length below - q.low ≤ length xs) N f1.many }, tt);
      };
      placed = record {
        here = record { nexts_are = f2.own; code_ends = pl.here.code_ends };
        below = (record { nexts_are = subst (λ xs. own_nexts q.low below xs ≡ nexts_in bodyq (above q.low below)) N f1.own; code_ends = code_ends (code_in bodyq (above q.low below)) code.now q.left e }, tt);
      };
      frames = refl;
      warm = omega arith;
    }

-- the blocks of the frame below lie under those of the frame that runs
pub below_low : (a : Active) (q : Place) (ps : List Place) (cs : List (Bor (List Instr))) (values : List ℕ) (os : List Open) (ns : List (Bor (List Instr))) → IsStanding a (held ps cs values os ns) → slice_get ps 0 ≡ Some q
    → q.low ≤ a.hot.low
below_low a q ps cs values os ns s e =
    let r = subst (λ xs. AreResting xs values (under a.hot.low os)) (first_there ps q e) s.below in
    omega (arith, r.0.low, length_under a.hot.low os s.here.low)

pub warms : (m : Module) (a : Active) (q : Place) (ps ps' : List Place) (cs cs' : List (Bor (List Instr))) (code : Bor (List Instr)) (values : List ℕ) (os : List Open) (high : ℕ) (ns ns0 ns1 ns2 : List (Bor (List Instr)))
    → slice_get ps 0 ≡ Some q → cs ≡ [] → IsStanding a (held ps cs values os ns) → IsPlaced m a (held ps cs values os ns)
    → high ≡ length os → ns0 ≡ [] → code.now ≡ code_at m q (under a.hot.low os) → HasLaid (body_of m q.function) (above q.low (under a.hot.low os)) ns0 ns1
    → HasLaid (body_of m a.function) (above a.hot.low (under high os)) ns1 ns2 → cs' ≡ code ∷ cs → ps' ≡ slice_set ps 0 (found_place q code)
    → HasWarmed m a (held ps cs values os ns) (held ps' cs' values os ns2)
warms m a q ps ps' cs cs' code values os high ns ns0 ns1 ns2 there none s pl whole empty e l1 l2 pushed put =
    let qs = drop 1 ps in
    let E = first_there ps q there in
    let S : List Place → List (Bor (List Instr)) → Type 0 = λ xs ys. IsStanding a (held xs ys values os ns) in
    let P : List Place → List (Bor (List Instr)) → Type 0 = λ xs ys. IsPlaced m a (held xs ys values os ns) in
    let W : List Place → List (Bor (List Instr)) → List Place → List (Bor (List Instr)) → Type 0 = λ xs ys zs us. HasWarmed m a (held xs ys values os ns) (held zs us values os ns2) in
    let s' : S (q ∷ qs) [] = subst (S (q ∷ qs)) none (subst (λ xs. S xs cs) E s) in
    let pl' : P (q ∷ qs) [] = subst (P (q ∷ qs)) none (subst (λ xs. P xs cs) E pl) in
    let l1' = subst (λ xs. HasLaid (body_of m q.function) (above q.low (under a.hot.low os)) xs ns1) empty l1 in
    let l2' = subst (λ xs. HasLaid (body_of m a.function) (above a.hot.low xs) ns1 ns2) (under_all os high (sym whole)) l2 in
    let g = warms_at m a q qs code values os ns ns1 ns2 s' pl' e l1' l2' in
    let to : ps' ≡ found_place q code ∷ qs = put ∙ ap (λ xs. slice_set xs 0 (found_place q code)) E in
    let cs_to : cs' ≡ code ∷ [] = pushed ∙ ap (λ ys. code ∷ ys) none in
    subst (λ xs. W xs cs ps' cs') (sym E) (subst (λ ys. W (q ∷ qs) ys ps' cs') (sym none)
    (subst (λ zs. W (q ∷ qs) [] zs cs') (sym to) (subst (λ us. W (q ∷ qs) [] (found_place q code ∷ qs) us) (sym cs_to) g)))
