-- A unit takes the instruction in front, which is never stuck and has its operands.
use Rattle.std.proofs.Common.{◌≡◌, ◌≢◌, ℕ, ◌-◌, ◌<◌, ◌≤◌, false, List, [], ◌∷◌, length, take, get_or, refl, ap, subst, ◌∙◌, arith, Bor, length-take}
use Rattle.std.specs.Prelude.{nat_eq, if◌then◌else◌, zero, suc, slice_get, Option, Some, None}
use Rattle.std.proofs.lemmas.Bool.Decides.{nat_tests}
use Rattle.wasm_ast.specs.declared.val_types.ValType.{ValType}
use Rattle.wasm_ast.specs.declared.val_types.ValType.TheVariants.{I32}
use Rattle.wasm_ast.specs.declared.func_types.FuncType.{FuncType}
use Rattle.wasm_ast.specs.declared.imports.Import.{Import}
use Rattle.wasm_ast.specs.declared.trees.Instr.{Instr}
use Rattle.wasm_ast.specs.declared.trees.Instr.TheOpen.{Instr-F}
use Rattle.wasm_ast.specs.declared.modules.Module.{Module}
use Rattle.wasm_ast.specs.Trees.{Layer, layer}
use Rattle.wasm_ast.specs.Validity.{Valid}
use Rattle.wasm_ast.specs.Spaces.{type_of}
use Rattle.wasm_ast.specs.Hosts.{same_type}
use Rattle.wasm_semantics.specs.declared.traps.Trap.TheVariants as trap
use Rattle.wasm_semantics.specs.Data.{with_some}
use Rattle.wasm_semantics.specs.Threads.{Store, Level, Goes, Trapped, Stuck}
use Rattle.wasm_semantics.specs.Control.{Spot, thread_at, level_with, spot_with, onto, branch, branch_at, leave, call_of, indirect}
use Rattle.wasm_semantics.specs.Units.{act, unit_at, unit_front, unit, limited}
use Rattle.wasm_semantics.specs.OfModule.{IsOf, Sound}
use Rattle.wasm_semantics.specs.Operands.{operand_types, LieOnTop}
use Rattle.wasm_semantics.specs.Laws.{before}
use Rattle.wasm_semantics.proofs.Units.{unit_sound}
use Rattle.wasm_semantics.proofs.Operands.{operands_fit}
use Rattle.wasm_semantics.proofs.Values.{holds_length}
use Rattle.wasm_data.specs.Cuts.{above}
use Rattle.wasm_data.specs.Marked.{operands_in}
use Rattle.wasm_data.proofs.Arrays.{length_operands}
use Rattle.wasm_blocks.specs.Levels.{Around, values_in, spot_in}
use Rattle.wasm_blocks.specs.Runs.{own_nexts}
use Rattle.wasm_blocks.proofs.Levels.{height_of, spot_more}
use Rattle.wasm_frames.specs.declared.active.Active.{Active}
use Rattle.wasm_frames.specs.Standing.{Surroundings, spot_at, thread_in, IsStanding}
use Rattle.wasm_frames.proofs.FewerOperands.{own_operands, with_sp, sp_room}

-- behind the instruction
abbrev pub passed : Active → Bor (List Instr) → Active
passed a rest = record { hot = record { code = rest; marks = a.hot.marks; low = a.hot.low }; function = a.function; gives = a.gives }

pub passed_stands : (a : Active) (h : Surroundings) (rest : Bor (List Instr)) → IsStanding a h → IsStanding (passed a rest) h
passed_stands a h rest s = record {
  here = record { within = s.here.within; low = s.here.low; many = s.here.many; tower = s.here.tower };
  begins = s.begins;
  below = s.below;
  warm = s.warm;
}

pub takes : (m : Module) (pages : ℕ) (st : Store) (a : Active) (h : Surroundings) (i : Instr) (rest : Bor (List Instr)) (y : Layer) → a.hot.code.now ≡ i ∷ rest.now → layer i ≡ y
    → unit_at m pages (spot_at m st a h) ≡ act m pages i y (spot_at m st (passed a rest) h)
takes m pages st a h i rest y e l =
    let p = spot_at m st a h in
    ap (λ c. unit_front m pages c p) e ∙ ap (λ y. act m pages i y (spot_at m st (passed a rest) h)) l

pub ends : (m : Module) (pages : ℕ) (st : Store) (a : Active) (h : Surroundings) → a.hot.code.now ≡ [] → unit_at m pages (spot_at m st a h) ≡ leave (spot_at m st a h)
ends m pages st a h e = let p = spot_at m st a h in ap (λ c. unit_front m pages c p) e

pub typed : (m : Module) (pages : ℕ) (st : Store) (a : Active) (h : Surroundings) → Valid m → IsOf m (thread_in m st a h) → unit_at m pages (spot_at m st a h) ≢ Stuck
unfolding unit
typed m pages st a h valid of stuck =
    let s : Sound m (limited (unit_at m pages (spot_at m st a h))) = unit_sound m pages (thread_in m st a h) valid of in
    subst (λ o. Sound m (limited o)) stuck s

pub typed_act : (m : Module) (pages : ℕ) (st : Store) (a : Active) (h : Surroundings) (i : Instr) (rest : Bor (List Instr)) (y : Layer) → Valid m → IsOf m (thread_in m st a h) → a.hot.code.now ≡ i ∷ rest.now → layer i ≡ y
    → act m pages i y (spot_at m st (passed a rest) h) ≢ Stuck
typed_act m pages st a h i rest y valid of e l stuck = typed m pages st a h valid of (takes m pages st a h i rest y e l ∙ stuck)

pub fits : (m : Module) (st : Store) (a : Active) (h : Surroundings) (i : Instr) (rest : Bor (List Instr)) (y : Layer) → IsOf m (thread_in m st a h) → a.hot.code.now ≡ i ∷ rest.now → layer i ≡ y
    → LieOnTop (operand_types m y) (values_in (above a.hot.low h.opens) (own_operands a h))
fits m st a h i rest y of e l =
    let p = spot_at m st (passed a rest) h in
    let at = λ (c : List Instr). thread_at (spot_with p p.level.values c) in
    let of' : IsOf m (thread_at (before i p)) = subst (λ c. IsOf m (at c)) e of in
    subst (λ y. LieOnTop (operand_types m y) p.level.values) l (operands_fit m p i of')

pub fits_many : (ts : List ValType) (vs : List ℕ) → LieOnTop ts vs → length ts ≤ length vs
fits_many ts vs f = omega (arith, holds_length ts (take (length ts) vs) f, length-take (length ts) vs)

-- an operand on top
pub pops : (m : Module) (st : Store) (a : Active) (h : Surroundings) (i : Instr) (rest : Bor (List Instr)) (y : Layer) (ts : List ValType) → IsOf m (thread_in m st a h) → a.hot.code.now ≡ i ∷ rest.now → layer i ≡ y
    → operand_types m y ≡ I32 ∷ ts → 1 ≤ length (values_in (above a.hot.low h.opens) (own_operands a h))
pops m st a h i rest y ts of e l t =
    let vs = values_in (above a.hot.low h.opens) (own_operands a h) in
    omega (arith, fits_many (I32 ∷ ts) vs (subst (λ ts. LieOnTop ts vs) t (fits m st a h i rest y of e l)))

pub pop_room : (a : Active) (h : Surroundings) → IsStanding a h → 1 ≤ length (values_in (above a.hot.low h.opens) (own_operands a h)) → a.hot.marks.floor < a.hot.marks.sp
pop_room a h s le = omega (arith, sp_room a h 1 s le)

-- with it taken off
pub spot_popped : (m : Module) (st : Store) (a : Active) (h : Surroundings) (v : ℕ) → IsStanding a h → 1 ≤ length (values_in (above a.hot.low h.opens) (own_operands a h))
    → own_operands a h ≡ v ∷ operands_in a.hot.marks.floor (a.hot.marks.sp - 1) h.values
    → (let q = spot_at m st (with_sp a (a.hot.marks.sp - 1)) h in spot_at m st a h ≡ spot_with q (v ∷ q.level.values) a.hot.code.now)
spot_popped m st a h v s le e =
    let k = a.hot.marks in
    let p = spot_at m st a h in
    let around : Around = record { store = st; locals = p.locals; gives = p.gives; frames = p.frames } in
    let own = above a.hot.low h.opens in
    let nexts = own_nexts a.hot.low h.opens h.nexts in
    let ops = operands_in k.floor (k.sp - 1) h.values in
    let w = s.here.within in
    let high : height_of own ≤ length ops = omega (arith, sp_room a h 1 s le, length_operands k.floor (k.sp - 1) h.values (omega (arith, w.room))) in
    ap (spot_in around a.hot.code.now nexts own) e ∙ spot_more around a.hot.code.now nexts own ops (v ∷ []) high

branch_levels : (p : Spot) (xs : List ℕ) (code : List Instr) (n : ℕ) (vs : List ℕ) (ls : List Level) → branch (spot_with p xs code) n vs ls ≡ branch p n vs ls
branch_levels p xs code n vs [] = refl
branch_levels p xs code zero vs (l ∷ []) = refl
branch_levels p xs code zero vs (l ∷ o ∷ os) = refl
branch_levels p xs code (suc n) vs (l ∷ ls) = branch_levels p xs code n vs ls

pub branch_any : (p : Spot) (xs : List ℕ) (code : List Instr) (n : ℕ) (vs : List ℕ) (l : Level) (ls : List Level) → branch (spot_with p xs code) n vs (level_with l xs code ∷ ls) ≡ branch p n vs (l ∷ ls)
branch_any p xs code zero vs l [] = refl
branch_any p xs code zero vs l (o ∷ os) = refl
branch_any p xs code (suc n) vs l ls = branch_levels p xs code n vs ls

is_false : (v : ℕ) → v ≢ 0 → nat_eq v 0 ≡ false
is_false v h = grind (arith, nat_tests)

-- the popped forms of the instructions that take a condition or an index
abbrev pub over : Spot → ℕ → List Instr → Spot
over q v code = spot_with q (v ∷ q.level.values) code

pub if_zero : (m : Module) (pages : ℕ) (i : Instr) (q : Spot) (v n : ℕ) → v ≡ 0 → act m pages i (Instr-F.BrIf n) (over q v q.level.code) ≡ Goes (thread_at (spot_with q q.level.values q.level.code))
if_zero m pages i q v n e = let p = over q v q.level.code in ap (λ b. if nat_eq b 0 then onto p q.level.values else branch_at p n q.level.values) e

pub if_not : (m : Module) (pages : ℕ) (i : Instr) (q : Spot) (v n : ℕ) → v ≢ 0 → act m pages i (Instr-F.BrIf n) (over q v q.level.code) ≡ branch_at q n q.level.values
if_not m pages i q v n e =
    let p = over q v q.level.code in
    ap (λ b. if b then onto p q.level.values else branch_at p n q.level.values) (is_false v e) ∙ branch_any q (v ∷ q.level.values) q.level.code n q.level.values q.level q.levels

pub by_table : (m : Module) (pages : ℕ) (i : Instr) (q : Spot) (v : ℕ) (ns : List ℕ) (n : ℕ) → act m pages i (Instr-F.BrTable ns n) (over q v q.level.code) ≡ branch_at q (get_or ns v n) q.level.values
by_table m pages i q v ns n = branch_any q (v ∷ q.level.values) q.level.code (get_or ns v n) q.level.values q.level q.levels

call_any : (m : Module) (x : ℕ) (q : Spot) (xs vs : List ℕ) (code : List Instr) (o : Option Import) → code ≡ q.level.code → call_of m x (spot_with q xs code) vs o ≡ call_of m x q vs o
call_any m x q xs vs code None e = ap (λ c. call_of m x (spot_with q xs c) vs None) e
call_any m x q xs vs code (Some i) e = ap (λ c. call_of m x (spot_with q xs c) vs (Some i)) e

indirect_any : (m : Module) (ft : FuncType) (q : Spot) (xs vs : List ℕ) (o : Option (Option ℕ)) → indirect m ft (spot_with q xs q.level.code) vs o ≡ indirect m ft q vs o
indirect_any m ft q xs vs None = refl
indirect_any m ft q xs vs (Some None) = refl
indirect_any m ft q xs vs (Some (Some x)) =
    ap (λ c. with_some Stuck (type_of m x) (λ found. if same_type found ft then c else Trapped trap.TypeDiffers))
    (call_any m x q xs vs q.level.code (slice_get m.imports x) refl)

pub by_indirect : (m : Module) (pages : ℕ) (i : Instr) (q : Spot) (v k : ℕ) (ft : FuncType) → slice_get m.types k ≡ Some ft
    → act m pages i (Instr-F.CallIndirect k) (over q v q.level.code) ≡ indirect m ft q q.level.values (slice_get q.store.table v)
by_indirect m pages i q v k ft e =
    let p = over q v q.level.code in
    ap (λ o. with_some Stuck o (λ ft. indirect m ft p q.level.values (slice_get q.store.table v))) e ∙ indirect_any m ft q (v ∷ q.level.values) q.level.values (slice_get q.store.table v)
