-- A frame with its topmost operand taken off.
use Rattle.std.proofs.Common.{◌≡◌, ◌≢◌, ℕ, ◌-◌, ◌≤◌, List, [], ◌∷◌, length, refl, sym, ap, subst, arith}
use Rattle.wasm_ast.specs.declared.trees.Instr.{Instr}
use Rattle.wasm_ast.specs.declared.modules.Module.{Module}
use Rattle.wasm_ast.specs.Trees.{Layer}
use Rattle.wasm_semantics.specs.Data.{with_top}
use Rattle.wasm_semantics.specs.Threads.{Store, Outcome, Stuck}
use Rattle.wasm_semantics.specs.Units.{act}
use Rattle.wasm_data.specs.Cuts.{above}
use Rattle.wasm_data.specs.Marked.{operands_in}
use Rattle.wasm_blocks.specs.Levels.{values_in}
use Rattle.wasm_frames.specs.declared.active.Active.{Active}
use Rattle.wasm_frames.specs.Standing.{Surroundings, spot_at, IsStanding, IsPlaced}
use Rattle.wasm_frames.proofs.FewerOperands.{own_operands, with_sp, fewer_stands, fewer_placed}
use Rattle.wasm_units.proofs.Takes.{over, spot_popped}

pub top_there : (vs : List ℕ) (go : ℕ → List ℕ → Outcome) → with_top Stuck vs go ≢ Stuck → 1 ≤ length vs
top_there [] go h = absurd (h refl)
top_there (v ∷ vs) go h = omega arith

pub popped_stands : (a q : Active) (h : Surroundings) → q ≡ with_sp a (a.hot.marks.sp - 1) → IsStanding a h → 1 ≤ length (values_in (above a.hot.low h.opens) (own_operands a h)) → IsStanding q h
popped_stands a q h e s some = subst (λ x. IsStanding x h) (sym e) (fewer_stands a h 1 s some)

pub popped_placed : (m : Module) (a q : Active) (h : Surroundings) → q ≡ with_sp a (a.hot.marks.sp - 1) → IsPlaced m a h → IsPlaced m q h
popped_placed m a q h e pl = subst (λ x. IsPlaced m x h) (sym e) (fewer_placed m a h (a.hot.marks.sp - 1) pl)

-- what an instruction comes to, over the operand that is taken off
pub popped_act : (m : Module) (pages : ℕ) (i : Instr) (y : Layer) (st : Store) (a q : Active) (h : Surroundings) (v : ℕ) → q ≡ with_sp a (a.hot.marks.sp - 1) → IsStanding a h
    → 1 ≤ length (values_in (above a.hot.low h.opens) (own_operands a h)) → own_operands a h ≡ v ∷ operands_in a.hot.marks.floor (a.hot.marks.sp - 1) h.values
    → (let p = spot_at m st q h in act m pages i y (spot_at m st a h) ≡ act m pages i y (over p v p.level.code))
popped_act m pages i y st a q h v e s some top =
    let P : Active → Type 0 = λ x. (let p = spot_at m st x h in act m pages i y (spot_at m st a h) ≡ act m pages i y (over p v p.level.code)) in
    subst P (sym e) (ap (act m pages i y) (spot_popped m st a h v s some top))
