-- Units and typings of instructions that are written out.
use Rattle.std.proofs.Common.{◌≡◌, ◌+◌, ℕ, List, ◌∷◌, ap, ◌∙◌}
use Rattle.std.specs.Prelude.{suc}
use Rattle.wasm_ast.specs.declared.trees.Instr.{Instr}
use Rattle.wasm_ast.specs.declared.modules.Module.{Module}
use Rattle.wasm_ast.specs.Trees.{Layer, layer}
use Rattle.wasm_semantics.specs.Threads.{Store, Level, Frame, Thread, Goes, Stuck}
use Rattle.wasm_semantics.specs.Data.{with_some}
use Rattle.wasm_semantics.specs.Control.{Spot, spot_in, level_with}
use Rattle.wasm_semantics.specs.Units.{act, unit_front, unit_at, limited, unit, after_unit, units_from}

-- where it runs once the instruction in front is taken
abbrev pub taken_at : Store → Frame → List Frame → Level → List Level → List Instr → Spot
taken_at st f fs l ls rest = record { store = st; locals = f.locals; gives = f.gives; frames = fs; level = level_with l l.values rest; levels = ls }

-- a unit takes the instruction in front
pub taken : (m : Module) (pages : ℕ) (st : Store) (f : Frame) (fs : List Frame) (l : Level) (ls : List Level) (i : Instr) (rest : List Instr) (y : Layer) → f.levels ≡ l ∷ ls → l.code ≡ i ∷ rest → layer i ≡ y
    → unit m pages (record { store = st; frames = f ∷ fs }) ≡ limited (act m pages i y (taken_at st f fs l ls rest))
unfolding unit
taken m pages st f fs l ls i rest y e e' e'' =
    ap (λ levels. limited (with_some Stuck (spot_in st f fs levels) (unit_at m pages))) e
    ∙ (ap (λ code. limited (unit_front m pages code (record { store = st; locals = f.locals; gives = f.gives; frames = fs; level = l; levels = ls }))) e' ∙ ap (λ z. limited (act m pages i z (taken_at st f fs l ls rest))) e'')

pub one_more : (m : Module) (pages used n : ℕ) (t u : Thread) → unit m pages t ≡ Goes u → units_from m pages used (suc n) t ≡ units_from m pages (used + 1) n u
one_more m pages used n t u e = ap (λ o. after_unit o (used + 1) (units_from m pages (used + 1) n)) e
