-- A unit takes the instruction in front, or leaves where none is left.
use Rattle.std.proofs.Common.{◌≡◌, ℕ, [], refl, ap}
use Rattle.wasm_ast.specs.declared.trees.Instr.{Instr}
use Rattle.wasm_ast.specs.declared.modules.Module.{Module}
use Rattle.wasm_ast.specs.Trees.{layer}
use Rattle.wasm_semantics.specs.Control.{Spot, thread_at, leave}
use Rattle.wasm_semantics.specs.Units.{act, unit_front, limited, unit}
use Rattle.wasm_semantics.specs.Laws.{before}

pub taken_acts : (m : Module) (pages : ℕ) (p : Spot) (i : Instr) → unit m pages (thread_at (before i p)) ≡ limited (act m pages i (layer i) p)
unfolding unit
taken_acts m pages p i = refl

pub ended_leaves : (m : Module) (pages : ℕ) (p : Spot) → p.level.code ≡ [] → unit m pages (thread_at p) ≡ limited (leave p)
unfolding unit
ended_leaves m pages p e = ap (λ code. limited (unit_front m pages code p)) e
