-- A machine that runs a thread of a valid module, with an instruction in front.
use Rattle.std.proofs.Common.{◌≡◌, ◌≢◌, ℕ, ◌≤◌, List, ◌∷◌, length, sym, subst, Bor}
use Rattle.wasm_ast.specs.declared.val_types.ValType.{ValType}
use Rattle.wasm_ast.specs.declared.val_types.ValType.TheVariants.{I32}
use Rattle.wasm_ast.specs.declared.trees.Instr.{Instr}
use Rattle.wasm_ast.specs.declared.modules.Module.{Module}
use Rattle.wasm_ast.specs.Trees.{Layer, layer}
use Rattle.wasm_ast.specs.Validity.{Valid}
use Rattle.wasm_semantics.specs.Threads.{Store, Outcome, Stuck}
use Rattle.wasm_semantics.specs.Units.{act, unit_at}
use Rattle.wasm_semantics.specs.OfModule.{IsOf}
use Rattle.wasm_semantics.specs.Operands.{operand_types}
use Rattle.wasm_data.specs.Cuts.{above}
use Rattle.wasm_blocks.specs.Levels.{values_in}
use Rattle.wasm_blocks.specs.Rest.{Placed}
use Rattle.wasm_blocks.specs.Runs.{own_nexts}
use Rattle.wasm_frames.specs.declared.active.Active.{Active}
use Rattle.wasm_frames.specs.declared.turns.Turn.{Turn}
use Rattle.wasm_frames.specs.Resting.{body_of}
use Rattle.wasm_frames.specs.Standing.{Surroundings, spot_at, thread_in, IsStanding, IsPlaced}
use Rattle.wasm_frames.specs.Turns.{Answered}
use Rattle.wasm_frames.proofs.FewerOperands.{own_operands}
use Rattle.wasm_units.specs.Acts.{CanAct, Acts, IsBehind}
use Rattle.wasm_units.proofs.Takes.{passed, takes, typed_act, pops}
use Rattle.wasm_units.proofs.UnitOutcomes.{passed_placed}

pub record Front (m : Module) (st : Store) (a : Active) (h : Surroundings) (i : Instr) (rest : Bor (List Instr)) : Type 0 where
  pub valid : Valid m
  pub of : IsOf m (thread_in m st a h)
  pub stands : IsStanding a h
  pub placed : IsPlaced m a h
  pub first : a.hot.code.now ≡ i ∷ rest.now

pub front : {m : Module} {st : Store} {a : Active} {h : Surroundings} {i : Instr} → (rest : Bor (List Instr)) → Valid m → IsOf m (thread_in m st a h) → IsStanding a h → IsPlaced m a h → a.hot.code.now ≡ i ∷ rest.now
    → Front m st a h i rest
front rest v o s p e = record { valid = v; of = o; stands = s; placed = p; first = e }

-- it is not stuck
pub ruled : {m : Module} {st : Store} {a : Active} {h : Surroundings} {i : Instr} {rest : Bor (List Instr)} → Front m st a h i rest → (pages : ℕ) (y : Layer) → layer i ≡ y
    → act m pages i y (spot_at m st (passed a rest) h) ≢ Stuck
ruled {m} {st} {a} {h} {i} {rest} f pages y l = typed_act m pages st a h i rest y f.valid f.of f.first l

pub can_act : {m : Module} {st : Store} {a : Active} {h : Surroundings} {i : Instr} {rest : Bor (List Instr)} → Front m st a h i rest → (y : Layer) → layer i ≡ y → CanAct y (passed a rest) h
can_act {m} {st} {a} {h} {i} {rest} f y l = record { program = m; pages = 0; instr = i; store = st; ruled = ruled f 0 y l }

pub placed_behind : {m : Module} {st : Store} {a : Active} {h : Surroundings} {i : Instr} {rest : Bor (List Instr)} → Front m st a h i rest → IsPlaced m (passed a rest) h
placed_behind {m} {st} {a} {h} {i} {rest} f = passed_placed m a h i rest f.first f.placed

-- what was answered behind it is what the unit comes to
pub acted_here : {m : Module} {st : Store} {a : Active} {h : Surroundings} {i : Instr} {rest : Bor (List Instr)} → Front m st a h i rest → (pages : ℕ) (y : Layer) → layer i ≡ y → (h' : Surroundings) (answer : Turn)
    → Answered m (act m pages i y (spot_at m st (passed a rest) h)) st st h h' answer → Answered m (unit_at m pages (spot_at m st a h)) st st h h' answer
acted_here {m} {st} {a} {h} {i} {rest} f pages y l h' answer e =
    let P : Outcome → Type 0 = λ out. Answered m out st st h h' answer in
    subst P (sym (takes m pages st a h i rest y f.first l)) e

pub acted : {m : Module} {st : Store} {a : Active} {h : Surroundings} {i : Instr} {rest : Bor (List Instr)} → Front m st a h i rest → (pages : ℕ) (y : Layer) → layer i ≡ y → (h' : Surroundings) (answer : Turn)
    → Acts i y (passed a rest) h h' answer → Answered m (unit_at m pages (spot_at m st a h)) st st h h' answer
acted {m} {st} {a} {h} {i} {rest} f pages y l h' answer e =
    let P : List Instr → Type 0 = λ c. Placed (body_of m a.function) c (own_nexts a.hot.low h.opens h.nexts) (above a.hot.low h.opens) in
    let b : IsBehind m i y (passed a rest) h = record { is = l; front = subst P f.first f.placed.here; placed = placed_behind f } in
    acted_here f pages y l h' answer (e m pages st b)

-- its operand is there
pub has_top : {m : Module} {st : Store} {a : Active} {h : Surroundings} {i : Instr} {rest : Bor (List Instr)} → Front m st a h i rest → (y : Layer) → layer i ≡ y → (ts : List ValType) → operand_types m y ≡ I32 ∷ ts
    → 1 ≤ length (values_in (above a.hot.low h.opens) (own_operands a h))
has_top {m} {st} {a} {h} {i} {rest} f y l ts t = pops m st a h i rest y ts f.of f.first l t
