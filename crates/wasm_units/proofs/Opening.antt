-- A block that is opened, over frames that wait.
use Rattle.std.proofs.Common.{◌≡◌, ℕ, List, ◌∷◌, refl, sym, subst, arith, Bor, Bool}
use Rattle.std.specs.Prelude.{Result, Ok, Err, IfOk, if◌then◌else◌}
use Rattle.wasm_ast.specs.declared.trees.Instr.{Instr}
use Rattle.wasm_ast.specs.declared.modules.Module.{Module}
use Rattle.wasm_ast.specs.Trees.{Layer, layer}
use Rattle.wasm_semantics.specs.Threads.{Store}
use Rattle.wasm_semantics.specs.Control.{enter}
use Rattle.wasm_semantics.specs.Units.{act}
use Rattle.wasm_data.specs.Cuts.{above}
use Rattle.wasm_blocks.specs.declared.hot.Hot.{Hot}
use Rattle.wasm_blocks.specs.declared.open.Open.{Open}
use Rattle.wasm_blocks.specs.Rest.{Placed, part_of}
use Rattle.wasm_blocks.specs.Runs.{Outer, GoesOnAnywhere, place, own_nexts}
use Rattle.wasm_frames.specs.declared.active.Active.{Active}
use Rattle.wasm_frames.specs.declared.active.Place.{Place}
use Rattle.wasm_frames.specs.declared.turns.Turn.{Turn}
use Rattle.wasm_frames.specs.Resting.{body_of}
use Rattle.wasm_frames.specs.Standing.{held, spot_at, IsStanding, IsPlaced}
use Rattle.wasm_frames.specs.Turns.{Answered}
use Rattle.wasm_frames.proofs.Lifts.{with_hot, lifts}
use Rattle.wasm_units.specs.Acts.{inside_of}
use Rattle.wasm_units.proofs.UnitOutcomes.{went_by}

pub entered : {E : Type 0} (m : Module) (pages : ℕ) (st : Store) (i : Instr) (y : Layer) (a q : Active) (r : Result Hot E)
    (ps : List Place) (cs : List (Bor (List Instr))) (values : List ℕ) (os os' : List Open) (ns ns' : List (Bor (List Instr)))
    (code : List Instr) (keeps : ℕ) (next : List Instr) (loops second : Bool) (answer : Turn)
    → answer ≡ inside_of q r → IsStanding q (held ps cs values os ns) → IsPlaced m q (held ps cs values os ns)
    → Placed (body_of m q.function) (i ∷ q.hot.code.now) (own_nexts q.hot.low os ns) (above q.hot.low os)
    → act m pages i y (spot_at m st a (held ps cs values os ns)) ≡ (let p = spot_at m st q (held ps cs values os ns) in enter p p.level.values code keeps next)
    → next ≡ (if loops then i ∷ q.hot.code.now else q.hot.code.now) → part_of second (layer i) ≡ code
    → IfOk r (λ now. GoesOnAnywhere (λ b. let p = place b q.hot values os ns in enter p p.level.values code keeps next) q.hot now values values os os' ns ns')
    → IfOk r (λ now. (body : List Instr) (j : Instr) → Placed body (j ∷ q.hot.code.now) (own_nexts q.hot.low os ns) (above q.hot.low os) →
    next ≡ (if loops then j ∷ q.hot.code.now else q.hot.code.now) → part_of second (layer j) ≡ code → Placed body now.code.now (own_nexts now.low os' ns') (above now.low os'))
    → Answered m (act m pages i y (spot_at m st a (held ps cs values os ns))) st st (held ps cs values os ns) (held ps cs values os' ns') answer
entered m pages st i y a q (Ok now) ps cs values os os' ns ns' code keeps next loops second answer is s pl front e n part g p =
    let was = held ps cs values os ns in
    let after = held ps cs values os' ns' in
    let o = act m pages i y (spot_at m st a was) in
    let out = λ (b : Outer). let p = place b q.hot values os ns in enter p p.level.values code keeps next in
    subst (Answered m o st st was after) (sym is) (went_by m o _ st after (with_hot q now) e
    (lifts m st q q.hot now ps cs values values os os' ns ns' out s pl refl refl g (omega arith) (p (body_of m q.function) i front n part)))
entered m pages st i y a q (Err x) ps cs values os os' ns ns' code keeps next loops second answer is s pl front e n part g p =
    subst (Answered m (act m pages i y (spot_at m st a (held ps cs values os ns))) st st (held ps cs values os ns) (held ps cs values os' ns')) (sym is) tt
