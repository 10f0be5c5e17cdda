use Rattle.std.proofs.Common.{◌≡◌, ◌-◌, ◌≤◌, ◌∷◌}
use Rattle.wasm_semantics.specs.Units.{units, units_from}
use Rattle.wasm_frames.specs.Standing.{held, store_of, thread_in}
use Rattle.wasm_exec.specs.Going.{IsGoing}
use Rattle.wasm_exec.specs.Resting.{thread_at_rest}
use Rattle.wasm_exec.proofs.Measures.{to_do}
use Rattle.wasm_exec.proofs.runs.run_units.Given as goal

abbrev pub invariant-rounds : goal.invariant-rounds
invariant-rounds l =
    let m = l.fn.program in
    let before = thread_at_rest m (store_of l.fn.memory.bytes l.fn.globals.items l.fn.table) (l.fn.place ∷ l.fn.places) l.fn.values.items l.fn.opens in
    let st = store_of l.memory.bytes l.globals.items l.fn.table in
    let h = held l.places l.codes l.values.items l.opens l.nexts in record {
      maximum : l.memory.maximum ≡ l.fn.memory.maximum;
      order : l.used ≤ l.fn.count;
      is : units m l.fn.pages before l.fn.count ≡ units_from m l.fn.pages l.used (l.fn.count - l.used) (thread_in m st l.here h);
      going : IsGoing m st l.here h;
    }

abbrev pub decreases-rounds : goal.decreases-rounds
decreases-rounds l = to_do l.fn.count l.used l.values.items l.codes
