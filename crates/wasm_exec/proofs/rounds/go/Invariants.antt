use Rattle.std.proofs.Common.{◌≡◌, ◌-◌}
use Rattle.wasm_semantics.specs.Units.{units_from}
use Rattle.wasm_frames.specs.Standing.{held, store_of, thread_in}
use Rattle.wasm_exec.specs.Rounds.{IsLeft}
use Rattle.wasm_exec.proofs.rounds.go.Given as goal

abbrev pub invariant-units : goal.invariant-units
invariant-units l =
    let m = l.fn.program in
    let before = held l.fn.places l.fn.codes l.fn.values l.fn.opens l.fn.nexts in
    let course = units_from m l.fn.pages l.fn.used (l.fn.count - l.fn.used) (thread_in m (store_of l.fn.memory.bytes l.fn.globals l.fn.table) l.fn.active before) in record {
      maximum : l.memory.maximum ≡ l.fn.memory.maximum;
      left : IsLeft m l.fn.pages l.fn.count course l.fn.used l.fn.codes (store_of l.memory.bytes l.globals l.fn.table) (held l.places l.codes l.values l.opens l.nexts) l.here l.at;
    }
