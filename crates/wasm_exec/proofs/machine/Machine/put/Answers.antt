use Rattle.std.proofs.Common.{refl, sym, ◌∙◌}
use Rattle.wasm_exec.specs.Machines.{memory_in, store_in, thread_of}
use Rattle.wasm_exec.proofs.Machines.{write_keeps, write_most, still_goes, still_waits}
use Rattle.wasm_exec.proofs.machine.Machine.put.Goals as goal

pub returns-clause-answer : goal.returns-clause-answer
unfolding memory_in
returns-clause-answer c = c.copy_in.ensures.answer

pub returns-clause-memory : goal.returns-clause-memory
unfolding memory_in
returns-clause-memory c = c.copy_in.ensures.memory

pub returns-clause-thread : goal.returns-clause-thread
unfolding memory_in thread_of
returns-clause-thread c m = refl

pub returns-clause-ready : goal.returns-clause-ready
returns-clause-ready c m r =
    let x = c.args.self.now in
    let new = c.copy_in.new.self in
    record {
      serves = record { callees = r.serves.callees; maximum = r.serves.maximum ∙ sym (write_most x.memory new c.args.at c.args.from.now c.copy_in.ensures.memory) };
      none = r.none;
      goes = still_goes m (store_in x) new.bytes x.place x.places x.values.items x.opens (write_keeps x.memory new c.args.at c.args.from.now c.copy_in.ensures.memory) r.goes;
    }

pub returns-clause-waits : goal.returns-clause-waits
returns-clause-waits c m h w =
    let x = c.args.self.now in
    let new = c.copy_in.new.self in
    record {
      serves = record { callees = w.serves.callees; maximum = w.serves.maximum ∙ sym (write_most x.memory new c.args.at c.args.from.now c.copy_in.ensures.memory) };
      some = w.some;
      waits = still_waits m (store_in x) h new.bytes x.place x.places x.values.items x.opens (write_keeps x.memory new c.args.at c.args.from.now c.copy_in.ensures.memory) w.waits;
    }
