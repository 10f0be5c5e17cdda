use Rattle.std.proofs.Common.{refl}
use Rattle.wasm_exec.specs.Machines.{store_in, thread_of}
use Rattle.wasm_exec.proofs.Machines.{goes_on}
use Rattle.wasm_exec.proofs.machine.Machine.resume.Goals as goal

pub returns-clause-thread : goal.returns-clause-thread
unfolding thread_of
returns-clause-thread c m h w e =
    let x = c.args.self.now in
    (goes_on m (store_in x) h x.place c.put_answer-self.result x.places x.values.items c.put_answer-self.new.values.items x.opens c.args.answer w.waits e c.put_answer-self.ensures).0

pub returns-clause-ready : goal.returns-clause-ready
returns-clause-ready c m h w e =
    let x = c.args.self.now in
    record {
      serves = record { callees = w.serves.callees; maximum = w.serves.maximum };
      none = refl;
      goes = (goes_on m (store_in x) h x.place c.put_answer-self.result x.places x.values.items c.put_answer-self.new.values.items x.opens c.args.answer w.waits e c.put_answer-self.ensures).1;
    }
