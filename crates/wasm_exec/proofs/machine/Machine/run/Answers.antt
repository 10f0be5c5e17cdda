use Rattle.std.proofs.Common.{sym, ◌∙◌}
use Rattle.wasm_exec.specs.Machines.{store_in, thread_of}
use Rattle.wasm_exec.proofs.Machines.{stops_at, stops_in}
use Rattle.wasm_exec.proofs.machine.Machine.run.Goals as goal

pub returns-clause-stops : goal.returns-clause-stops
unfolding thread_of
returns-clause-stops c =
    let m = c.module.result.now in
    let x = c.args.self.now in
    let r = c.run_units-rested in
    let same = c.module.ensures.same in
    let rests = stops_in m c.args.module.now c.args.pages c.args.units (store_in x) r.new.memory.bytes r.new.globals.items c.as_slice-2.result.now x.table.items x.place r.result.place x.places r.new.places
    x.values.items r.new.values.items x.opens r.new.opens r.result.ran.used r.result.ran.stop same c.as_slice-2.ensures.value r.ensures.rests in
    stops_at c.args.module.now _ r.result.ran.used r.result.ran.stop _ (record { callees = c.requires.serves.callees; maximum = c.requires.serves.maximum ∙ sym r.ensures.maximum }) rests c.call-self.ensures
