use Rattle.std.proofs.Common.{List, refl, sym, subst}
use Rattle.std.specs.Prelude.{option_to_list}
use Rattle.wasm_ast.specs.Validity.{Valid}
use Rattle.wasm_frames.specs.declared.callees.Callee.{Callee}
use Rattle.wasm_frames.specs.Callees.{AreCallees}
use Rattle.wasm_exec.specs.Machines.{thread_of}
use Rattle.wasm_exec.proofs.Machines.{started}
use Rattle.wasm_exec.proofs.machine.Machine.begin.Goals as goal

pub returns : goal.returns
unfolding thread_of
returns c =
    let m = c.module-program.result.now in
    let same = c.module-program.ensures.same in
    let rows : List Callee = c.in-Ok-callees.callees.items in
    let s = started m c.args.module.now c.in_ok-memory.memory c.in-Ok.globals.items c.in-Ok-table_at_first.table.items c.in-Some.first.place c.in-Ok-waiting_places.places (option_to_list c.in-Some.first.below)
    c.in-Ok-from_elem.values.items c.new.result same (subst Valid (sym same) c.module-program.ensures.valid) c.in_ok-memory.ensures c.in-Ok.ensures c.in-Ok-table_at_first.ensures
    (c.in-Ok-from_elem.ensures.items_if_clones_equal (λ y e. e)) c.new.ensures c.in-Ok-waiting_places.ensures c.in-Some.ensures in
    (s.thread, record { serves = record { callees = subst (λ k. AreCallees k rows) same c.in-Ok-callees.ensures; maximum = s.maximum }; none = refl; goes = s.goes })
