use Rattle.std.proofs.Common.{◌+◌, ◌-◌, ◌∷◌, length, refl, ap, ◌∙◌, arith}
use Rattle.wasm_ast.specs.Hosts.{host_params}
use Rattle.wasm_semantics.specs.Laws.{in_four_places}
use Rattle.wasm_semantics.specs.Units.{units, units_from}
use Rattle.wasm_data.specs.Marked.{locals_in}
use Rattle.wasm_frames.specs.Standing.{held, store_of}
use Rattle.wasm_exec.specs.declared.stops.Stop.TheVariants as stop
use Rattle.wasm_exec.specs.Resting.{thread_at_rest}
use Rattle.wasm_exec.proofs.Rests.{begins, grows, left_on, cold_on, warmed, warmed_in, ends_spent, ends_done, ends_trapped, stopped, ends_asked, by_parts, out_of_memory}
use Rattle.wasm_exec.proofs.runs.run_units.Goals as goal
use Rattle.wasm_exec.proofs.runs.run_units.Goals.{in-Full+in-Err, in-Cold+in-Err-warm, in-Spent, in-Done, in-Trapped, in-Asks, in-NoMemory}

pub rounds-init : goal.rounds-init
rounds-init c =
    let b = begins c.args.program.now c.args.pages c.args.count (store_of c.args.memory.now.bytes c.args.globals.now.items c.args.table.now) c.args.place c.args.places.now c.in-Ok.code c.running-here.result
    c.args.values.now.items c.args.opens.now c.len.result c.new-codes.result c.new-nexts.result c.find_rest.new.nexts c.requires.rests c.new-codes.ensures c.new-nexts.ensures c.len.ensures
    c.in-Ok.ensures.code c.in-Ok.ensures.nexts c.running-here.ensures in
    record { maximum = refl; order = omega arith; is = b.is; going = b.going }

pub rounds-preserved-in-Ok-grow : goal.rounds-preserved-in-Ok-grow
rounds-preserved-in-Ok-grow c =
    let m = c.args.program.now in
    let r = c.go_on-round.result in
    let st = store_of c.go_on-round.new.memory.bytes c.go_on-round.new.globals.items c.args.table.now in
    let h = held c.go_on-round.new.places c.go_on-round.new.codes c.go_on-round.new.values.items c.go_on-round.new.opens c.go_on-round.new.nexts in
    let on = left_on m c.args.pages c.args.count c.rounds.used r.used _ c.rounds.codes st h r.active r.halt c.go_on-round.ensures.comes c.in-Full.is in
    let g = grows m st r.active c.go_on-round.new.places c.go_on-round.new.codes c.go_on-round.new.values.items c.grow.new.values.items c.go_on-round.new.opens c.go_on-round.new.nexts on.0.going c.in-Ok-grow.ensures in
    record {
      maximum = c.go_on-round.ensures.maximum ∙ c.rounds.invariant.maximum;
      order = c.go_on-round.ensures.most;
      is = c.rounds.invariant.is ∙ (on.0.is ∙ ap (units_from m c.args.pages r.used (c.args.count - r.used)) g.0);
      going = g.1;
    }

pub rounds-preserved : goal.rounds-preserved
rounds-preserved c =
    let m = c.args.program.now in
    let r = c.go_on-round.result in
    let st = store_of c.go_on-round.new.memory.bytes c.go_on-round.new.globals.items c.args.table.now in
    let h = held c.go_on-round.new.places c.go_on-round.new.codes c.go_on-round.new.values.items c.go_on-round.new.opens c.go_on-round.new.nexts in
    let on = cold_on m c.args.pages c.args.count c.rounds.used r.used _ c.rounds.codes st h r.active r.halt c.go_on-round.ensures.comes c.in-Cold.is in
    let w = warmed_in m r.active c.go_on-round.new.places c.warm.new.places c.go_on-round.new.codes c.warm.new.codes c.as_slice.result.now c.go_on-round.new.values.items c.go_on-round.new.opens c.go_on-round.new.nexts c.warm.new.nexts
    c.as_slice.ensures.value c.in-Ok-warm.ensures in
    let g = warmed m st r.active c.go_on-round.new.places c.warm.new.places c.go_on-round.new.codes c.warm.new.codes c.go_on-round.new.values.items c.go_on-round.new.opens c.go_on-round.new.nexts c.warm.new.nexts on.0.going w in
    record {
      maximum = c.go_on-round.ensures.maximum ∙ c.rounds.invariant.maximum;
      order = c.go_on-round.ensures.most;
      is = c.rounds.invariant.is ∙ (on.0.is ∙ ap (units_from m c.args.pages r.used (c.args.count - r.used)) g.0);
      going = g.1;
    }

pub returns-in-rounds-clause-rests : goal.returns-in-rounds-clause-rests
returns-in-rounds-clause-rests c =
    let m = c.args.program.now in
    let r = c.go_on-round.result in
    let st = store_of c.go_on-round.new.memory.bytes c.go_on-round.new.globals.items c.args.table.now in
    let h = held c.go_on-round.new.places c.go_on-round.new.codes c.go_on-round.new.values.items c.go_on-round.new.opens c.go_on-round.new.nexts in
    let p = c.waiting.result in
    let os = c.go_on-round.new.opens in
    let course = units m c.args.pages (thread_at_rest m (store_of c.args.memory.now.bytes c.args.globals.now.items c.args.table.now) (c.args.place ∷ c.args.places.now) c.args.values.now.items c.args.opens.now) c.args.count in
    let none = out_of_memory m course st p c.match-round.places c.match-round.values.items os r.used c.match-round.stop in
    let by = by_parts m course st p h.places c.match-round.places h.values c.match-round.values.items os r.used in
    elim c.match-round.branch [
      | in-Full+in-Err w ↦ none w.stop-is
      | in-Cold+in-Err-warm w ↦ none w.stop-is
      | in-Spent w ↦ by stop.Spent c.match-round.stop w.places-is (ap (λ v. v.items) w.values-is) w.stop-is
          (ends_spent m c.args.pages c.args.count c.rounds.used r.used course _ c.rounds.codes st h r.active r.halt p c.rounds.invariant.is c.go_on-round.ensures.comes w.in-Spent.is c.waiting.ensures)
      | in-Done w ↦ by stop.Done c.match-round.stop w.places-is (ap (λ v. v.items) w.values-is) w.stop-is
          (ends_done m c.args.pages c.args.count c.rounds.used r.used course _ c.rounds.codes st h r.active r.halt c.rounds.invariant.is c.go_on-round.ensures.comes w.in-Done.is)
      | in-Trapped w ↦ by (stop.Trapped w.in-Trapped.trap) c.match-round.stop w.places-is (ap (λ v. v.items) w.values-is) w.stop-is
          (ends_trapped m c.args.pages c.args.count c.rounds.used r.used course _ c.rounds.codes st h r.active r.halt w.in-Trapped.trap c.rounds.invariant.is c.go_on-round.ensures.comes w.in-Trapped.is)
      | in-Asks w ↦
          let name = w.in-Asks.name in
          let sp = r.active.hot.marks.sp in
          let s = stopped m c.args.pages c.args.count c.rounds.used r.used _ c.rounds.codes st h r.active r.halt name c.go_on-round.ensures.comes w.in-Asks.is in
          let four = w.asked_at.ensures.args ∙ ap (λ vs. in_four_places (locals_in sp (sp + length (host_params name)) vs)) w.as_slice-in-Asks.ensures.value in
          by (stop.Call w.asked_at.result) c.match-round.stop w.places-is (ap (λ v. v.items) w.values-is) w.stop-is
          (ends_asked m r.used course _ st h r.active p name w.asked_at.result c.rounds.invariant.is s w.asked_at.ensures.name four c.waiting.ensures)
      | in-NoMemory w ↦ none w.stop-is
    ]
