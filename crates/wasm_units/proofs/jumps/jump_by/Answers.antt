use Rattle.std.proofs.Common.{get_or, sym, ap, subst, ◌∙◌}
use Rattle.wasm_ast.specs.declared.trees.Instr.TheOpen.{Instr-F}
use Rattle.wasm_semantics.specs.Threads.{Outcome}
use Rattle.wasm_semantics.specs.Control.{branch_at}
use Rattle.wasm_frames.specs.Standing.{held, spot_at}
use Rattle.wasm_frames.specs.Turns.{CanBranch, Answered}
use Rattle.wasm_units.proofs.Needs.{can_branch}
use Rattle.wasm_units.proofs.Takes.{pop_room, by_table}
use Rattle.wasm_units.proofs.PoppedFrames.{top_there, popped_stands, popped_placed, popped_act}
use Rattle.wasm_units.proofs.jumps.jump_by.Goals as goal

pub top-value-requires-clause-some : goal.top-value-requires-clause-some
top-value-requires-clause-some c =
    pop_room c.args.active (held c.args.places.now c.args.codes.now c.args.values.now c.args.opens.now c.args.nexts.now) c.requires.stands (let p = spot_at c.requires.ruled.program c.requires.ruled.store c.args.active (held c.args.places.now c.args.codes.now c.args.values.now c.args.opens.now c.args.nexts.now) in top_there p.level.values (λ v vs. branch_at p (get_or c.args.labels.now v c.args.other) vs) c.requires.ruled.ruled)

pub jump-requires-clause-stands : goal.jump-requires-clause-stands
jump-requires-clause-stands c =
    (popped_stands c.args.active c.with_sp-popped.result (held c.args.places.now c.args.codes.now c.args.values.now c.args.opens.now c.args.nexts.now) c.with_sp-popped.ensures c.requires.stands (let p = spot_at c.requires.ruled.program c.requires.ruled.store c.args.active (held c.args.places.now c.args.codes.now c.args.values.now c.args.opens.now c.args.nexts.now) in top_there p.level.values (λ v vs. branch_at p (get_or c.args.labels.now v c.args.other) vs) c.requires.ruled.ruled))

pub jump-requires-clause-kept : goal.jump-requires-clause-kept
jump-requires-clause-kept c =
    let m = c.requires.ruled.program in
    subst (λ n. CanBranch c.with_sp-popped.result n c.args.values.now c.args.opens.now) (sym (c.label_at-label.ensures ∙ ap (λ xs. get_or xs c.top-value.result c.args.other) c.items.ensures))
    (can_branch m c.requires.ruled.store c.with_sp-popped.result (held c.args.places.now c.args.codes.now c.args.values.now c.args.opens.now c.args.nexts.now) (get_or c.args.labels.now c.top-value.result c.args.other) (λ stuck. c.requires.ruled.ruled (popped_act m c.requires.ruled.pages c.requires.ruled.instr (Instr-F.BrTable c.args.labels.now c.args.other) c.requires.ruled.store c.args.active c.with_sp-popped.result (held c.args.places.now c.args.codes.now c.args.values.now c.args.opens.now c.args.nexts.now) c.top-value.result c.with_sp-popped.ensures c.requires.stands (let p = spot_at c.requires.ruled.program c.requires.ruled.store c.args.active (held c.args.places.now c.args.codes.now c.args.values.now c.args.opens.now c.args.nexts.now) in top_there p.level.values (λ v vs. branch_at p (get_or c.args.labels.now v c.args.other) vs) c.requires.ruled.ruled) c.top-value.ensures ∙ (by_table m c.requires.ruled.pages c.requires.ruled.instr (spot_at m c.requires.ruled.store c.with_sp-popped.result (held c.args.places.now c.args.codes.now c.args.values.now c.args.opens.now c.args.nexts.now)) c.top-value.result c.args.labels.now c.args.other ∙ stuck))))

pub returns : goal.returns
returns c i m pages st b =
    let P : Outcome → Type 0 = λ out. Answered m out st st (held c.args.places.now c.args.codes.now c.args.values.now c.args.opens.now c.args.nexts.now) (held c.jump.new.places c.jump.new.codes c.jump.new.values c.jump.new.opens c.jump.new.nexts) c.jump.result in
    let p = spot_at m st c.with_sp-popped.result (held c.args.places.now c.args.codes.now c.args.values.now c.args.opens.now c.args.nexts.now) in
    subst P (sym (popped_act m pages i (Instr-F.BrTable c.args.labels.now c.args.other) st c.args.active c.with_sp-popped.result (held c.args.places.now c.args.codes.now c.args.values.now c.args.opens.now c.args.nexts.now) c.top-value.result c.with_sp-popped.ensures c.requires.stands (let p = spot_at c.requires.ruled.program c.requires.ruled.store c.args.active (held c.args.places.now c.args.codes.now c.args.values.now c.args.opens.now c.args.nexts.now) in top_there p.level.values (λ v vs. branch_at p (get_or c.args.labels.now v c.args.other) vs) c.requires.ruled.ruled) c.top-value.ensures ∙ by_table m pages i p c.top-value.result c.args.labels.now c.args.other))
    (subst (λ n. P (branch_at p n p.level.values)) (c.label_at-label.ensures ∙ ap (λ xs. get_or xs c.top-value.result c.args.other) c.items.ensures) (c.jump.ensures m st (popped_placed m c.args.active c.with_sp-popped.result (held c.args.places.now c.args.codes.now c.args.values.now c.args.opens.now c.args.nexts.now) c.with_sp-popped.ensures b.placed)))
