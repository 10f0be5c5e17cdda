use Rattle.std.proofs.Common.{sym, subst, ◌∙◌, arith}
use Rattle.std.specs.Prelude.{nat_eq, if◌then◌else◌}
use Rattle.wasm_ast.specs.declared.trees.Instr.TheOpen.{Instr-F}
use Rattle.wasm_semantics.specs.Threads.{Outcome}
use Rattle.wasm_semantics.specs.Control.{onto, branch_at}
use Rattle.wasm_frames.specs.Standing.{held, spot_at}
use Rattle.wasm_frames.specs.Turns.{Answered}
use Rattle.wasm_units.proofs.Needs.{can_branch}
use Rattle.wasm_units.proofs.Takes.{pop_room, if_zero, if_not}
use Rattle.wasm_units.proofs.PoppedFrames.{top_there, popped_stands, popped_placed, popped_act}
use Rattle.wasm_units.proofs.jumps.jump_if.Goals as goal

pub top-value-requires-clause-some : goal.top-value-requires-clause-some
top-value-requires-clause-some c =
    pop_room c.args.active (held c.args.places.now c.args.codes.now c.args.values.now c.args.opens.now c.args.nexts.now) c.requires.stands (let p = spot_at c.requires.ruled.program c.requires.ruled.store c.args.active (held c.args.places.now c.args.codes.now c.args.values.now c.args.opens.now c.args.nexts.now) in top_there p.level.values (λ v vs. if nat_eq v 0 then onto p vs else branch_at p c.args.label vs) c.requires.ruled.ruled)

pub returns-then-value-eq0 : goal.returns-then-value-eq0
returns-then-value-eq0 c i m pages st b =
    (record { is = popped_act m pages i (Instr-F.BrIf c.args.label) st c.args.active c.with_sp-popped.result (held c.args.places.now c.args.codes.now c.args.values.now c.args.opens.now c.args.nexts.now) c.top-value.result c.with_sp-popped.ensures c.requires.stands (let p = spot_at c.requires.ruled.program c.requires.ruled.store c.args.active (held c.args.places.now c.args.codes.now c.args.values.now c.args.opens.now c.args.nexts.now) in top_there p.level.values (λ v vs. if nat_eq v 0 then onto p vs else branch_at p c.args.label vs) c.requires.ruled.ruled) c.top-value.ensures ∙ if_zero m pages i (spot_at m st c.with_sp-popped.result (held c.args.places.now c.args.codes.now c.args.values.now c.args.opens.now c.args.nexts.now)) c.top-value.result c.args.label c.if-value-eq0.true; stands = (popped_stands c.args.active c.with_sp-popped.result (held c.args.places.now c.args.codes.now c.args.values.now c.args.opens.now c.args.nexts.now) c.with_sp-popped.ensures c.requires.stands (let p = spot_at c.requires.ruled.program c.requires.ruled.store c.args.active (held c.args.places.now c.args.codes.now c.args.values.now c.args.opens.now c.args.nexts.now) in top_there p.level.values (λ v vs. if nat_eq v 0 then onto p vs else branch_at p c.args.label vs) c.requires.ruled.ruled)); placed = (popped_placed m c.args.active c.with_sp-popped.result (held c.args.places.now c.args.codes.now c.args.values.now c.args.opens.now c.args.nexts.now) c.with_sp-popped.ensures b.placed) }, record { frames = omega arith; blocks = omega arith })

pub jump-requires-clause-stands : goal.jump-requires-clause-stands
jump-requires-clause-stands c =
    (popped_stands c.args.active c.with_sp-popped.result (held c.args.places.now c.args.codes.now c.args.values.now c.args.opens.now c.args.nexts.now) c.with_sp-popped.ensures c.requires.stands (let p = spot_at c.requires.ruled.program c.requires.ruled.store c.args.active (held c.args.places.now c.args.codes.now c.args.values.now c.args.opens.now c.args.nexts.now) in top_there p.level.values (λ v vs. if nat_eq v 0 then onto p vs else branch_at p c.args.label vs) c.requires.ruled.ruled))

pub jump-requires-clause-kept : goal.jump-requires-clause-kept
jump-requires-clause-kept c =
    let m = c.requires.ruled.program in
    can_branch m c.requires.ruled.store c.with_sp-popped.result (held c.args.places.now c.args.codes.now c.args.values.now c.args.opens.now c.args.nexts.now) c.args.label (λ stuck. c.requires.ruled.ruled (popped_act m c.requires.ruled.pages c.requires.ruled.instr (Instr-F.BrIf c.args.label) c.requires.ruled.store c.args.active c.with_sp-popped.result (held c.args.places.now c.args.codes.now c.args.values.now c.args.opens.now c.args.nexts.now) c.top-value.result c.with_sp-popped.ensures c.requires.stands (let p = spot_at c.requires.ruled.program c.requires.ruled.store c.args.active (held c.args.places.now c.args.codes.now c.args.values.now c.args.opens.now c.args.nexts.now) in top_there p.level.values (λ v vs. if nat_eq v 0 then onto p vs else branch_at p c.args.label vs) c.requires.ruled.ruled) c.top-value.ensures ∙ (if_not m c.requires.ruled.pages c.requires.ruled.instr (spot_at m c.requires.ruled.store c.with_sp-popped.result (held c.args.places.now c.args.codes.now c.args.values.now c.args.opens.now c.args.nexts.now)) c.top-value.result c.args.label c.if-value-eq0.false ∙ stuck)))

pub returns : goal.returns
returns c i m pages st b =
    let P : Outcome → Type 0 = λ out. Answered m out st st (held c.args.places.now c.args.codes.now c.args.values.now c.args.opens.now c.args.nexts.now) (held c.jump.new.places c.jump.new.codes c.jump.new.values c.jump.new.opens c.jump.new.nexts) c.jump.result in
    subst P (sym (popped_act m pages i (Instr-F.BrIf c.args.label) st c.args.active c.with_sp-popped.result (held c.args.places.now c.args.codes.now c.args.values.now c.args.opens.now c.args.nexts.now) c.top-value.result c.with_sp-popped.ensures c.requires.stands (let p = spot_at c.requires.ruled.program c.requires.ruled.store c.args.active (held c.args.places.now c.args.codes.now c.args.values.now c.args.opens.now c.args.nexts.now) in top_there p.level.values (λ v vs. if nat_eq v 0 then onto p vs else branch_at p c.args.label vs) c.requires.ruled.ruled) c.top-value.ensures ∙ if_not m pages i (spot_at m st c.with_sp-popped.result (held c.args.places.now c.args.codes.now c.args.values.now c.args.opens.now c.args.nexts.now)) c.top-value.result c.args.label c.if-value-eq0.false)) (c.jump.ensures m st (popped_placed m c.args.active c.with_sp-popped.result (held c.args.places.now c.args.codes.now c.args.values.now c.args.opens.now c.args.nexts.now) c.with_sp-popped.ensures b.placed))
