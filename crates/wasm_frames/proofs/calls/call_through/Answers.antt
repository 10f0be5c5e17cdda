use Rattle.std.proofs.Common.{◌≡◌, length, refl, sym, ap, subst, ◌∙◌, arith, true, false}
use Rattle.std.specs.Prelude.{Some, slice_get, slice_index_or}
use Rattle.std.proofs.lemmas.Option.{slice_get-get_or}
use Rattle.wasm_ast.specs.declared.hosts.HostName.TheVariants.{Input}
use Rattle.wasm_ast.specs.Spaces.{type_of}
use Rattle.wasm_ast.specs.Hosts.{same_type}
use Rattle.wasm_semantics.specs.Threads.{Outcome}
use Rattle.wasm_frames.specs.declared.callees.Callee.{Callee}
use Rattle.wasm_frames.specs.declared.callees.Runs.TheVariants as runs
use Rattle.wasm_frames.specs.Standing.{held, spot_at}
use Rattle.wasm_frames.specs.Turns.{Answered}
use Rattle.wasm_frames.proofs.Calling.{some_there, not_there, get_at}
use Rattle.wasm_frames.proofs.TableCalls.{some_same, through_same, through_differs}
use Rattle.wasm_frames.proofs.calls.call_through.Goals as goal

abbrev no_row : Callee
no_row = record { signature = 0; params = 0; runs = runs.Host Input }

pub unreachable-requires : goal.unreachable-requires
unreachable-requires c =
    let row = c.requires.callees.each c.in-Some-entry.index (slice_index_or c.args.callees.now c.in-Some-entry.index no_row) (slice_get-get_or c.args.callees.now c.in-Some-entry.index no_row ((c.requires.types c.in-Some-entry.index (sym c.entry_at.ensures ∙ (c.in-Some.is ∙ ap (λ o. Some o) c.in-Some-entry.is))).0)) in
    not_there (length c.types.result.now) (slice_index_or c.args.callees.now c.in-Some-entry.index no_row).signature c.in_default-get.ensures.lookup.0 (omega (arith, some_there c.args.program.now.types (slice_index_or c.args.callees.now c.in-Some-entry.index no_row).signature row.signature row.is, ap length c.types.ensures))

pub returns-then-not-same_signature : goal.returns-then-not-same_signature
returns-then-not-same_signature c st pl wanted w =
    let row = c.requires.callees.each c.in-Some-entry.index (slice_index_or c.args.callees.now c.in-Some-entry.index no_row) (slice_get-get_or c.args.callees.now c.in-Some-entry.index no_row ((c.requires.types c.in-Some-entry.index (sym c.entry_at.ensures ∙ (c.in-Some.is ∙ ap (λ o. Some o) c.in-Some-entry.is))).0)) in
    let same = some_same (slice_get c.args.program.now.types (slice_index_or c.args.callees.now c.in-Some-entry.index no_row).signature) row.signature c.in-Some-get.found.now row.is (get_at c.types.result.now c.args.program.now.types (slice_index_or c.args.callees.now c.in-Some-entry.index no_row).signature (slice_index_or c.args.callees.now c.in-Some-entry.index no_row).signature c.in-Some-get.found.now c.types.ensures refl c.in-Some-get.ensures.lookup.3.0 c.in-Some-get.ensures.lookup.1) in
    let type : type_of c.args.program.now c.in-Some-entry.index ≡ Some c.in-Some-get.found.now = row.type ∙ ap (λ t. Some t) same in
    let same_wanted = some_same (slice_get c.args.program.now.types c.args.kind) c.in-Some-get-2.wanted.now wanted (get_at c.types-2.result.now c.args.program.now.types c.args.kind c.args.kind c.in-Some-get-2.wanted.now c.types-2.ensures refl c.in-Some-get-2.ensures.lookup.3.0 c.in-Some-get-2.ensures.lookup.1) w in
    let p = spot_at c.args.program.now st c.args.active (held c.args.places.now c.args.codes.now c.args.values.now c.args.opens.now c.args.nexts.now) in
    let differs : same_type c.in-Some-get.found.now wanted ≡ false = ap (λ t. same_type c.in-Some-get.found.now t) (sym same_wanted) ∙ sym c.if-not-same_signature.ensures in
    through_differs c.args.program.now wanted c.in-Some-get.found.now p p.level.values c.in-Some-entry.index (slice_get c.args.table.now c.args.at) (sym c.entry_at.ensures ∙ (c.in-Some.is ∙ ap (λ o. Some o) c.in-Some-entry.is)) type differs

pub call-requires-clause-takes : goal.call-requires-clause-takes
call-requires-clause-takes c =
    let row = c.requires.callees.each c.in-Some-entry.index (slice_index_or c.args.callees.now c.in-Some-entry.index no_row) (slice_get-get_or c.args.callees.now c.in-Some-entry.index no_row ((c.requires.types c.in-Some-entry.index (sym c.entry_at.ensures ∙ (c.in-Some.is ∙ ap (λ o. Some o) c.in-Some-entry.is))).0)) in
    let same = some_same (slice_get c.args.program.now.types (slice_index_or c.args.callees.now c.in-Some-entry.index no_row).signature) row.signature c.in-Some-get.found.now row.is (get_at c.types.result.now c.args.program.now.types (slice_index_or c.args.callees.now c.in-Some-entry.index no_row).signature (slice_index_or c.args.callees.now c.in-Some-entry.index no_row).signature c.in-Some-get.found.now c.types.ensures refl c.in-Some-get.ensures.lookup.3.0 c.in-Some-get.ensures.lookup.1) in
    let type : type_of c.args.program.now c.in-Some-entry.index ≡ Some c.in-Some-get.found.now = row.type ∙ ap (λ t. Some t) same in
    (c.requires.types c.in-Some-entry.index (sym c.entry_at.ensures ∙ (c.in-Some.is ∙ ap (λ o. Some o) c.in-Some-entry.is))).1 c.in-Some-get.found.now c.in-Some-get-2.wanted.now type (get_at c.types-2.result.now c.args.program.now.types c.args.kind c.args.kind c.in-Some-get-2.wanted.now c.types-2.ensures refl c.in-Some-get-2.ensures.lookup.3.0 c.in-Some-get-2.ensures.lookup.1) (sym c.if-not-same_signature.ensures)

pub returns : goal.returns
returns c st pl wanted w =
    let row = c.requires.callees.each c.in-Some-entry.index (slice_index_or c.args.callees.now c.in-Some-entry.index no_row) (slice_get-get_or c.args.callees.now c.in-Some-entry.index no_row ((c.requires.types c.in-Some-entry.index (sym c.entry_at.ensures ∙ (c.in-Some.is ∙ ap (λ o. Some o) c.in-Some-entry.is))).0)) in
    let same = some_same (slice_get c.args.program.now.types (slice_index_or c.args.callees.now c.in-Some-entry.index no_row).signature) row.signature c.in-Some-get.found.now row.is (get_at c.types.result.now c.args.program.now.types (slice_index_or c.args.callees.now c.in-Some-entry.index no_row).signature (slice_index_or c.args.callees.now c.in-Some-entry.index no_row).signature c.in-Some-get.found.now c.types.ensures refl c.in-Some-get.ensures.lookup.3.0 c.in-Some-get.ensures.lookup.1) in
    let type : type_of c.args.program.now c.in-Some-entry.index ≡ Some c.in-Some-get.found.now = row.type ∙ ap (λ t. Some t) same in
    let same_wanted = some_same (slice_get c.args.program.now.types c.args.kind) c.in-Some-get-2.wanted.now wanted (get_at c.types-2.result.now c.args.program.now.types c.args.kind c.args.kind c.in-Some-get-2.wanted.now c.types-2.ensures refl c.in-Some-get-2.ensures.lookup.3.0 c.in-Some-get-2.ensures.lookup.1) w in
    let p = spot_at c.args.program.now st c.args.active (held c.args.places.now c.args.codes.now c.args.values.now c.args.opens.now c.args.nexts.now) in
    let agrees : same_type c.in-Some-get.found.now wanted ≡ true = ap (λ t. same_type c.in-Some-get.found.now t) (sym same_wanted) ∙ sym c.if-not-same_signature.ensures in
    let e = through_same c.args.program.now wanted c.in-Some-get.found.now p p.level.values c.in-Some-entry.index (slice_get c.args.table.now c.args.at) (sym c.entry_at.ensures ∙ (c.in-Some.is ∙ ap (λ o. Some o) c.in-Some-entry.is)) type agrees in
    let P : Outcome → Type 0 = λ out. Answered c.args.program.now out st st (held c.args.places.now c.args.codes.now c.args.values.now c.args.opens.now c.args.nexts.now) (held c.call.new.places c.call.new.codes c.call.new.values c.args.opens.now c.args.nexts.now) c.call.result in
    subst P (sym e) (c.call.ensures st pl)
