use Rattle.std.proofs.Common.{◌≡◌, List, ℕ, Option, Ok, cond, sym, ◌∙◌, ap}
use Rattle.std.specs.Option.{option_copied}
use Rattle.facet_list.specs.Store.{Write, written}
use Rattle.facet_list.specs.Rows.{rows_after}
use Rattle.facet_list.specs.Room.{fits_in}
use Rattle.facet_list.specs.declared.facets.Wrote.TheVariants.{Done, Full}
use Rattle.trapeze_lines.specs.declared.line.Kind.TheVariants as kind
use Rattle.trapeze_lines.specs.Lines.{line_at}
use Rattle.wasm_semantics.specs.Threads.{Thread}
use Rattle.host_rules.specs.States.{State, keep, told}
use Rattle.trapeze_host.proofs.Keeping.{by_line}
use Rattle.trapeze_host.proofs.Puts.{put_made, put_full, keeps_written, keeps_same_rows}
use Rattle.trapeze_host.proofs.kept.Kept.put.Goals as goal

pub returns-in_ok-duplicate-in-Done-2-clause-moved : goal.returns-in_ok-duplicate-in-Done-2-clause-moved
returns-in_ok-duplicate-in-Done-2-clause-moved g c = λ s keeps.
    let rows = g.F.Facets.rows in
    let loan = c.args.lent.now in
    let k = c.args.self.now in
    let l = c.args.at.number in
    let limits = g.F.Facets.limits k.facets in
    let x : Write = written l c.args.key.now c.args.value.now in
    let same : written l c.as_slice.result.now (option_copied c.slice_of.result) ≡ x =
    ap (λ (key : List ℕ). written l key (option_copied c.slice_of.result)) c.as_slice.ensures ∙ ap (λ (v : Option (List ℕ)). written l c.args.key.now v) c.slice_of.ensures in
    let answers = c.in_ok-write.ensures.fits ∙ ap (λ (x : Write). cond (fits_in limits (rows k.facets) x) Done Full) same in
    let done = c.in_ok-write.ensures.done (ap Ok c.in-Done.is) ∙ ap (rows_after (rows k.facets)) same in
    let after : State Thread = keep s x in
    by_line rows loan c.say.result _ (line_at l (kind.Write c.in_ok-duplicate-in-Done.field-0 c.in_ok-duplicate-in-Done-2.field-0)) after _ c.args.lines.now c.say.new.lines
    (put_made rows g.F.Facets.limits loan k x s c.requires.sound keeps c.in_ok-write.field-0 answers c.in-Done.is
    ∙ ap (λ (key : List ℕ). told (line_at l (kind.Write key c.args.value.now)) after) (sym c.in_ok-duplicate-in-Done.ensures)
    ∙ ap (λ (v : Option (List ℕ)). told (line_at l (kind.Write c.in_ok-duplicate-in-Done.field-0 v)) after) (sym c.in_ok-duplicate-in-Done-2.ensures))
    (keeps_written rows loan k c.write.new.self s keeps x done)
    c.say.ensures.ok c.say.ensures.err

pub returns-in_ok-duplicate-in-Full-clause-moved : goal.returns-in_ok-duplicate-in-Full-clause-moved
returns-in_ok-duplicate-in-Full-clause-moved g c = λ s keeps.
    let rows = g.F.Facets.rows in
    let loan = c.args.lent.now in
    let k = c.args.self.now in
    let l = c.args.at.number in
    let limits = g.F.Facets.limits k.facets in
    let x : Write = written l c.args.key.now c.args.value.now in
    let same : written l c.as_slice.result.now (option_copied c.slice_of.result) ≡ x =
    ap (λ (key : List ℕ). written l key (option_copied c.slice_of.result)) c.as_slice.ensures ∙ ap (λ (v : Option (List ℕ)). written l c.args.key.now v) c.slice_of.ensures in
    let answers = c.in_ok-write.ensures.fits ∙ ap (λ (x : Write). cond (fits_in limits (rows k.facets) x) Done Full) same in
    by_line rows loan c.say-in-Full.result _ (line_at l (kind.Full c.in_ok-duplicate-in-Full.field-0)) s _ c.args.lines.now c.say-in-Full.new.lines
    (put_full rows g.F.Facets.limits loan k x s c.requires.sound keeps c.in_ok-write.field-0 answers c.in-Full.is
    ∙ ap (λ (key : List ℕ). told (line_at l (kind.Full key)) s) (sym c.in_ok-duplicate-in-Full.ensures))
    (keeps_same_rows rows loan k c.write.new.self s keeps (c.in_ok-write.ensures.full (ap Ok c.in-Full.is)))
    c.say-in-Full.ensures.ok c.say-in-Full.ensures.err
