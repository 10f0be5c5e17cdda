use Rattle.std.proofs.Common.{◌≡◌, Ok, ap, ◌∙◌, subst}
use Rattle.std.specs.Prelude.{if◌then◌else◌}
use Rattle.std.specs.Option.{option_copied}
use Rattle.facet_list.specs.Store.{Write, written}
use Rattle.facet_list.specs.Room.{fits_in}
use Rattle.facet_list.specs.declared.facets.Wrote.TheVariants as wrote
use Rattle.sandbox.specs.Threads.{waiting}
use Rattle.host_rules.specs.Policies.{rules_of}
use Rattle.shim_calls.proofs.Writing.{write_done, write_full}
use Rattle.shim_calls.proofs.storing.write.Goals as goal

pub returns-in-Ok-Done-clause-performed : goal.returns-in-Ok-Done-clause-performed
returns-in-Ok-Done-clause-performed g c = λ input m modules a s waits same stored.
    let at = c.args.at.number in
    let x : Write = written at c.as_slice.result.now (option_copied c.lent.result) in
    let is : x ≡ written at c.args.key c.args.value = ap (λ key. written at key (option_copied c.lent.result)) c.as_slice.ensures ∙ ap (written at c.args.key) c.lent.ensures in
    let limits = g.F.Facets.limits c.args.facets.now in
    let before = g.F.Facets.rows c.args.facets.now in
    let ended : wrote.Done ≡ (if fits_in limits before x then wrote.Done else wrote.Full) = subst (λ how. how ≡ (if fits_in limits before x then wrote.Done else wrote.Full)) c.in-Ok-Done.field-0-is c.in-Ok-Done.ensures.fits in
    write_done (rules_of c.args.policy.now) m modules at a s (waiting m c.args.suspended) c.args.key c.args.value (g.F.Facets.rows c.write.new.self) c.answer.result
    (record { limits = limits; before = before; x = x; tell = c.rows_tell_fits.ensures; same = c.requires.limits; stored = stored; is = is; ended = ended })
    (c.in-Ok-Done.ensures.done (ap Ok c.in-Ok-Done.field-0-is)) (c.answer.ensures.thread m waits) (c.answer.ensures.kept m waits)

pub returns-in-Ok-Full-clause-performed : goal.returns-in-Ok-Full-clause-performed
returns-in-Ok-Full-clause-performed g c = λ input m modules a s waits same stored.
    let at = c.args.at.number in
    let x : Write = written at c.as_slice.result.now (option_copied c.lent.result) in
    let is : x ≡ written at c.args.key c.args.value = ap (λ key. written at key (option_copied c.lent.result)) c.as_slice.ensures ∙ ap (written at c.args.key) c.lent.ensures in
    let limits = g.F.Facets.limits c.args.facets.now in
    let before = g.F.Facets.rows c.args.facets.now in
    let ended : wrote.Full ≡ (if fits_in limits before x then wrote.Done else wrote.Full) = subst (λ how. how ≡ (if fits_in limits before x then wrote.Done else wrote.Full)) c.in-Ok-Full.field-0-is c.in-Ok-Full.ensures.fits in
    write_full (rules_of c.args.policy.now) m modules at a s (waiting m c.args.suspended) c.args.key c.args.value (g.F.Facets.rows c.write.new.self) c.answer-in-Ok-Full.result
    (record { limits = limits; before = before; x = x; tell = c.rows_tell_fits.ensures; same = c.requires.limits; stored = stored; is = is; ended = ended })
    (c.in-Ok-Full.ensures.full (ap Ok c.in-Ok-Full.field-0-is)) (c.answer-in-Ok-Full.ensures.thread m waits) (c.answer-in-Ok-Full.ensures.kept m waits)
