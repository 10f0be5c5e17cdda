use Rattle.std.proofs.Common.{◌≡◌, [], ◌∷◌, Some, None, ap, sym, subst}
use Rattle.std.proofs.lemmas.Result.{IfOk-weaker}
use Rattle.label_lattice.specs.Reach.{flows}
use Rattle.trapeze_lines.specs.declared.line.Kind.TheVariants as kind
use Rattle.trapeze_lines.specs.Lines.{line_at}
use Rattle.sandbox.specs.Threads.{waiting}
use Rattle.host_rules.specs.States.{told}
use Rattle.host_rules.specs.Stores.{read}
use Rattle.host_rules.specs.Calls.{read_out}
use Rattle.host_rules.specs.Policies.{rules_of}
use Rattle.host_rules.specs.Modules.{guest_of}
use Rattle.shim_calls.specs.Performing.{Performs}
use Rattle.shim_calls.proofs.Resuming.{read_nothing, read_is}
use Rattle.shim_calls.proofs.storing.read.Goals as goal

pub returns-in-None-clause-performed : goal.returns-in-None-clause-performed
returns-in-None-clause-performed g c = λ input m modules a s waits same stored.
    let P = rules_of c.args.policy.now in
    let at = c.args.at.number in
    let none : read P at c.args.key s.store ≡ None =
    read_is P at (flows c.lattice.result.now) c.args.key c.as_slice.result.now (g.F.Facets.rows c.args.facets.now) s.store None c.rows_tell_reads.ensures (ap flows c.lattice.ensures.lattice) c.as_slice.ensures stored c.in-None.ensures.value in
    read_nothing P m modules at a s (waiting m c.args.suspended) (g.F.Facets.rows c.args.facets.now) c.answer.result c.args.key c.args.place c.args.cap none
    (c.answer.ensures.thread m waits) (c.answer.ensures.kept m waits) stored

pub returns-in-Ok-clause-performed : goal.returns-in-Ok-clause-performed
returns-in-Ok-clause-performed g c =
    let P = rules_of c.args.policy.now in
    let at = c.args.at.number in
    let rows = g.F.Facets.rows c.args.facets.now in
    let key = c.args.key in
    let value = c.in-Some.value.now in
    IfOk-weaker c.copied.result _ _
    (λ done h input m modules a s waits same stored.
    let found : read P at key s.store ≡ Some value =
    read_is P at (flows c.lattice.result.now) key c.as_slice.result.now rows s.store (Some value) c.rows_tell_reads.ensures (ap flows c.lattice.ensures.lattice) c.as_slice.ensures stored c.in-Some.ensures.value in
    subst (λ v. Performs P m at a s (read_out (guest_of modules) (waiting m c.args.suspended) c.args.place c.args.cap v (line_at at (kind.Read key v) ∷ [])) rows done) (sym found)
    (h P m modules at a s (line_at at (kind.Read key (Some value)) ∷ []) rows waits (ap (λ v. told (line_at at (kind.Read key (Some v))) s) (sym c.in-Ok.ensures)) stored))
    c.copied.ensures.performed
