use Rattle.std.proofs.Common.{refl, ap, sym, ◌∙◌, subst}
use Rattle.std.proofs.lemmas.Result.{IfOk-weaker}
use Rattle.sandbox.specs.Threads.{waiting, memory_of, asked_of}
use Rattle.host_rules.specs.Policies.{rules_of}
use Rattle.host_rules.specs.Modules.{guest_of}
use Rattle.host_rules.specs.Wishes.{wish}
use Rattle.host_rules.specs.Calls.{Refused, after_wish, granted}
use Rattle.shim_calls.specs.Performing.{asked_in, cause_of_call, Performs}
use Rattle.shim_calls.proofs.ShownWishes.{was_read, was_refused}
use Rattle.shim_calls.proofs.performing.perform.Goals as goal

pub returns-clause-performed : goal.returns-clause-performed
returns-clause-performed g c =
    let P = rules_of c.args.policy.now in
    let at = c.args.at.number in
    let asked = asked_in (asked_of c.args.suspended) in
    let read = was_read P at (wish P (memory_of c.args.suspended) asked) c.in-Ok.wish c.in-Ok.ensures.wish in
    IfOk-weaker c.grant.result _ _
    (λ done h m modules a s waits same stored.
    let t = waiting m c.args.suspended in
    subst (λ called. Performs P m at a s called (g.F.Facets.rows c.grant.new.facets) done)
    (sym (ap (λ memory. after_wish (wish P memory asked) (granted P (guest_of modules) at a s.store t)) (c.memory_is.ensures m) ∙ ap (λ r. after_wish r (granted P (guest_of modules) at a s.store t)) read.1))
    (h read.0 read.2 m modules a s waits same stored))
    c.grant.ensures.performed

pub returns-in-Err-Trapped-clause-performed : goal.returns-in-Err-Trapped-clause-performed
returns-in-Err-Trapped-clause-performed g c = λ m modules a s waits same stored.
    let P = rules_of c.args.policy.now in
    let at = c.args.at.number in
    let asked = asked_in (asked_of c.args.suspended) in
    let cause = cause_of_call c.in-Err-Trapped.trap in
    let says = rw c.in-Err-Trapped.field-0-is at c.in-Err-Trapped.ensures.wish in
    let read = was_refused P at (wish P (memory_of c.args.suspended) asked) cause (says cause refl) in
    let t = waiting m c.args.suspended in
    let grant = granted P (guest_of modules) at a s.store t in (
      ap (λ memory. after_wish (wish P memory asked) grant) (c.memory_is.ensures m) ∙ ap (λ r. after_wish r grant) read
          ∙ ap (λ trap. Refused (cause_of_call trap)) (sym c.in-Err-Trapped.trap-is),
      stored,
    )
