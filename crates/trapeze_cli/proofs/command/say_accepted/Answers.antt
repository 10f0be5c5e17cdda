use Rattle.std.proofs.Common.{◌∙◌, ap, decimal, length}
use Rattle.label_lattice.specs.Order.{Order, count}
use Rattle.trapeze_cli.proofs.Accepted.{accepted_all, accepted_less}
use Rattle.trapeze_cli.proofs.command.say_accepted.Goals as goal

pub returns-in-Ok : goal.returns-in-Ok
returns-in-Ok g c =
    let policy = c.args.policy.now in
    accepted_all (count policy.lattice) (length policy.functions) (length policy.channels) (length policy.clients) c.as_bytes.result.now c.as_bytes-2.result.now c.as_bytes-3.result.now c.as_bytes-4.result.now _ _ _ _
    (c.as_bytes.ensures.value ∙ c.format-labels.ensures.text ∙ ap decimal c.count.ensures.count ∙ ap (λ (order : Order). decimal (count order)) c.lattice.ensures.lattice)
    (c.as_bytes-2.ensures.value ∙ c.format-functions.ensures.text ∙ ap (λ names. decimal (length names)) c.functions.ensures.functions)
    (c.as_bytes-3.ensures.value ∙ c.format-channels.ensures.text ∙ ap decimal c.count-2.ensures.count ∙ ap (λ names. decimal (length names)) c.channels.ensures.channels)
    (c.as_bytes-4.ensures.value ∙ c.format-clients.ensures.text ∙ ap (λ names. decimal (length names)) c.clients.ensures.clients)
    c.in-Ok.ensures.all

pub returns-in-Err : goal.returns-in-Err
returns-in-Err g c =
    let policy = c.args.policy.now in
    accepted_less (count policy.lattice) (length policy.functions) (length policy.channels) (length policy.clients) c.as_bytes.result.now c.as_bytes-2.result.now c.as_bytes-3.result.now c.as_bytes-4.result.now _ _ _ _
    (c.as_bytes.ensures.value ∙ c.format-labels.ensures.text ∙ ap decimal c.count.ensures.count ∙ ap (λ (order : Order). decimal (count order)) c.lattice.ensures.lattice)
    (c.as_bytes-2.ensures.value ∙ c.format-functions.ensures.text ∙ ap (λ names. decimal (length names)) c.functions.ensures.functions)
    (c.as_bytes-3.ensures.value ∙ c.format-channels.ensures.text ∙ ap decimal c.count-2.ensures.count ∙ ap (λ names. decimal (length names)) c.channels.ensures.channels)
    (c.as_bytes-4.ensures.value ∙ c.format-clients.ensures.text ∙ ap (λ names. decimal (length names)) c.clients.ensures.clients)
    c.in-Err.ensures.part c.in-Err.ensures.cause.failed
