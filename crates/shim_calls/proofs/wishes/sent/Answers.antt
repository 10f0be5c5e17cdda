use Rattle.std.proofs.Common.{◌≡◌, Err, length, ap, sym, ◌∙◌, subst}
use Rattle.label_lattice.specs.Order.{Order, count}
use Rattle.labelled_channel.specs.Delivering.{channel_of, delivered, AreUnderNames}
use Rattle.trapeze_lines.specs.declared.outcome.Cause.TheVariants.{Unknown}
use Rattle.host_rules.specs.Policies.{rules_of}
use Rattle.shim_calls.specs.Performing.{IsFitMessage}
use Rattle.shim_calls.proofs.NamesWithinCounts.{unnamed, channel_is_fit}
use Rattle.shim_calls.proofs.wishes.sent.Goals as goal
use Rattle.shim_calls.proofs.wishes.sent.Goals.{in-Start, in-Vanishes}

pub returns-in_default-clause-wish : goal.returns-in_default-clause-wish
returns-in_default-clause-wish c = λ fault is.
    let same : Unknown ≡ fault = cc in
    unnamed (rules_of c.args.policy.now) c.args.at.number c.args.name.now c.args.bytes (subst AreUnderNames c.channels.ensures.channels c.deliver-delivery.ensures.named) c.in_default.ensures
    ∙ ap Err same

pub returns-clause-fit : goal.returns-clause-fit
returns-clause-fit c =
    let p = c.args.policy.now in
    let at = c.args.at.number in
    let name = c.args.name.now in
    let IsFit = IsFitMessage (count p.lattice) (length p.functions) c.args.bytes in
    elim c.match-delivery.branch [
      | in-Start w ↦ subst IsFit (sym w.to-is) (
          let start = w.in-Start.ensures.delivered ∙ ap (λ (order : Order). delivered order at (channel_of name c.channels.result.now)) c.lattice.ensures.lattice
          ∙ ap (λ channels. delivered p.lattice at (channel_of name channels)) c.channels.ensures.channels in
          let fit = channel_is_fit (count p.lattice) (length p.functions) at p.lattice name p.channels w.in-Start.label w.in-Start.function c.channels.ensures.policy.channels start in
          (fit.0, fit.1, c.requires.few))
      | in-Vanishes w ↦ subst IsFit (sym w.to-is) tt
    ]
