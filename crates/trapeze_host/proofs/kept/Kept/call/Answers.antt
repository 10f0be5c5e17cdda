use Rattle.std.proofs.Common.{◌<◌, length, subst}
use Rattle.label_lattice.specs.Order.{count}
use Rattle.policy_toml.specs.Parts.{Parts}
use Rattle.shim_calls.specs.Performing.{IsReadyPerformed, IsFitPerformed}
use Rattle.trapeze_host.specs.Loans.{module_in}
use Rattle.trapeze_host.proofs.Keeping.{no_part}
use Rattle.trapeze_host.proofs.Calling.{call_goes_on, call_makes_part, call_raises, call_traps}
use Rattle.trapeze_host.proofs.kept.Kept.call.Goals as goal

pub returns-in_default-clause-reached : goal.returns-in_default-clause-reached
returns-in_default-clause-reached g c = λ before rest s keeps. no_part _ c.args.lines.now

pub returns-in-Ok-follow-clause-fit : goal.returns-in-Ok-follow-clause-fit
returns-in-Ok-follow-clause-fit g c =
    let m = module_in c.args.lent.now c.args.run.now.function in
    subst (IsReadyPerformed m) c.in-Resume.is (c.in-Ok.ensures.ready m c.requires.waits)

pub returns-in-Raise-clause-fit : goal.returns-in-Raise-clause-fit
returns-in-Raise-clause-fit g c =
    let m = module_in c.args.lent.now c.args.run.now.function in
    let p = c.policy.result.now in (
      subst (λ (p : Parts). c.in-Raise.label.number < count p.lattice) c.policy.ensures (subst (IsFitPerformed (count p.lattice) (length p.functions)) c.in-Raise.is c.in-Ok.ensures.fit),
      subst (IsReadyPerformed m) c.in-Raise.is (c.in-Ok.ensures.ready m c.requires.waits),
    )

pub returns-in-Ok-follow-clause-reached : goal.returns-in-Ok-follow-clause-reached
returns-in-Ok-follow-clause-reached g c = λ before rest s keeps.
    call_goes_on g.F.Facets.rows c.args.lent.now c.args.self.now c.perform.new.facets c.args.run.now c.args.suspended before rest s keeps c.in-Ok.done _ _
    c.policy.ensures c.as_slice-input.ensures c.requires.waits c.in-Ok.ensures.performed
    c.in-Resume.next c.in-Resume.effect c.in-Resume.is c.follow.new.self c.args.lines.now c.follow.new.lines c.in-Ok-follow.ensures.moved

pub returns-in-Err-clause-reached : goal.returns-in-Err-clause-reached
returns-in-Err-clause-reached g c = λ before rest s keeps.
    call_makes_part g.F.Facets.rows c.args.lent.now c.args.self.now c.perform.new.facets c.args.run.now c.args.suspended before rest s keeps c.in-Ok.done _ _
    c.policy.ensures c.as_slice-input.ensures c.requires.waits c.in-Ok.ensures.performed
    c.in-Resume.next c.in-Resume.effect c.in-Resume.is c.args.lines.now c.follow.new.lines c.in-Err.ensures.moved

pub returns-in-Raise-clause-reached : goal.returns-in-Raise-clause-reached
returns-in-Raise-clause-reached g c = λ before rest s keeps.
    call_raises g.F.Facets.rows c.args.lent.now c.args.self.now c.perform.new.facets c.args.run.now c.args.suspended before rest s keeps c.in-Ok.done _ _
    c.policy.ensures c.as_slice-input.ensures c.requires.waits c.in-Ok.ensures.performed
    c.in-Raise.next c.in-Raise.label c.in-Raise.is c.args.lines.now

pub returns-in-Trapped-clause-reached : goal.returns-in-Trapped-clause-reached
returns-in-Trapped-clause-reached g c = λ before rest s keeps.
    call_traps g.F.Facets.rows c.args.lent.now c.args.self.now c.perform.new.facets c.args.run.now c.args.suspended before rest s keeps c.in-Ok.done _ _
    c.policy.ensures c.as_slice-input.ensures c.requires.waits c.in-Ok.ensures.performed
    c.in-Trapped.trap c.in-Trapped.is c.cause_of_call.result c.cause_of_call.ensures c.args.lines.now
