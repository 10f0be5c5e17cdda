use Rattle.std.proofs.Common.{◌+◌, List, ap, sym, ◌∙◌, arith}
use Rattle.host_rules.specs.Policies.{rules_of}
use Rattle.host_rules.specs.Modules.{guest_of}
use Rattle.host_rules.specs.States.{Happens}
use Rattle.host_rules.specs.Play.{step}
use Rattle.policy_toml.specs.Parts.{Parts}
use Rattle.wasm_ast.specs.declared.modules.Module.{Module}
use Rattle.trapeze_host.specs.Adding.{AddsPart}
use Rattle.trapeze_host.specs.Loans.{rules_in, guest_in}
use Rattle.trapeze_host.specs.Keeping.{HostParts}
use Rattle.trapeze_host.specs.Standing.{Plays}
use Rattle.trapeze_host.specs.Observing.{Hides, Mirrors}
use Rattle.trapeze_host.proofs.Hosts.{policy_is, modules_are, spent_is, played_is, stands_inside, policy_inside, modules_inside, spent_inside, played_inside, few_inside, event_inside, labelled_inside, by_lent, as_plays}
use Rattle.trapeze_host.proofs.Observing.{hides, mirrors}
use Rattle.trapeze_host.proofs.host.Host.play.Goals as goal

pub play-done-requires-clause-few : goal.play-done-requires-clause-few
play-done-requires-clause-few g c = few_inside _ c.args.self.now c.self.view_is g.F.Facets.limits c.self.invariant c.requires.unspent c.requires.few

pub play-done-requires-clause-event : goal.play-done-requires-clause-event
play-done-requires-clause-event g c = event_inside _ c.args.self.now c.self.view_is c.args.event.now c.requires.event

pub overflow_add-self : goal.overflow_add-self
overflow_add-self g c = omega (arith, c.requires.few, played_inside _ c.args.self.now c.self.view_is)

pub returns-in-Ok-clause-moved : goal.returns-in-Ok-clause-moved
returns-in-Ok-clause-moved g c = λ s stands.
    let rows = g.F.Facets.rows in
    let i = c.self.inside in
    let made = c.in-Ok.ensures.moved s (stands_inside _ c.args.self.now c.self.view_is rows s stands) in
    let host : HostParts g.row.F.Denot = record { lent = i.lent; kept = c.play-done.new.self; spent = i.spent; played = i.played + 1 } in
    by_lent _ c.args.self.now c.self.view_is (λ (p : Parts) (ms : List Module). Plays rows (step (rules_of p) (guest_of ms) s (Happens c.args.event.now)) host c.args.lines.now c.play-done.new.lines)
    (as_plays host rows _ c.args.lines.now c.play-done.new.lines made)

pub returns-in-Ok-clause-hidden : goal.returns-in-Ok-clause-hidden
returns-in-Ok-clause-hidden g c = λ o s stands.
    let rows = g.F.Facets.rows in
    let i = c.self.inside in
    let made = c.in-Ok.ensures.moved s (stands_inside _ c.args.self.now c.self.view_is rows s stands) in
    by_lent _ c.args.self.now c.self.view_is (λ (p : Parts) (ms : List Module). Hides (rules_of p) (guest_of ms) o s c.args.event.now c.args.lines.now c.play-done.new.lines)
    (hides (rules_in i.lent) (guest_in i.lent) o s c.args.event.now c.args.lines.now c.play-done.new.lines made.lines (c.hidden_events_show_releases.ensures (rules_in i.lent) (guest_in i.lent) c.is_ordered.ensures.ordered))

pub returns-in-Ok-clause-seen : goal.returns-in-Ok-clause-seen
returns-in-Ok-clause-seen g c = λ o s stands.
    let rows = g.F.Facets.rows in
    let i = c.self.inside in
    let made = c.in-Ok.ensures.moved s (stands_inside _ c.args.self.now c.self.view_is rows s stands) in
    by_lent _ c.args.self.now c.self.view_is (λ (p : Parts) (ms : List Module). Mirrors (rules_of p) (guest_of ms) o s c.args.event.now c.args.lines.now c.play-done.new.lines)
    (mirrors (rules_in i.lent) (guest_in i.lent) o s c.args.event.now c.args.lines.now c.play-done.new.lines made.lines (c.visible_items_show_the_same.ensures (rules_in i.lent) (guest_in i.lent) c.is_ordered.ensures.ordered))

pub returns-in-Err-clause-moved : goal.returns-in-Err-clause-moved
returns-in-Err-clause-moved g c = λ s stands.
    let rows = g.F.Facets.rows in
    let part = c.in-Err.ensures.moved s (stands_inside _ c.args.self.now c.self.view_is rows s stands) in
    by_lent _ c.args.self.now c.self.view_is (λ (p : Parts) (ms : List Module). AddsPart (step (rules_of p) (guest_of ms) s (Happens c.args.event.now)).lines c.args.lines.now c.play-done.new.lines) part

pub returns-in-Ok-clause-labelled : goal.returns-in-Ok-clause-labelled
returns-in-Ok-clause-labelled g c = labelled_inside _ c.args.self.now c.self.view_is c.args.lines.now c.play-done.new.lines c.in-Ok.ensures.labelled

pub returns-in-Ok-clause-spent : goal.returns-in-Ok-clause-spent
returns-in-Ok-clause-spent g c = spent_is _ ∙ (sym (spent_inside _ c.args.self.now c.self.view_is) ∙ c.requires.unspent)

pub returns-in-Ok-clause-counted : goal.returns-in-Ok-clause-counted
returns-in-Ok-clause-counted g c = played_is _ ∙ ap (λ n. n + 1) (sym (played_inside _ c.args.self.now c.self.view_is))

pub returns-in-Ok-clause-lent : goal.returns-in-Ok-clause-lent
returns-in-Ok-clause-lent g c = (policy_is _ ∙ sym (policy_inside _ c.args.self.now c.self.view_is), modules_are _ ∙ sym (modules_inside _ c.args.self.now c.self.view_is))

pub returns-in-Err-clause-labelled : goal.returns-in-Err-clause-labelled
returns-in-Err-clause-labelled g c = labelled_inside _ c.args.self.now c.self.view_is c.args.lines.now c.play-done.new.lines c.in-Err.ensures.labelled

pub returns-in-Err-clause-spent : goal.returns-in-Err-clause-spent
returns-in-Err-clause-spent g c = spent_is _

pub returns-in-Err-clause-uncounted : goal.returns-in-Err-clause-uncounted
returns-in-Err-clause-uncounted g c = played_is _ ∙ sym (played_inside _ c.args.self.now c.self.view_is)

pub returns-in-Err-clause-lent : goal.returns-in-Err-clause-lent
returns-in-Err-clause-lent g c = (policy_is _ ∙ sym (policy_inside _ c.args.self.now c.self.view_is), modules_are _ ∙ sym (modules_inside _ c.args.self.now c.self.view_is))
