use Rattle.std.proofs.Common.{◌≡◌, ap, sym, ◌∙◌, subst}
use Rattle.trapeze_io.specs.Answers.{Answers}
use Rattle.sandbox.specs.Threads.{memory_of, asked_of}
use Rattle.host_rules.specs.Policies.{rules_of}
use Rattle.host_rules.specs.Wishes.{wish}
use Rattle.shim_calls.specs.Performing.{asked_in}
use Rattle.shim_calls.specs.Wished.{fault_of, wished, raises}
use Rattle.shim_calls.proofs.Raises.{raise_is}
use Rattle.shim_calls.proofs.wishes.wish.Goals as goal

pub returns-in_ok-name-in-Raise-clause-wish : goal.returns-in_ok-name-in-Raise-clause-wish
returns-in_ok-name-in-Raise-clause-wish c =
    let P = rules_of c.args.policy.now in
    let memory = memory_of c.args.suspended.now in
    let e : wish P memory (asked_in (asked_of c.args.suspended.now)) ≡ raises P c.as_slice-in-Raise.result.now =
    ap (λ a. wish P memory (asked_in a)) (sym c.asked-asked.ensures) ∙ raise_is P memory c.asked-asked.result c.in_ok-name-in-Raise.name c.in-Raise.is c.in_ok-name-in-Raise.ensures
    ∙ ap (raises P) (sym c.as_slice-in-Raise.ensures) in
    subst (λ w. Answers fault_of (wished P c.args.at.number w) c.raised.result) (sym e) c.raised.ensures.wish
