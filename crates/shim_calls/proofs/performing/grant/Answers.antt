use Rattle.std.proofs.Common.{◌≡◌, [], refl, ap, sym, ◌∙◌, subst}
use Rattle.std.specs.Prelude.{slice_get}
use Rattle.std.proofs.lemmas.Result.{IfOk-weaker}
use Rattle.std.proofs.lemmas.Option.{get_or_from_slice_get}
use Rattle.label_lattice.specs.Order.{Order}
use Rattle.sandbox.specs.Threads.{waiting}
use Rattle.host_rules.specs.Rules.{label_name}
use Rattle.host_rules.specs.Modules.{guest_of}
use Rattle.host_rules.specs.Policies.{rules_of}
use Rattle.host_rules.specs.Wishes as wishes
use Rattle.host_rules.specs.Calls.{granted, copied}
use Rattle.shim_calls.specs.declared.effect.Performed.{Performed}
use Rattle.shim_calls.specs.declared.wish.Wish.TheVariants as asks
use Rattle.shim_calls.specs.Performing.{Performs}
use Rattle.shim_calls.specs.Wished.{shown, Carries}
use Rattle.shim_calls.proofs.ShownWishes.{means}
use Rattle.shim_calls.proofs.Granting.{sent_on, replied, released_on, vanished}
use Rattle.shim_calls.proofs.performing.grant.Goals as goal

pub returns-in-Read-clause-performed : goal.returns-in-Read-clause-performed
returns-in-Read-clause-performed g c =
    let P = rules_of c.args.policy.now in
    let at = c.args.at.number in
    let does = λ (done : Performed) (x : wishes.Wish). Carries P at c.args.suspended c.args.input.now (g.F.Facets.rows c.args.facets.now) (λ M a w t. granted P M at a w t x) (g.F.Facets.rows c.args.facets.now) done in
    IfOk-weaker c.read.result _ (λ done. (x : wishes.Wish) → c.args.wish ≡ shown P at x → does done x)
    (λ done h x is. subst (does done) (sym (means P at c.args.wish (asks.Read c.in-Read.key c.in-Read.place c.in-Read.cap) x c.in-Read.is is)) (h c.args.input.now))
    c.read.ensures.performed

pub returns-in-Write-clause-performed : goal.returns-in-Write-clause-performed
returns-in-Write-clause-performed g c =
    let P = rules_of c.args.policy.now in
    let at = c.args.at.number in
    let does = λ (done : Performed) (x : wishes.Wish). Carries P at c.args.suspended c.args.input.now (g.F.Facets.rows c.args.facets.now) (λ M a w t. granted P M at a w t x) (g.F.Facets.rows c.write.new.facets) done in
    IfOk-weaker c.write.result _ (λ done. (x : wishes.Wish) → c.args.wish ≡ shown P at x → does done x)
    (λ done h x is. subst (does done) (sym (means P at c.args.wish (asks.Write c.in-Write.key c.in-Write.value) x c.in-Write.is is)) (h c.args.input.now))
    c.write.ensures.performed

pub returns-in-Raise-clause-performed : goal.returns-in-Raise-clause-performed
returns-in-Raise-clause-performed g c = λ x is.
    let P = rules_of c.args.policy.now in
    let at = c.args.at.number in
    let does = λ (x : wishes.Wish). Carries P at c.args.suspended c.args.input.now (g.F.Facets.rows c.args.facets.now) (λ M a w t. granted P M at a w t x) (g.F.Facets.rows c.args.facets.now) c.raise.result in
    subst does (sym (means P at c.args.wish (asks.Raise c.in-Raise.label) x c.in-Raise.is is)) (c.raise.ensures.performed c.args.input.now (g.F.Facets.rows c.args.facets.now))

pub returns-in-OwnLabel-clause-performed : goal.returns-in-OwnLabel-clause-performed
returns-in-OwnLabel-clause-performed g c =
    let P = rules_of c.args.policy.now in
    let at = c.args.at.number in
    let names = c.args.policy.now.lattice.names in
    let rows = g.F.Facets.rows c.args.facets.now in
    let does = λ (done : Performed) (x : wishes.Wish). Carries P at c.args.suspended c.args.input.now rows (λ M a w t. granted P M at a w t x) rows done in
    let name : c.as_bytes.result.now ≡ label_name P at =
    c.as_bytes.ensures.value ∙ sym (get_or_from_slice_get names at c.name-name.result [] (ap (λ (order : Order). slice_get order.names at) (sym c.lattice-lattice.ensures.lattice) ∙ c.name-name.ensures)) in
    IfOk-weaker c.copied-in-OwnLabel.result _ (λ done. (x : wishes.Wish) → c.args.wish ≡ shown P at x → does done x)
    (λ done h x is. subst (does done) (sym (means P at c.args.wish (asks.OwnLabel c.in-OwnLabel.place c.in-OwnLabel.cap) x c.in-OwnLabel.is is))
    (λ m modules a s waits same stored. subst (λ bytes. Performs P m at a s (copied (guest_of modules) (waiting m c.args.suspended) c.in-OwnLabel.place c.in-OwnLabel.cap bytes []) rows done) name
    (h P m modules at a s [] rows waits refl stored)))
    c.copied-in-OwnLabel.ensures.performed

pub returns-in-Send-clause-performed : goal.returns-in-Send-clause-performed
returns-in-Send-clause-performed g c = λ x is m modules a s waits same stored.
    let P = rules_of c.args.policy.now in
    let at = c.args.at.number in
    sent_on P m modules at a s (waiting m c.args.suspended) (g.F.Facets.rows c.args.facets.now) c.answer.result c.in-Send.channel c.in-Send.bytes c.in-Send.to x
    (means P at c.args.wish (asks.Send c.in-Send.channel c.in-Send.bytes c.in-Send.to) x c.in-Send.is is) (c.answer.ensures.thread m waits) (c.answer.ensures.kept m waits) stored

pub returns-in-Reply-clause-performed : goal.returns-in-Reply-clause-performed
returns-in-Reply-clause-performed g c = λ x is m modules a s waits same stored.
    let P = rules_of c.args.policy.now in
    let at = c.args.at.number in
    replied P m modules at a s (waiting m c.args.suspended) (g.F.Facets.rows c.args.facets.now) c.answer-in-Reply.result c.in-Reply.bytes x
    (means P at c.args.wish (asks.Reply c.in-Reply.bytes) x c.in-Reply.is is) (c.answer-in-Reply.ensures.thread m waits) (c.answer-in-Reply.ensures.kept m waits) stored

pub returns-in-Release-clause-performed : goal.returns-in-Release-clause-performed
returns-in-Release-clause-performed g c = λ x is m modules a s waits same stored.
    let P = rules_of c.args.policy.now in
    let at = c.args.at.number in
    released_on P m modules at a s (waiting m c.args.suspended) (g.F.Facets.rows c.args.facets.now) c.answer-in-Release.result c.in-Release.gate c.in-Release.bytes x
    (means P at c.args.wish (asks.Release c.in-Release.gate c.in-Release.bytes) x c.in-Release.is is) (c.answer-in-Release.ensures.thread m waits) (c.answer-in-Release.ensures.kept m waits) stored

pub returns-in-Nothing-clause-performed : goal.returns-in-Nothing-clause-performed
returns-in-Nothing-clause-performed g c = λ x is m modules a s waits same stored.
    let P = rules_of c.args.policy.now in
    let at = c.args.at.number in
    vanished P m modules at a s (waiting m c.args.suspended) (g.F.Facets.rows c.args.facets.now) c.answer-in-Nothing.result x
    (means P at c.args.wish asks.Nothing x c.in-Nothing.is is) (c.answer-in-Nothing.ensures.thread m waits) (c.answer-in-Nothing.ensures.kept m waits) stored

pub returns-in-Input-clause-performed : goal.returns-in-Input-clause-performed
returns-in-Input-clause-performed g c =
    let P = rules_of c.args.policy.now in
    let at = c.args.at.number in
    let rows = g.F.Facets.rows c.args.facets.now in
    let place = c.in-Input.place in
    let cap = c.in-Input.cap in
    let does = λ (done : Performed) (x : wishes.Wish). Carries P at c.args.suspended c.args.input.now rows (λ M a w t. granted P M at a w t x) rows done in
    IfOk-weaker c.copied.result _ (λ done. (x : wishes.Wish) → c.args.wish ≡ shown P at x → does done x)
    (λ done h x is. subst (does done) (sym (means P at c.args.wish (asks.Input place cap) x c.in-Input.is is))
    (λ m modules a s waits same stored. subst (λ bytes. Performs P m at a s (copied (guest_of modules) (waiting m c.args.suspended) place cap bytes []) rows done) (sym same)
    (h P m modules at a s [] rows waits refl stored)))
    c.copied.ensures.performed
