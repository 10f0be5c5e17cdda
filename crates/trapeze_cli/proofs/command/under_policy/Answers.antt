use Rattle.std.proofs.Common.{◌≡◌, ◌∙◌, ap, sym, subst, refl}
use Rattle.std.specs.Prelude.{IsSome}
use Rattle.std.specs.declared.option.Option.{Option}
use Rattle.trapeze_io.specs.Seen.{Held}
use Rattle.trapeze_io.proofs.Opens.{OpensAll-held}
use Rattle.label_lattice.specs.Sound.{IsSound}
use Rattle.host_rules.proofs.Ordered.{are_ordered}
use Rattle.trapeze_cli.specs.Command.{AreModules, IsTaskUnder}
use Rattle.trapeze_cli.specs.Forms.{module_sources}
use Rattle.trapeze_cli.specs.Opens.{names_of}
use Rattle.trapeze_cli.specs.Runs.{setting_of}
use Rattle.trapeze_cli.specs.Said.{said, said_show}
use Rattle.trapeze_cli.specs.Whys.{why}
use Rattle.trapeze_cli.proofs.Refusals.{IfSome-map, IfSome-all}
use Rattle.trapeze_cli.proofs.Tasks.{one_task_under}
use Rattle.trapeze_cli.proofs.Outcomes.{refused_as, outcome_refused, outcome_said, outcome_played}
use Rattle.trapeze_cli.proofs.UnderPolicy.{usage_only, shown_told, unshown_task, unread_task, check_task, play_task, reached_events, counted_later, opens_policy, opens_modules, opens_check, said_ends, opens_play, no_events, no_usage, reads_all, read_events, file_later}
use Rattle.trapeze_cli.proofs.command.under_policy.Goals as goal

pub returns-in-Err-clause-outcome : goal.returns-in-Err-clause-outcome
returns-in-Err-clause-outcome g c =
    let unshown = shown_told (said c.args.form.now) _ c.args.policy.now _ c.lattice-lattice.ensures.lattice c.in-Err.ensures.shown in
    let usage = usage_only c.args.policy.now.lattice.names (said c.args.form.now) c.in-Err.status unshown in
    refused_as (λ h t. IsTaskUnder h (said c.args.form.now) c.args.policy.now t) _ _ _ c.in-Err.status (ap why usage)
    (IfSome-all _ (λ h. unshown_task (said c.args.form.now) c.args.policy.now c.in-Err.status unshown h))

pub returns-in-Err-clause-opens : goal.returns-in-Err-clause-opens
returns-in-Err-clause-opens g c = λ before one.
    let unshown = shown_told (said c.args.form.now) _ c.args.policy.now _ c.lattice-lattice.ensures.lattice c.in-Err.ensures.shown in
    opens_policy (said c.args.form.now) c.args.policy.now.files c.in-Err.status _ _ one (usage_only c.args.policy.now.lattice.names (said c.args.form.now) c.in-Err.status unshown)

pub returns-in-Err-read_modules-clause-outcome : goal.returns-in-Err-read_modules-clause-outcome
returns-in-Err-read_modules-clause-outcome g c =
    let shown = shown_told (said c.args.form.now) _ c.args.policy.now _ c.lattice-lattice.ensures.lattice c.in-Ok.ensures.shown in
    let steps = c.in-Err-read_modules.ensures.steps in
    outcome_refused (λ h t. IsTaskUnder h (said c.args.form.now) c.args.policy.now t) _ _ _ (λ held r. AreModules held 0 c.args.policy.now.files r) c.in-Err-read_modules.status
    (g.F.Files.seen c.args.files.now) (g.F.Files.seen c.read_modules.new.files) refl steps.refused
    (IfSome-all _ (λ h. unread_task (said c.args.form.now) c.args.policy.now c.in-Ok.shown c.in-Err-read_modules.status shown h))
    (no_events c.args.policy.now.files c.in-Err-read_modules.status _ _ steps.opens)

pub returns-in-Err-read_modules-clause-opens : goal.returns-in-Err-read_modules-clause-opens
returns-in-Err-read_modules-clause-opens g c = λ before one.
    opens_modules (said c.args.form.now) c.args.policy.now.files (λ held r. AreModules held 0 c.args.policy.now.files r) c.in-Err-read_modules.status _ (g.F.Files.seen c.args.files.now) _ one c.in-Err-read_modules.ensures.steps

pub returns-in-Err-read_modules-clause-refused : goal.returns-in-Err-read_modules-clause-refused
returns-in-Err-read_modules-clause-refused g c = λ usage. absurd (no_usage c.args.policy.now.files c.in-Err-read_modules.status _ _ c.in-Err-read_modules.ensures.steps.opens usage)

pub returns-in-Check-clause-outcome : goal.returns-in-Check-clause-outcome
returns-in-Check-clause-outcome g c =
    let shown = shown_told (said c.args.form.now) _ c.args.policy.now _ c.lattice-lattice.ensures.lattice c.in-Ok.ensures.shown in
    let policy = c.args.policy.now in
    outcome_said (λ h t. IsTaskUnder h (said c.args.form.now) c.args.policy.now t) _ _ _ _ _ c.say_accepted.result _ _
    (IfSome-map (g.F.Files.seen c.args.files.now).held
    (λ h are. check_task (said c.args.form.now) policy c.in-Check.field-0.now c.in-Ok.shown c.in-Ok-read_modules.modules.items (ap said c.in-Check.is) shown h are) c.in-Ok-read_modules.ensures.ok)
    c.say_accepted.ensures

pub returns-in-Check-clause-opens : goal.returns-in-Check-clause-opens
returns-in-Check-clause-opens g c = λ before one.
    opens_check (said c.args.form.now) c.in-Check.field-0.now c.args.policy.now.files c.say_accepted.result before (g.F.Files.seen c.args.files.now) (g.F.Files.seen c.read_modules.new.files) (ap said c.in-Check.is)
    (said_ends _ c.say_accepted.result _ _ _ _ c.say_accepted.ensures) one c.in-Ok-read_modules.ensures.steps

pub returns-clause-outcome : goal.returns-clause-outcome
returns-clause-outcome g c =
    let shown = shown_told (said c.args.form.now) _ c.args.policy.now _ c.lattice-lattice.ensures.lattice c.in-Ok.ensures.shown in
    let policy = c.args.policy.now in
    let modules = c.in-Ok-read_modules.modules.items in
    let file = c.play_file.ensures in
    let opened : (g.F.Files.seen c.read_modules.new.files).held ≡ (g.F.Files.seen c.args.files.now).held = OpensAll-held (names_of (module_sources 0 policy.files)) _ _ c.in-Ok-read_modules.ensures.steps in
    let sound : IsSound policy.lattice = subst IsSound c.lattice-lattice.ensures.lattice c.count.ensures.sound in
    outcome_played (λ h t. IsTaskUnder h (said c.args.form.now) c.args.policy.now t) _ _ (setting_of policy modules c.in-Ok.shown) c.in-Play.events.now c.play_file.result _ _
    (IfSome-map (g.F.Files.seen c.args.files.now).held
    (λ h are. play_task (said c.args.form.now) policy (said_show c.in-Play.field-0) c.in-Play.field-1.now c.in-Play.events.now c.in-Ok.shown modules (ap said c.in-Play.is) shown h are) c.in-Ok-read_modules.ensures.ok)
    (are_ordered policy sound)
    (rw c.as_slice.ensures.value at file.answers)
    (file_later _ _ c.in-Play.events.now _ _ opened file.file)
    file.of_play
    (λ t. g.met.F.Files.tells c.play_file.new.files (subst (λ (o : Option Held). IsSome o) (sym (file.one.held ∙ opened)) t))
    (λ h. one_task_under h (said c.args.form.now) policy)

pub returns-clause-opens : goal.returns-clause-opens
returns-clause-opens g c = λ before one.
    opens_play (said c.args.form.now) (said_show c.in-Play.field-0) c.in-Play.field-1.now c.in-Play.events.now c.args.policy.now.files c.play_file.result before (g.F.Files.seen c.args.files.now) (g.F.Files.seen c.read_modules.new.files) _
    (ap said c.in-Play.is) c.play_file.ensures.of_play one c.in-Ok-read_modules.ensures.steps c.play_file.ensures.one

pub returns-clause-counted : goal.returns-clause-counted
returns-clause-counted g c =
    counted_later (names_of (module_sources 0 c.args.policy.now.files)) (g.F.Files.seen c.args.files.now) (g.F.Files.seen c.read_modules.new.files) _ c.play_file.result c.in-Ok-read_modules.ensures.steps c.play_file.ensures.counted

pub returns-clause-reached : goal.returns-clause-reached
returns-clause-reached g c =
    let shown = shown_told (said c.args.form.now) _ c.args.policy.now _ c.lattice-lattice.ensures.lattice c.in-Ok.ensures.shown in
    reached_events (said c.args.form.now) c.args.policy.now c.in-Ok.shown c.in-Ok-read_modules.modules.items _ c.play_file.result shown c.in-Ok-read_modules.ensures.ok c.play_file.ensures.of_play

pub returns-clause-read : goal.returns-clause-read
returns-clause-read g c = λ done.
    let opened : (g.F.Files.seen c.read_modules.new.files).held ≡ (g.F.Files.seen c.args.files.now).held = OpensAll-held (names_of (module_sources 0 c.args.policy.now.files)) _ _ c.in-Ok-read_modules.ensures.steps in
    read_events (said c.args.form.now) (said_show c.in-Play.field-0) c.in-Play.field-1.now c.in-Play.events.now _ _ (ap said c.in-Play.is)
    (reads_all (setting_of c.args.policy.now c.as_slice.result.now c.in-Ok.shown) _ c.in-Play.events.now _ c.play_file.result _ _ done c.play_file.ensures.answers (file_later _ _ c.in-Play.events.now _ _ opened c.play_file.ensures.file))
