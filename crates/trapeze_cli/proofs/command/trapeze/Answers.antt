use Rattle.std.proofs.Common.{subst, inr, [], ◌∷◌, map, string_bytes, arith}
use Rattle.trapeze_io.specs.Seen.{OpensOne}
use Rattle.trapeze_cli.specs.Forms.{command_of}
use Rattle.trapeze_cli.specs.Said.{said}
use Rattle.trapeze_cli.proofs.PolicyToWords.{one_opened, outcome_read, outcome_unread, opened_read, opened_unread, reached_read, reached_unread, events_read, counted_unread, fails, files_read, not_write, fails_unread, last_is}
use Rattle.trapeze_cli.proofs.UnderPolicy.{counted_later, failed_map}
use Rattle.trapeze_cli.proofs.Complete.{completes, names_read, says_named, says_unread, unknown_answered, unknown_given}
use Rattle.trapeze_cli.proofs.Exercises.{of_exercise, of_files, exercise_opened, exercise_read, exercise_outcome, exercise_ends, exercise_write, exercise_unread, exercise_usage, exercise_past, exercise_memory, exercise_said}
use Rattle.trapeze_cli.proofs.command.trapeze.Goals as goal

pub returns-in-Ok-clause-private : goal.returns-in-Ok-clause-private
returns-in-Ok-clause-private g c =
    (outcome_read (command_of (map string_bytes c.args.words.now)) (said c.in-OnFiles.form) (of_files c.in-Some.command c.in-OnFiles.form (command_of (map string_bytes c.args.words.now)) c.in-OnFiles.is c.in-Some.ensures) c.policy.result.now c.policy.ensures c.in-Ok.policy (g.F.Files.seen c.args.files.now) (g.F.Files.seen c.read_rules.new.files) (one_opened _ _ _ c.in-Ok.ensures.steps) c.in-Ok.ensures.ok (g.F.Files.seen c.under_policy-status.new.files).current c.under_policy-status.result _ _ c.under_policy-status.ensures.outcome).private

pub returns-in-Ok-clause-answered : goal.returns-in-Ok-clause-answered
returns-in-Ok-clause-answered g c =
    (outcome_read (command_of (map string_bytes c.args.words.now)) (said c.in-OnFiles.form) (of_files c.in-Some.command c.in-OnFiles.form (command_of (map string_bytes c.args.words.now)) c.in-OnFiles.is c.in-Some.ensures) c.policy.result.now c.policy.ensures c.in-Ok.policy (g.F.Files.seen c.args.files.now) (g.F.Files.seen c.read_rules.new.files) (one_opened _ _ _ c.in-Ok.ensures.steps) c.in-Ok.ensures.ok (g.F.Files.seen c.under_policy-status.new.files).current c.under_policy-status.result _ _ c.under_policy-status.ensures.outcome).answered

pub returns-in-Ok-clause-written : goal.returns-in-Ok-clause-written
returns-in-Ok-clause-written g c =
    (outcome_read (command_of (map string_bytes c.args.words.now)) (said c.in-OnFiles.form) (of_files c.in-Some.command c.in-OnFiles.form (command_of (map string_bytes c.args.words.now)) c.in-OnFiles.is c.in-Some.ensures) c.policy.result.now c.policy.ensures c.in-Ok.policy (g.F.Files.seen c.args.files.now) (g.F.Files.seen c.read_rules.new.files) (one_opened _ _ _ c.in-Ok.ensures.steps) c.in-Ok.ensures.ok (g.F.Files.seen c.under_policy-status.new.files).current c.under_policy-status.result _ _ c.under_policy-status.ensures.outcome).written

pub returns-in-Ok-clause-clean : goal.returns-in-Ok-clause-clean
returns-in-Ok-clause-clean g c =
    (outcome_read (command_of (map string_bytes c.args.words.now)) (said c.in-OnFiles.form) (of_files c.in-Some.command c.in-OnFiles.form (command_of (map string_bytes c.args.words.now)) c.in-OnFiles.is c.in-Some.ensures) c.policy.result.now c.policy.ensures c.in-Ok.policy (g.F.Files.seen c.args.files.now) (g.F.Files.seen c.read_rules.new.files) (one_opened _ _ _ c.in-Ok.ensures.steps) c.in-Ok.ensures.ok (g.F.Files.seen c.under_policy-status.new.files).current c.under_policy-status.result _ _ c.under_policy-status.ensures.outcome).clean

pub returns-in-Ok-clause-stopped : goal.returns-in-Ok-clause-stopped
returns-in-Ok-clause-stopped g c =
    (outcome_read (command_of (map string_bytes c.args.words.now)) (said c.in-OnFiles.form) (of_files c.in-Some.command c.in-OnFiles.form (command_of (map string_bytes c.args.words.now)) c.in-OnFiles.is c.in-Some.ensures) c.policy.result.now c.policy.ensures c.in-Ok.policy (g.F.Files.seen c.args.files.now) (g.F.Files.seen c.read_rules.new.files) (one_opened _ _ _ c.in-Ok.ensures.steps) c.in-Ok.ensures.ok (g.F.Files.seen c.under_policy-status.new.files).current c.under_policy-status.result _ _ c.under_policy-status.ensures.outcome).stopped

pub returns-in-Ok-clause-opened : goal.returns-in-Ok-clause-opened
returns-in-Ok-clause-opened g c =
    opened_read (command_of (map string_bytes c.args.words.now)) (said c.in-OnFiles.form) (of_files c.in-Some.command c.in-OnFiles.form (command_of (map string_bytes c.args.words.now)) c.in-OnFiles.is c.in-Some.ensures) c.policy.result.now c.policy.ensures c.in-Ok.policy (g.F.Files.seen c.args.files.now) (g.F.Files.seen c.read_rules.new.files) (one_opened _ _ _ c.in-Ok.ensures.steps) c.in-Ok.ensures.ok c.under_policy-status.result (g.F.Files.seen c.under_policy-status.new.files) c.under_policy-status.ensures.opens

pub returns-in-Ok-clause-read : goal.returns-in-Ok-clause-read
returns-in-Ok-clause-read g c =
    λ done. events_read (command_of (map string_bytes c.args.words.now)) (said c.in-OnFiles.form) (of_files c.in-Some.command c.in-OnFiles.form (command_of (map string_bytes c.args.words.now)) c.in-OnFiles.is c.in-Some.ensures) c.policy.result.now c.policy.ensures c.in-Ok.policy (g.F.Files.seen c.args.files.now) (g.F.Files.seen c.read_rules.new.files) (one_opened _ _ _ c.in-Ok.ensures.steps) c.in-Ok.ensures.ok (g.F.Files.seen c.under_policy-status.new.files).current (c.under_policy-status.ensures.read done)

pub returns-in-Ok-clause-reached : goal.returns-in-Ok-clause-reached
returns-in-Ok-clause-reached g c =
    reached_read (command_of (map string_bytes c.args.words.now)) (said c.in-OnFiles.form) (of_files c.in-Some.command c.in-OnFiles.form (command_of (map string_bytes c.args.words.now)) c.in-OnFiles.is c.in-Some.ensures) c.policy.result.now c.policy.ensures c.in-Ok.policy (g.F.Files.seen c.args.files.now) (g.F.Files.seen c.read_rules.new.files) (one_opened _ _ _ c.in-Ok.ensures.steps) c.in-Ok.ensures.ok c.under_policy-status.result c.under_policy-status.ensures.reached

pub returns-in-Ok-clause-read_fault : goal.returns-in-Ok-clause-read_fault
returns-in-Ok-clause-read_fault g c =
    (fails (command_of (map string_bytes c.args.words.now)) (said c.in-OnFiles.form) (of_files c.in-Some.command c.in-OnFiles.form (command_of (map string_bytes c.args.words.now)) c.in-OnFiles.is c.in-Some.ensures) c.in-Ok.policy.files (g.F.Files.seen c.args.files.now) (g.F.Files.seen c.under_policy-status.new.files) c.under_policy-status.result (files_read (command_of (map string_bytes c.args.words.now)) (said c.in-OnFiles.form) (of_files c.in-Some.command c.in-OnFiles.form (command_of (map string_bytes c.args.words.now)) c.in-OnFiles.is c.in-Some.ensures) c.policy.result.now c.policy.ensures c.in-Ok.policy (g.F.Files.seen c.args.files.now) (g.F.Files.seen c.read_rules.new.files) (one_opened _ _ _ c.in-Ok.ensures.steps) c.in-Ok.ensures.ok)
    (omega (arith, c.under_policy-status.ensures.policy.one_file_per_function, c.under_policy-status.ensures.policy.few_functions))
    (c.under_policy-status.ensures.opens (g.F.Files.seen c.args.files.now) (subst (λ n. OpensOne (g.F.Files.seen c.args.files.now) n (g.F.Files.seen c.read_rules.new.files)) c.policy.ensures (one_opened _ _ _ c.in-Ok.ensures.steps)))
    (counted_later (c.policy.result.now ∷ []) (g.F.Files.seen c.args.files.now) (g.F.Files.seen c.read_rules.new.files) (g.F.Files.seen c.under_policy-status.new.files) c.under_policy-status.result c.in-Ok.ensures.steps c.under_policy-status.ensures.counted))

pub returns-in-Ok-clause-complete : goal.returns-in-Ok-clause-complete
returns-in-Ok-clause-complete g c =
    λ quiet dry.
    let outcome = (outcome_read (command_of (map string_bytes c.args.words.now)) (said c.in-OnFiles.form) (of_files c.in-Some.command c.in-OnFiles.form (command_of (map string_bytes c.args.words.now)) c.in-OnFiles.is c.in-Some.ensures) c.policy.result.now c.policy.ensures c.in-Ok.policy (g.F.Files.seen c.args.files.now) (g.F.Files.seen c.read_rules.new.files) (one_opened _ _ _ c.in-Ok.ensures.steps) c.in-Ok.ensures.ok (g.F.Files.seen c.under_policy-status.new.files).current c.under_policy-status.result _ _ c.under_policy-status.ensures.outcome) in
    completes (command_of (map string_bytes c.args.words.now)) (g.F.Files.seen c.args.files.now).held _ _ _ c.under_policy-status.result _ _ _ _ outcome.answered outcome.written
    (failed_map c.under_policy-status.result (λ i k. k.rose) (counted_later (c.policy.result.now ∷ []) (g.F.Files.seen c.args.files.now) (g.F.Files.seen c.read_rules.new.files) (g.F.Files.seen c.under_policy-status.new.files) c.under_policy-status.result c.in-Ok.ensures.steps c.under_policy-status.ensures.counted)) c.under_policy-status.ensures.write_fault quiet dry

pub returns-in-Ok-clause-said : goal.returns-in-Ok-clause-said
returns-in-Ok-clause-said g c =
    says_named (command_of (map string_bytes c.args.words.now)) (said c.in-OnFiles.form) (of_files c.in-Some.command c.in-OnFiles.form (command_of (map string_bytes c.args.words.now)) c.in-OnFiles.is c.in-Some.ensures) (g.F.Files.seen c.args.files.now).held _ _ _ _ c.under_policy-status.result _ (names_read (said c.in-OnFiles.form) (g.F.Files.seen c.args.files.now).held c.policy.result.now c.in-Ok.policy c.policy.ensures c.in-Ok.ensures.ok) c.report-in-Ok.ensures

pub returns-in-Err-clause-private : goal.returns-in-Err-clause-private
returns-in-Err-clause-private g c =
    (outcome_unread (command_of (map string_bytes c.args.words.now)) (said c.in-OnFiles.form) (of_files c.in-Some.command c.in-OnFiles.form (command_of (map string_bytes c.args.words.now)) c.in-OnFiles.is c.in-Some.ensures) c.policy.result.now c.policy.ensures (g.F.Files.seen c.args.files.now) (g.F.Files.seen c.read_rules.new.files) c.in-Err.status c.in-Err.ensures.steps (g.F.Files.seen c.read_rules.new.files).current (g.S.Sink.written c.args.out.now)).private

pub returns-in-Err-clause-answered : goal.returns-in-Err-clause-answered
returns-in-Err-clause-answered g c =
    (outcome_unread (command_of (map string_bytes c.args.words.now)) (said c.in-OnFiles.form) (of_files c.in-Some.command c.in-OnFiles.form (command_of (map string_bytes c.args.words.now)) c.in-OnFiles.is c.in-Some.ensures) c.policy.result.now c.policy.ensures (g.F.Files.seen c.args.files.now) (g.F.Files.seen c.read_rules.new.files) c.in-Err.status c.in-Err.ensures.steps (g.F.Files.seen c.read_rules.new.files).current (g.S.Sink.written c.args.out.now)).answered

pub returns-in-Err-clause-written : goal.returns-in-Err-clause-written
returns-in-Err-clause-written g c =
    (outcome_unread (command_of (map string_bytes c.args.words.now)) (said c.in-OnFiles.form) (of_files c.in-Some.command c.in-OnFiles.form (command_of (map string_bytes c.args.words.now)) c.in-OnFiles.is c.in-Some.ensures) c.policy.result.now c.policy.ensures (g.F.Files.seen c.args.files.now) (g.F.Files.seen c.read_rules.new.files) c.in-Err.status c.in-Err.ensures.steps (g.F.Files.seen c.read_rules.new.files).current (g.S.Sink.written c.args.out.now)).written

pub returns-in-Err-clause-clean : goal.returns-in-Err-clause-clean
returns-in-Err-clause-clean g c =
    (outcome_unread (command_of (map string_bytes c.args.words.now)) (said c.in-OnFiles.form) (of_files c.in-Some.command c.in-OnFiles.form (command_of (map string_bytes c.args.words.now)) c.in-OnFiles.is c.in-Some.ensures) c.policy.result.now c.policy.ensures (g.F.Files.seen c.args.files.now) (g.F.Files.seen c.read_rules.new.files) c.in-Err.status c.in-Err.ensures.steps (g.F.Files.seen c.read_rules.new.files).current (g.S.Sink.written c.args.out.now)).clean

pub returns-in-Err-clause-stopped : goal.returns-in-Err-clause-stopped
returns-in-Err-clause-stopped g c =
    (outcome_unread (command_of (map string_bytes c.args.words.now)) (said c.in-OnFiles.form) (of_files c.in-Some.command c.in-OnFiles.form (command_of (map string_bytes c.args.words.now)) c.in-OnFiles.is c.in-Some.ensures) c.policy.result.now c.policy.ensures (g.F.Files.seen c.args.files.now) (g.F.Files.seen c.read_rules.new.files) c.in-Err.status c.in-Err.ensures.steps (g.F.Files.seen c.read_rules.new.files).current (g.S.Sink.written c.args.out.now)).stopped

pub returns-in-Err-clause-opened : goal.returns-in-Err-clause-opened
returns-in-Err-clause-opened g c =
    opened_unread (command_of (map string_bytes c.args.words.now)) (said c.in-OnFiles.form) (of_files c.in-Some.command c.in-OnFiles.form (command_of (map string_bytes c.args.words.now)) c.in-OnFiles.is c.in-Some.ensures) c.policy.result.now c.policy.ensures (g.F.Files.seen c.args.files.now) (g.F.Files.seen c.read_rules.new.files) c.in-Err.status c.in-Err.ensures.steps

pub returns-in-Err-clause-reached : goal.returns-in-Err-clause-reached
returns-in-Err-clause-reached g c =
    reached_unread (command_of (map string_bytes c.args.words.now)) (said c.in-OnFiles.form) (of_files c.in-Some.command c.in-OnFiles.form (command_of (map string_bytes c.args.words.now)) c.in-OnFiles.is c.in-Some.ensures) c.policy.result.now c.policy.ensures (g.F.Files.seen c.args.files.now) (g.F.Files.seen c.read_rules.new.files) c.in-Err.status c.in-Err.ensures.steps

pub returns-in-Err-clause-read_fault : goal.returns-in-Err-clause-read_fault
returns-in-Err-clause-read_fault g c =
    fails_unread (command_of (map string_bytes c.args.words.now)) (said c.in-OnFiles.form) (of_files c.in-Some.command c.in-OnFiles.form (command_of (map string_bytes c.args.words.now)) c.in-OnFiles.is c.in-Some.ensures) c.policy.result.now c.policy.ensures (g.F.Files.seen c.args.files.now) (g.F.Files.seen c.read_rules.new.files) c.in-Err.status c.in-Err.ensures.steps

pub returns-in-Err-clause-complete : goal.returns-in-Err-clause-complete
returns-in-Err-clause-complete g c =
    λ quiet dry.
    let outcome = outcome_unread (command_of (map string_bytes c.args.words.now)) (said c.in-OnFiles.form) (of_files c.in-Some.command c.in-OnFiles.form (command_of (map string_bytes c.args.words.now)) c.in-OnFiles.is c.in-Some.ensures) c.policy.result.now c.policy.ensures (g.F.Files.seen c.args.files.now) (g.F.Files.seen c.read_rules.new.files) c.in-Err.status c.in-Err.ensures.steps (g.F.Files.seen c.read_rules.new.files).current (g.S.Sink.written c.args.out.now) in
    completes (command_of (map string_bytes c.args.words.now)) (g.F.Files.seen c.args.files.now).held _ _ _ c.in-Err.status _ _ (g.S.Sink.faults c.args.out.now) (g.S.Sink.faults c.args.out.now) outcome.answered outcome.written
    (failed_map c.in-Err.status (λ i k. k.rose) (counted_unread (command_of (map string_bytes c.args.words.now)) (said c.in-OnFiles.form) (of_files c.in-Some.command c.in-OnFiles.form (command_of (map string_bytes c.args.words.now)) c.in-OnFiles.is c.in-Some.ensures) c.policy.result.now c.policy.ensures (g.F.Files.seen c.args.files.now) (g.F.Files.seen c.read_rules.new.files) c.in-Err.status c.in-Err.ensures.steps)) (λ e. absurd (not_write (command_of (map string_bytes c.args.words.now)) (said c.in-OnFiles.form) (of_files c.in-Some.command c.in-OnFiles.form (command_of (map string_bytes c.args.words.now)) c.in-OnFiles.is c.in-Some.ensures) c.policy.result.now c.policy.ensures (g.F.Files.seen c.args.files.now) (g.F.Files.seen c.read_rules.new.files) c.in-Err.status c.in-Err.ensures.steps e)) quiet dry

pub returns-in-Err-clause-said : goal.returns-in-Err-clause-said
returns-in-Err-clause-said g c =
    says_unread (command_of (map string_bytes c.args.words.now)) (said c.in-OnFiles.form) (of_files c.in-Some.command c.in-OnFiles.form (command_of (map string_bytes c.args.words.now)) c.in-OnFiles.is c.in-Some.ensures) (g.F.Files.seen c.args.files.now).held _ _ _ _ c.in-Err.status c.in-Err.ensures.steps.opens.after (last_is (command_of (map string_bytes c.args.words.now)) (said c.in-OnFiles.form) (of_files c.in-Some.command c.in-OnFiles.form (command_of (map string_bytes c.args.words.now)) c.in-OnFiles.is c.in-Some.ensures) c.policy.result.now c.policy.ensures (g.F.Files.seen c.args.files.now) (g.F.Files.seen c.read_rules.new.files) c.in-Err.status c.in-Err.ensures.steps) c.report-in-Err.ensures

pub returns-in_default-clause-answered : goal.returns-in_default-clause-answered
returns-in_default-clause-answered g c = unknown_answered _ _ c.in_default.ensures

pub returns-in_default-clause-complete : goal.returns-in_default-clause-complete
returns-in_default-clause-complete g c = λ quiet dry. inr (unknown_given _ _ _ c.in_default.ensures)

pub returns-in-Exercise-clause-private : goal.returns-in-Exercise-clause-private
returns-in-Exercise-clause-private g c =
    (exercise_outcome (command_of (map string_bytes c.args.words.now)) c.in-Exercise.number (of_exercise c.in-Some.command c.in-Exercise.number (command_of (map string_bytes c.args.words.now)) c.in-Exercise.is c.in-Some.ensures) c.exercise-status.result _ _ _ _ c.exercise-status.ensures (g.F.Files.seen c.args.files.now).held (g.F.Files.seen c.args.files.now).current).private

pub returns-in-Exercise-clause-answered : goal.returns-in-Exercise-clause-answered
returns-in-Exercise-clause-answered g c =
    (exercise_outcome (command_of (map string_bytes c.args.words.now)) c.in-Exercise.number (of_exercise c.in-Some.command c.in-Exercise.number (command_of (map string_bytes c.args.words.now)) c.in-Exercise.is c.in-Some.ensures) c.exercise-status.result _ _ _ _ c.exercise-status.ensures (g.F.Files.seen c.args.files.now).held (g.F.Files.seen c.args.files.now).current).answered

pub returns-in-Exercise-clause-written : goal.returns-in-Exercise-clause-written
returns-in-Exercise-clause-written g c =
    (exercise_outcome (command_of (map string_bytes c.args.words.now)) c.in-Exercise.number (of_exercise c.in-Some.command c.in-Exercise.number (command_of (map string_bytes c.args.words.now)) c.in-Exercise.is c.in-Some.ensures) c.exercise-status.result _ _ _ _ c.exercise-status.ensures (g.F.Files.seen c.args.files.now).held (g.F.Files.seen c.args.files.now).current).written

pub returns-in-Exercise-clause-clean : goal.returns-in-Exercise-clause-clean
returns-in-Exercise-clause-clean g c =
    (exercise_outcome (command_of (map string_bytes c.args.words.now)) c.in-Exercise.number (of_exercise c.in-Some.command c.in-Exercise.number (command_of (map string_bytes c.args.words.now)) c.in-Exercise.is c.in-Some.ensures) c.exercise-status.result _ _ _ _ c.exercise-status.ensures (g.F.Files.seen c.args.files.now).held (g.F.Files.seen c.args.files.now).current).clean

pub returns-in-Exercise-clause-stopped : goal.returns-in-Exercise-clause-stopped
returns-in-Exercise-clause-stopped g c =
    (exercise_outcome (command_of (map string_bytes c.args.words.now)) c.in-Exercise.number (of_exercise c.in-Some.command c.in-Exercise.number (command_of (map string_bytes c.args.words.now)) c.in-Exercise.is c.in-Some.ensures) c.exercise-status.result _ _ _ _ c.exercise-status.ensures (g.F.Files.seen c.args.files.now).held (g.F.Files.seen c.args.files.now).current).stopped

pub returns-in-Exercise-clause-refused : goal.returns-in-Exercise-clause-refused
returns-in-Exercise-clause-refused g c =
    exercise_usage (command_of (map string_bytes c.args.words.now)) c.in-Exercise.number (of_exercise c.in-Some.command c.in-Exercise.number (command_of (map string_bytes c.args.words.now)) c.in-Exercise.is c.in-Some.ensures) c.exercise-status.result _ _ _ _ c.exercise-status.ensures

pub returns-in-Exercise-clause-exercised : goal.returns-in-Exercise-clause-exercised
returns-in-Exercise-clause-exercised g c =
    exercise_ends (command_of (map string_bytes c.args.words.now)) c.in-Exercise.number (of_exercise c.in-Some.command c.in-Exercise.number (command_of (map string_bytes c.args.words.now)) c.in-Exercise.is c.in-Some.ensures) c.exercise-status.result _ _ _ _ c.exercise-status.ensures

pub returns-in-Exercise-clause-opened : goal.returns-in-Exercise-clause-opened
returns-in-Exercise-clause-opened g c =
    exercise_opened (command_of (map string_bytes c.args.words.now)) c.in-Exercise.number (of_exercise c.in-Some.command c.in-Exercise.number (command_of (map string_bytes c.args.words.now)) c.in-Exercise.is c.in-Some.ensures) c.exercise-status.result (g.F.Files.seen c.args.files.now)

pub returns-in-Exercise-clause-read : goal.returns-in-Exercise-clause-read
returns-in-Exercise-clause-read g c =
    λ done. exercise_read (command_of (map string_bytes c.args.words.now)) c.in-Exercise.number (of_exercise c.in-Some.command c.in-Exercise.number (command_of (map string_bytes c.args.words.now)) c.in-Exercise.is c.in-Some.ensures) (g.F.Files.seen c.args.files.now).held (g.F.Files.seen c.args.files.now).current

pub returns-in-Exercise-clause-past : goal.returns-in-Exercise-clause-past
returns-in-Exercise-clause-past g c =
    exercise_past (command_of (map string_bytes c.args.words.now)) c.in-Exercise.number (of_exercise c.in-Some.command c.in-Exercise.number (command_of (map string_bytes c.args.words.now)) c.in-Exercise.is c.in-Some.ensures) c.exercise-status.result _ _ _ _ c.exercise-status.ensures _

pub returns-in-Exercise-clause-read_fault : goal.returns-in-Exercise-clause-read_fault
returns-in-Exercise-clause-read_fault g c =
    exercise_unread (command_of (map string_bytes c.args.words.now)) c.in-Exercise.number (of_exercise c.in-Some.command c.in-Exercise.number (command_of (map string_bytes c.args.words.now)) c.in-Exercise.is c.in-Some.ensures) c.exercise-status.result _ _ _ _ c.exercise-status.ensures _

pub returns-in-Exercise-clause-reached : goal.returns-in-Exercise-clause-reached
returns-in-Exercise-clause-reached g c =
    exercise_unread (command_of (map string_bytes c.args.words.now)) c.in-Exercise.number (of_exercise c.in-Some.command c.in-Exercise.number (command_of (map string_bytes c.args.words.now)) c.in-Exercise.is c.in-Some.ensures) c.exercise-status.result _ _ _ _ c.exercise-status.ensures _

pub returns-in-Exercise-clause-write_fault : goal.returns-in-Exercise-clause-write_fault
returns-in-Exercise-clause-write_fault g c =
    exercise_write (command_of (map string_bytes c.args.words.now)) c.in-Exercise.number (of_exercise c.in-Some.command c.in-Exercise.number (command_of (map string_bytes c.args.words.now)) c.in-Exercise.is c.in-Some.ensures) c.exercise-status.result _ _ _ _ c.exercise-status.ensures

pub returns-in-Exercise-clause-complete : goal.returns-in-Exercise-clause-complete
returns-in-Exercise-clause-complete g c =
    λ quiet dry.
    let outcome = (exercise_outcome (command_of (map string_bytes c.args.words.now)) c.in-Exercise.number (of_exercise c.in-Some.command c.in-Exercise.number (command_of (map string_bytes c.args.words.now)) c.in-Exercise.is c.in-Some.ensures) c.exercise-status.result _ _ _ _ c.exercise-status.ensures (g.F.Files.seen c.args.files.now).held (g.F.Files.seen c.args.files.now).current) in
    completes (command_of (map string_bytes c.args.words.now)) (g.F.Files.seen c.args.files.now).held _ _ _ c.exercise-status.result _ _ _ _ outcome.answered outcome.written (exercise_unread (command_of (map string_bytes c.args.words.now)) c.in-Exercise.number (of_exercise c.in-Some.command c.in-Exercise.number (command_of (map string_bytes c.args.words.now)) c.in-Exercise.is c.in-Some.ensures) c.exercise-status.result _ _ _ _ c.exercise-status.ensures _) (exercise_write (command_of (map string_bytes c.args.words.now)) c.in-Exercise.number (of_exercise c.in-Some.command c.in-Exercise.number (command_of (map string_bytes c.args.words.now)) c.in-Exercise.is c.in-Some.ensures) c.exercise-status.result _ _ _ _ c.exercise-status.ensures) quiet dry

pub returns-in-Exercise-clause-memory : goal.returns-in-Exercise-clause-memory
returns-in-Exercise-clause-memory g c =
    exercise_memory (command_of (map string_bytes c.args.words.now)) c.in-Exercise.number (of_exercise c.in-Some.command c.in-Exercise.number (command_of (map string_bytes c.args.words.now)) c.in-Exercise.is c.in-Some.ensures) c.exercise-status.result _ _ _ _ c.exercise-status.ensures

pub returns-in-Exercise-clause-said : goal.returns-in-Exercise-clause-said
returns-in-Exercise-clause-said g c =
    exercise_said (command_of (map string_bytes c.args.words.now)) c.in-Exercise.number (of_exercise c.in-Some.command c.in-Exercise.number (command_of (map string_bytes c.args.words.now)) c.in-Exercise.is c.in-Some.ensures) c.exercise-status.result _ _ _ _ c.exercise-status.ensures (g.F.Files.seen c.args.files.now).held _ _ _ _ c.report-in-Exercise.ensures
