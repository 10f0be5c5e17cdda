-- From an exercise to its words.
use Rattle.std.proofs.Common.{◌≡◌, ℕ, List, Some, None, inl, inr, refl, sym, ap, subst, ◌∙◌}
use Rattle.std.specs.declared.option.Option.{Option}
use Rattle.trapeze_io.specs.Causes.{Rose}
use Rattle.trapeze_io.specs.Seen.{Seen, Held, OpenFile}
use Rattle.trapeze_cli.specs.declared.forms.Form.{Form as CodeForm}
use Rattle.trapeze_cli.specs.declared.forms.Command.{Command as CodeCommand}
use Rattle.trapeze_cli.specs.declared.forms.Command.TheVariants as code
use Rattle.trapeze_cli.specs.declared.status.Status.{Status}
use Rattle.trapeze_cli.specs.declared.status.Status.TheVariants as status
use Rattle.trapeze_cli.specs.declared.status.Input.{Input}
use Rattle.trapeze_cli.specs.declared.status.Input.TheVariants as inputs
use Rattle.trapeze_cli.specs.Command.{IsTask}
use Rattle.trapeze_cli.specs.Ends.{SaysOrRefuses}
use Rattle.trapeze_cli.specs.Exercise.{exercise_text}
use Rattle.trapeze_cli.specs.Forms.{Form, Command, Exercise, OnFiles, on_files}
use Rattle.trapeze_cli.specs.Opens.{Opened}
use Rattle.trapeze_cli.specs.Promises.{ReadsEvents, IsRefusedCommand, EndsExercise, TellsMemory}
use Rattle.trapeze_cli.specs.Said.{said, said_command}
use Rattle.trapeze_io.specs.Appends.{Says as SaysLine}
use Rattle.trapeze_cli.specs.Statuses.{no_names, error_text, WithNames}
use Rattle.trapeze_cli.specs.Steps.{CallEnds}
use Rattle.trapeze_cli.specs.Whys.{why, IfReadFailed}
use Rattle.trapeze_cli.proofs.Refusals.{IfSome-all}
use Rattle.trapeze_cli.proofs.Outcomes.{outcome_said_or_refused}

-- what the code has read is what the words ask for

pub of_exercise : (command : CodeCommand) (number : ℕ) (words : Option Command) → command ≡ code.Exercise number → Some (said_command command) ≡ words → Some (Exercise number) ≡ words
of_exercise command number words is of = ap (λ c. Some (said_command c)) (sym is) ∙ of

pub of_files : (command : CodeCommand) (form : CodeForm) (words : Option Command) → command ≡ code.OnFiles form → Some (said_command command) ≡ words → Some (OnFiles (said form)) ≡ words
of_files command form words is of = ap (λ c. Some (said_command c)) (sym is) ∙ of

module _ (words : Option Command) (number : ℕ) (of : Some (Exercise number) ≡ words) where
  pub exercise_opened : (s : Status) (seen : Seen) → Opened (on_files words) s seen seen
  exercise_opened s seen = subst (λ (f : Option Form). Opened f s seen seen) (ap on_files of) refl

  pub exercise_read : (held : Option Held) (current : Option OpenFile) → ReadsEvents (on_files words) held current
  exercise_read held current = subst (λ (f : Option Form). ReadsEvents f held current) (ap on_files of) tt

  module _ (s : Status) (old new : Option (List ℕ)) (before now : ℕ) (k : SaysOrRefuses (exercise_text number) s old new before now) where
    pub exercise_outcome : (held : Option Held) (current : Option OpenFile) → CallEnds (IsTask words) held current s old new
    exercise_outcome held current =
        subst (λ (c : Option Command). CallEnds (IsTask c) held current s old new) of
        (outcome_said_or_refused (IsTask (Some (Exercise number))) held current old new (exercise_text number) s before now (IfSome-all held (λ h. refl)) k)

    by_end : (P : Status → Type 0) → P status.Done → P status.WriteFault → P status.NoMemory → P s
    by_end P done failed refused = by k
      where
        by : SaysOrRefuses (exercise_text number) s old new before now → P s
        by (inl (is, same)) = subst P (sym is) refused
        by (inr (inl (is, all))) = subst P (sym is) done
        by (inr (inr (is, less, rose))) = subst P (sym is) failed

    pub exercise_ends : EndsExercise words s
    exercise_ends = subst (λ (c : Option Command). EndsExercise c s) of (by_end (EndsExercise (Some (Exercise number))) (inl refl) (inr (inl refl)) (inr (inr refl)))

    pub exercise_write : s ≡ status.WriteFault → Rose before now
    exercise_write e = by k
      where
        by : SaysOrRefuses (exercise_text number) s old new before now → Rose before now
        by (inl (is, same)) = absurd (let differ : status.NoMemory ≡ status.WriteFault = sym is ∙ e in cc)
        by (inr (inl (is, all))) = absurd (let differ : status.Done ≡ status.WriteFault = sym is ∙ e in cc)
        by (inr (inr (is, less, rose))) = rose

    -- no file is read, and no status is of one

    pub exercise_unread : (P : Input → Type 0) → IfReadFailed (why s) P
    exercise_unread P = by_end (λ x. IfReadFailed (why x) P) tt tt tt

    pub exercise_usage : s ≡ status.Usage → IsRefusedCommand words
    exercise_usage = by_end (λ x. x ≡ status.Usage → IsRefusedCommand words) (λ e. absurd (cc)) (λ e. absurd (cc)) (λ e. absurd (cc))

    pub exercise_past : (P : Type 0) → s ≡ status.TooLong inputs.Events → P
    exercise_past P = by_end (λ x. x ≡ status.TooLong inputs.Events → P) (λ e. absurd (cc)) (λ e. absurd (cc)) (λ e. absurd (cc))

    pub exercise_memory : TellsMemory s
    exercise_memory = by_end TellsMemory tt tt tt

    pub exercise_said : (held : Option Held) (err err_now : Option (List ℕ)) (b n : ℕ) → SaysLine err err_now b n (error_text None no_names s)
        → WithNames (on_files words) held s (λ names. SaysLine err err_now b n (error_text (on_files words) names s))
    exercise_said held err err_now b n line =
        subst (λ (f : Option Form). WithNames f held s (λ names. SaysLine err err_now b n (error_text f names s))) (ap on_files of)
        (by_end (λ x. SaysLine err err_now b n (error_text None no_names x) → WithNames None held x (λ names. SaysLine err err_now b n (error_text None names x))) (λ l. l) (λ l. l) (λ l. l) line)
