-- A call whose first step was accepted, and how a call completes.
use Rattle.std.proofs.Common.{◌≡◌, ℕ, ◌+◌, List, ◌++◌, length, Some, None, IfSome, Result, Ok, Err, ◌⊎◌, inl, inr, refl, sym, ap, subst, ◌∙◌, arith}
use Rattle.std.specs.declared.option.Option.{Option}
use Rattle.trapeze_io.specs.Causes.{Rose}
use Rattle.trapeze_io.specs.Seen.{Seen, Held}
use Rattle.trapeze_io.proofs.Opens.{OpensAll-held, OpensAll-faults}
use Rattle.file_calls.specs.declared.error.FileError.{FileError}
use Rattle.file_calls.specs.declared.error.FileError.TheVariants.{Refused, TooLong, Fault, NoMemory}
use Rattle.file_calls.specs.declared.task_end.TaskEnd.{TaskEnd}
use Rattle.file_calls.specs.declared.task_end.TaskEnd.TheVariants.{Finished, Unread, WriteFailed, OutOfMemory}
use Rattle.file_calls.specs.Sources.{Source, names_of, OpensEach, FaultsRose}
use Rattle.file_calls.specs.Steps.{Step, and_then, Ends}
use Rattle.file_calls.specs.Endings.{OfTask, Carrying, EndsTask, EndsCall, IsGiven, IsOutOfMemory}
use Rattle.file_calls.proofs.OneFile.{IfSome-map}
use Rattle.file_calls.proofs.StepsInTurn.{held_told, opens_both, ends_first, ends_after, next_part}

module _ {T A X R : Type 0} (at : ℕ) (first second : List Source) (step : Step X R) (next : X → Step T R) (carried : Carrying T A) (old new : Seen) (out out_now : Option (List ℕ)) where
  abbrev whole : Step T R
  whole = and_then step next

  -- the first step ended the call
  pub call_stopped : (error : FileError R) → Ends at first step old new error → EndsCall at (first ++ second) whole carried old new out out (Err error)
  call_stopped error e = (ends_first at first second step next old new error e, refl)

  -- it was accepted, and the call ended so
  pub call_goes_on : (mid : Seen) (x : X) → OpensEach first old mid → IfSome old.held (λ h. step.says h (Ok x)) → (result : Result (TaskEnd A) (FileError R))
      → EndsCall (at + length first) second (next x) carried mid new out out_now result → EndsCall at (first ++ second) whole carried old new out out_now result
  call_goes_on mid x p said (Ok how) k = record {
    opened = opens_both first second old mid new p k.opened;
    unread = λ is. let rose = k.unread is in
        let later = OpensAll-faults (names_of first) old mid p.opens in
        record { rose = omega (arith, later, rose.rose); marked = rose.marked };
    carries = held_told (λ h. OfTask (next x) h (λ task. carried h task new.current how out out_now)) (λ h. OfTask whole h (λ task. carried h task new.current how out out_now)) old.held mid.held
        (OpensAll-held (names_of first) old mid p.opens) (IfSome-map old.held (λ h s (task, t, q). (task, (x, s, t), q)) said) k.carries;
  }
  call_goes_on mid x p said (Err error) (e, same) =
      (ends_after at first second (next x) whole old mid new error p (IfSome-map old.held (λ h s. next_part step next x h s) said) e, same)

-- where no fault was counted, a call ended as the files say, or was out of memory
module _ {T A R : Type 0} (at : ℕ) (sources : List Source) (step : Step T R) (carried : Carrying T A) (old new : Seen) (out out_now : Option (List ℕ)) (quiet : ¬ Rose old.faults new.faults) where
  completes_task : (how : TaskEnd A) → ¬ (how ≡ WriteFailed) → EndsTask sources step carried old new out out_now how
      → IsOutOfMemory {R = R} (Ok how) ⊎ IfSome old.held (IsGiven step carried new.current out out_now (Ok how))
  completes_task (Finished end) wrote k = inr (IfSome-map old.held (λ h t. (end, refl, t)) k.carries)
  completes_task Unread wrote k = absurd (quiet (k.unread refl).rose)
  completes_task WriteFailed wrote k = absurd (wrote refl)
  completes_task OutOfMemory wrote k = inl (inr refl)

  completes_stopped : (error : FileError R) → Ends at sources step old new error → out_now ≡ out
      → IsOutOfMemory {A = A} (Err error) ⊎ IfSome old.held (IsGiven step carried new.current out out_now (Err error))
  completes_stopped (Refused place refusal) e same = inr (IfSome-map old.held (λ h s. (s, same)) e.caused)
  completes_stopped (TooLong place) e same = inr (IfSome-map old.held (λ h s. (s, same)) e.caused)
  completes_stopped (Fault place) e same = absurd (quiet e.caused.0.rose)
  completes_stopped NoMemory e same = inl (inl refl)

  pub completes : (result : Result (TaskEnd A) (FileError R)) → ¬ (result ≡ Ok WriteFailed) → EndsCall at sources step carried old new out out_now result
      → IsOutOfMemory result ⊎ IfSome old.held (IsGiven step carried new.current out out_now result)
  completes (Ok how) wrote k = completes_task how (λ is. wrote (ap Ok is)) k
  completes (Err error) wrote (e, same) = completes_stopped error e same
