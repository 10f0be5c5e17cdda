-- How the playing of a file ends, and the file that it played.
use Rattle.std.proofs.Common.{◌≡◌, ℕ, List, [], ◌++◌, Some, None, IfSome, inl, inr, refl, sym, ap, subst, ◌∙◌, arith}
use Rattle.std.specs.declared.option.Option.{Option}
use Rattle.std.specs.Io.KnownBytes.{append_known}
use Rattle.trapeze_io.specs.Causes.{Rose}
use Rattle.trapeze_io.specs.Seen.{Seen, Held, OpenFile, OpensOne, OpensNone, Gives, started}
use Rattle.trapeze_io.proofs.CallsInTurn.{Gives-nil, OpensOne-read}
use Rattle.trapeze_cli.specs.declared.status.Status.{Status}
use Rattle.trapeze_cli.specs.declared.status.Status.TheVariants as status
use Rattle.trapeze_cli.specs.declared.status.Input.TheVariants as inputs
use Rattle.trapeze_cli.specs.Runs.{Setting}
use Rattle.trapeze_cli.specs.Playing.{PlaysFile, GivesSome, IsOfPlay, file_in, texts_of}
use Rattle.trapeze_cli.specs.Ends.{IsFileOf}
use Rattle.trapeze_cli.specs.Steps.{FaultsRose}
use Rattle.trapeze_cli.specs.Whys.{why, IfReadFailed}
use Rattle.trapeze_cli.proofs.Refusals.{IfSome-map, IfSome-all}
use Rattle.trapeze_io.proofs.Appended.{all_none, prefix_none}
use Rattle.trapeze_cli.proofs.Showing.{said_nothing}

-- an opened file
pub opened_is : (P : OpenFile → Type 0) (old new : Option OpenFile) (file : List ℕ) → new ≡ started file old → P (record { given = []; rest = file }) → IfSome new P
opened_is P None new file is p = rw is tt
opened_is P (Some o) new file is p = rw is p

-- it could not be opened
pub answers_unopened : (g : Setting) (old new : Option OpenFile) (out : Option (List ℕ)) → new ≡ started [] old → IfSome new (λ r. PlaysFile g r (status.ReadFault inputs.Events) out out)
answers_unopened g old new out is =
    opened_is (λ r. PlaysFile g r (status.ReadFault inputs.Events) out out) old new [] is (record {
      tells = (refl, refl, omega arith);
      ended = λ e. cc;
      past = λ e. cc;
      stopped = λ bad e. cc;
      writes = all_none out ∙ ap (append_known out) (sym (said_nothing g));
    })

-- out of memory before it was read
pub answers_none : (g : Setting) (current : Option OpenFile) (out : Option (List ℕ)) → IfSome current (λ r. PlaysFile g r status.NoMemory out out)
answers_none g current out = IfSome-all current (λ r. record { tells = tt; ended = λ e. cc; past = λ e. cc; stopped = λ bad e. cc; writes = prefix_none (texts_of g r).all out })

-- the file that was not opened
pub file_unopened : (held : Option Held) (name : List ℕ) (current : Option OpenFile) → IsFileOf held name current (status.ReadFault inputs.Events)
file_unopened held name current = IfSome-all held (λ h. IfSome-all current (λ r. inr refl))

-- what was given and what is left are the file
file_given : (old mid new : Option OpenFile) (file : List ℕ) → mid ≡ started file old → GivesSome mid new → IfSome new (λ r. file ≡ file_in r)
file_given old mid None file is g = tt
file_given None mid (Some r) file is g = absurd (subst (λ m. Gives m (Some r) g.0) is g.1)
file_given (Some o) mid (Some r) file is g =
    let h : (file ≡ g.0 ++ r.rest) × (r.given ≡ g.0) = subst (λ m. Gives m (Some r) g.0) is g.1 in
    h.0 ∙ ap (λ b. b ++ r.rest) (sym h.1)

pub file_since : (held : Option Held) (name : List ℕ) (old mid new : Option OpenFile) (file : List ℕ) (s : Status) → mid ≡ started file old
    → IfSome held (λ h. h name ≡ Some file) → GivesSome mid new → IsFileOf held name new s
file_since held name old mid new file s is found g =
    IfSome-map held (λ h e. IfSome-map new (λ r same. inl (e ∙ ap Some same)) (file_given old mid new file is g)) found

pub gives_none : (current : Option OpenFile) → GivesSome current current
gives_none current = ([], Gives-nil current)

-- an open, and then reads
pub opens_reads : (old mid new : Seen) (name : List ℕ) → OpensOne old name mid → OpensNone mid new → GivesSome mid.current new.current → OpensOne old name new
opens_reads old mid new name one none g = OpensOne-read old mid new name g.0 one none g.1

-- a read of the file failed
pub counted_read : (old mid new : Seen) (name : List ℕ) (s : Status) → OpensOne old name mid → OpensNone mid new → IsOfPlay s (why s)
    → (s ≡ status.ReadFault inputs.Events → Rose mid.faults new.faults) → IfReadFailed (why s) (λ i. FaultsRose old new)
counted_read old mid new name s one none of k = by s of k
  where
    by : (s : Status) → IsOfPlay s (why s) → (s ≡ status.ReadFault inputs.Events → Rose mid.faults new.faults) → IfReadFailed (why s) (λ i. FaultsRose old new)
    by (status.ReadFault i) of k =
        let rose = k (ap status.ReadFault of) in
        record { rose = omega (arith, rose, one.faults); marked = omega (arith, rose, none.mark, one.mark, one.faults) }
    by status.Done of k = tt
    by status.Usage of k = tt
    by (status.Policy fault) of k = tt
    by (status.Module f fault) of k = tt
    by (status.Events bad) of k = tt
    by status.WriteFault of k = tt
    by status.NoMemory of k = tt
    by (status.TooLong inputs.Policy) of k = tt
    by (status.TooLong (inputs.Module f)) of k = tt
    by (status.TooLong inputs.Events) of k = tt
