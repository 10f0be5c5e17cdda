-- A step after an accepted step is a step over the files of both.
use Rattle.std.proofs.Common.{◌≡◌, ℕ, ◌≤◌, List, [], ◌∷◌, ◌++◌, Some, None, IfSome, Result, Err, refl, sym, ap, subst, ◌∙◌, append_assoc, arith}
use Rattle.std.specs.declared.option.Option.{Option}
use Rattle.trapeze_io.specs.Seen.{Seen, Held, OpensAll, OpensOne}
use Rattle.trapeze_io.specs.Causes.{Rose}
use Rattle.trapeze_io.proofs.Opens.{OpensAll-append, OpensAll-held, OpensAll-faults}
use Rattle.trapeze_cli.specs.declared.status.Status.{Status}
use Rattle.trapeze_cli.specs.declared.status.Status.TheVariants.{Done, Usage, Policy, Module, Events, ReadFault, WriteFault, NoMemory, TooLong}
use Rattle.trapeze_cli.specs.declared.status.Input.TheVariants.{Policy as policy_input, Module as module_input, Events as events_input}
use Rattle.trapeze_cli.specs.declared.status.Input.{Input}
use Rattle.trapeze_cli.specs.Forms.{Source}
use Rattle.trapeze_cli.specs.Whys.{Why, Finished, Refused, ReadFailed, WriteFailed, OutOfMemory, why, IfReadFailed}
use Rattle.trapeze_cli.specs.Opens.{names_of, IsLast, OpensTo}
use Rattle.trapeze_cli.specs.Steps.{FaultsRose, HasReason, Ends}

-- the one file of a step was opened, and the step ended the call
pub opens_one : (source : Source) (status : Status) (old new : Seen) → OpensAll (source.name ∷ []) old new → IsLast status source.input []
    → OpensTo (source ∷ []) status old new
opens_one source status old new opens is = record {
  before = [];
  last = source;
  after = [];
  split = refl;
  is_last = is;
  opens = opens;
}

-- a read of the one file failed
pub read_failed : (old new : Seen) (name : List ℕ) → OpensOne old name new → Rose new.mark new.faults → FaultsRose old new
read_failed old new name one marked = record { rose = subst (λ (mark : ℕ). Rose mark new.faults) one.mark marked; marked = marked }

pub names-append : (first second : List Source) → names_of (first ++ second) ≡ names_of first ++ names_of second
names-append [] second = refl
names-append (s ∷ first) second = ap (λ names. s.name ∷ names) (names-append first second)

-- the files of the first step were opened, and then some of the second
pub opens_later : (first second : List Source) (status : Status) (old mid new : Seen) → OpensAll (names_of first) old mid
    → OpensTo second status mid new → OpensTo (first ++ second) status old new
opens_later first second status old mid new p q =
    let both = first ++ q.before in
    let names : names_of first ++ names_of (q.before ++ q.last ∷ []) ≡ names_of (both ++ q.last ∷ []) =
    sym (names-append first (q.before ++ q.last ∷ [])) ∙ ap names_of (sym (append_assoc first q.before (q.last ∷ []))) in
    record {
      before = both;
      last = q.last;
      after = q.after;
      split = ap (λ rest. first ++ rest) q.split ∙ sym (append_assoc first q.before (q.last ∷ q.after));
      is_last = q.is_last;
      opens = subst (λ names. OpensAll names old new) names
          (OpensAll-append (names_of first) (names_of (q.before ++ q.last ∷ [])) old mid new p q.opens);
    }

-- some files of the first step were opened, and none of the second
pub opens_first : (first second : List Source) (status : Status) (old new : Seen) → OpensTo first status old new
    → ((input : Input) (after : List Source) → IsLast status input after → IsLast status input (after ++ second)) → OpensTo (first ++ second) status old new
opens_first first second status old new p k = record {
  before = p.before;
  last = p.last;
  after = p.after ++ second;
  split = ap (λ sources. sources ++ second) p.split ∙ append_assoc p.before (p.last ∷ p.after) second;
  is_last = k p.last.input p.after p.is_last;
  opens = p.opens;
}

-- what is told of the files after a step, from what is told before
pub told_of : (P Q : Held → Type 0) (held mid : Option Held) → mid ≡ held → IfSome held (λ h. P h → Q h) → IfSome mid P → IfSome held Q
told_of P Q None mid same k p = tt
told_of P Q (Some h) mid same k p = k (subst (λ (o : Option Held). IfSome o P) same p)

refused_by : {X Y : Type 0} (step : Held → Result X Status → Type 0) (whole : Held → Result Y Status → Type 0) (status : Status) (old mid new : Seen) (w : Why)
    → mid.held ≡ old.held → old.faults ≤ mid.faults → IfSome old.held (λ h. step h (Err status) → whole h (Err status))
    → HasReason step mid new status w → HasReason whole old new status w
refused_by step whole status old mid new Finished same later k r = r
refused_by step whole status old mid new Refused same later k r = told_of (λ h. step h (Err status)) (λ h. whole h (Err status)) old.held mid.held same k r
refused_by step whole status old mid new (ReadFailed input) same later k r = record { rose = omega (arith, later, r.rose); marked = r.marked }
refused_by step whole status old mid new WriteFailed same later k r = r
refused_by step whole status old mid new OutOfMemory same later k r = tt

-- a step ended the call after one that was accepted
pub ends_later : {X Y : Type 0} (first second : List Source) (step : Held → Result X Status → Type 0) (whole : Held → Result Y Status → Type 0) (status : Status) (old mid new : Seen)
    → OpensAll (names_of first) old mid → IfSome old.held (λ h. step h (Err status) → whole h (Err status))
    → Ends second step status mid new → Ends (first ++ second) whole status old new
ends_later first second step whole status old mid new p k e = record {
  opens = opens_later first second status old mid new p e.opens;
  refused = refused_by step whole status old mid new (why status) (OpensAll-held (names_of first) old mid p) (OpensAll-faults (names_of first) old mid p) k e.refused;
}

-- a step that ended the call before its files were all opened ended before others too
pub last_more : {X : Type 0} (step : Held → Result X Status → Type 0) (old new : Seen) (status : Status) (input : Input) (after second : List Source)
    → HasReason step old new status (why status) → IsLast status input after → IsLast status input (after ++ second)
last_more step old new Done input after second r is = absurd r
last_more step old new WriteFault input after second r is = absurd r
last_more step old new Usage input after second r is = is
last_more step old new (Policy fault) input after second r is = is
last_more step old new (Module f fault) input after second r is = is
last_more step old new (Events error) input after second r is = is
last_more step old new (ReadFault failed) input after second r is = is
last_more step old new NoMemory input after second r is = is
last_more step old new (TooLong policy_input) input after second r is = is
last_more step old new (TooLong (module_input f)) input after second r is = is
last_more step old new (TooLong events_input) input after second r is = is

pub ends_first : {X Y : Type 0} (first second : List Source) (step : Held → Result X Status → Type 0) (whole : Held → Result Y Status → Type 0) (status : Status) (old new : Seen)
    → IfSome old.held (λ h. step h (Err status) → whole h (Err status)) → Ends first step status old new → Ends (first ++ second) whole status old new
ends_first first second step whole status old new k e = record {
  opens = opens_first first second status old new e.opens (λ input after is. last_more step old new status input after second e.refused is);
  refused = refused_by step whole status old old new (why status) refl (omega arith) k e.refused;
}

-- a step that says more
pub ends_same : {X Y : Type 0} (sources : List Source) (step : Held → Result X Status → Type 0) (whole : Held → Result Y Status → Type 0) (status : Status) (old new : Seen)
    → IfSome old.held (λ h. step h (Err status) → whole h (Err status)) → Ends sources step status old new → Ends sources whole status old new
ends_same sources step whole status old new k e = record { opens = e.opens; refused = refused_by step whole status old old new (why status) refl (omega arith) k e.refused }

-- an input that could not be read is the one file of a step

last_of_one : (source last : Source) (before after : List Source) → source ∷ [] ≡ before ++ last ∷ after → last ≡ source
last_of_one source last [] after split = cc
last_of_one source last (b ∷ []) after split = absurd (cc)
last_of_one source last (b ∷ c ∷ before) after split = absurd (cc)

pub failed_input : (source : Source) (status : Status) (old new : Seen) (P : Input → Type 0) → P source.input → OpensTo (source ∷ []) status old new
    → IfReadFailed (why status) P
failed_input source (ReadFault input) old new P holds opens =
    subst P (ap (λ (s : Source). s.input) (sym (last_of_one source opens.last opens.before opens.after opens.split)) ∙ opens.is_last) holds
failed_input source Done old new P holds opens = tt
failed_input source Usage old new P holds opens = tt
failed_input source (Policy fault) old new P holds opens = tt
failed_input source (Module f fault) old new P holds opens = tt
failed_input source (Events error) old new P holds opens = tt
failed_input source WriteFault old new P holds opens = tt
failed_input source NoMemory old new P holds opens = tt
failed_input source (TooLong policy_input) old new P holds opens = tt
failed_input source (TooLong (module_input f)) old new P holds opens = tt
failed_input source (TooLong events_input) old new P holds opens = tt
