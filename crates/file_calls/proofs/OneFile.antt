-- A step over one file.
use Rattle.std.proofs.Common.{◌≡◌, ℕ, ◌+◌, ◌<◌, ◌≤◌, List, [], ◌∷◌, length, Some, None, IfSome, Err, refl, sym, ap, subst, ◌∙◌, arith}
use Rattle.std.specs.declared.option.Option.{Option}
use Rattle.std.specs.Io.{StartsWith}
use Rattle.std.specs.Prelude.{IsSome, MatchOption, nat_lt, true}
use Rattle.std.proofs.lemmas.List.{length-take}
use Rattle.std.proofs.lemmas.Bool.{lt-ltb}
use Rattle.trapeze_io.specs.Causes.{Rose}
use Rattle.trapeze_io.specs.Seen.{Seen, Held, OpenFile, OpensOne, OpensAll, GivesPrefix}
use Rattle.trapeze_io.proofs.Opens.{OpensAll-one}
use Rattle.file_calls.specs.declared.error.FileError.TheVariants.{TooLong}
use Rattle.file_calls.specs.Sources.{Source, TakesPart, OpensUpTo, FaultsRose}
use Rattle.file_calls.specs.Steps.{within, file_at}

-- it was opened
pub opens_one : (place : ℕ) (source : Source) (old new : Seen) → OpensOne old source.name new → TakesPart source old.held new.current
    → OpensUpTo place (source ∷ []) place old new
opens_one place source old new one taken = record {
  before = [];
  last = source;
  after = [];
  split = refl;
  placed = omega arith;
  opens = OpensAll-one old new source.name one;
  taken = taken;
}

-- an open or a read of it failed
pub faults_rose : (old new : Seen) (name : List ℕ) → OpensOne old name new → Rose new.mark new.faults → FaultsRose old new
faults_rose old new name one marked = record { rose = subst (λ (mark : ℕ). Rose mark new.faults) one.mark marked; marked = marked }

longer : (bytes given : List ℕ) (limit : ℕ) → limit < length given → StartsWith bytes given → nat_lt limit (length bytes) ≡ true
longer bytes given limit l starts =
    let shorter : length given ≤ length bytes = omega (arith, sym (length-take (length given) bytes) ∙ ap length starts) in
    let more : limit < length bytes = omega arith in
    lt-ltb limit (length bytes) more

of_file : {R : Type 0} (file : Option (List ℕ)) (given : List ℕ) (place limit : ℕ) → limit < length given
    → MatchOption file (given ≡ []) (λ bytes. StartsWith bytes given) → within {R = R} place limit file ≡ Err (TooLong place)
of_file None given place limit l e = absurd (omega (arith, ap length e))
of_file (Some bytes) given place limit l starts = rw (longer bytes given limit l starts) refl

-- it gave more bytes than its limit, so it is too long
pub too_long : (R : Type 0) (place : ℕ) (source : Source) (held : Option Held) (now : Option OpenFile) → (IsSome held → IsSome now)
    → IfSome now (λ r. source.limit < length r.given) → GivesPrefix held source.name now
    → IfSome held (λ h. file_at {R = R} place source h ≡ Err (TooLong place))
too_long R place source None now t l f = tt
too_long R place source (Some h) None t l f = absurd (cc (t refl))
too_long R place source (Some h) (Some r) t l f = of_file (h source.name) r.given place source.limit l f

-- what is told of a value, and follows
pub IfSome-map : {X : Type 0} {P Q : X → Type 0} (o : Option X) → ((x : X) → P x → Q x) → IfSome o P → IfSome o Q
IfSome-map None k p = tt
IfSome-map (Some x) k p = k x p

pub IfSome-all : {X : Type 0} {P : X → Type 0} (o : Option X) → ((x : X) → P x) → IfSome o P
IfSome-all None k = tt
IfSome-all (Some x) k = k x
