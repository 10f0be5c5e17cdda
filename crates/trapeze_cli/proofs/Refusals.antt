-- What a file that gave too much says of the file held, and what follows from facts of options and results.
use Rattle.std.proofs.Common.{◌≡◌, ◌≢◌, ℕ, refl, sym, ap, ◌∙◌, Some, None, IfSome, Result, Ok, Err, arith}
use Rattle.std.specs.declared.option.Option.{Option}
use Rattle.trapeze_io.specs.Seen.{Held, OpenFile, GivesPrefix}
use Rattle.std.specs.Io.{StartsWith}
use Rattle.std.specs.Prelude.{IsSome, IsOk, IsOkAnd, IfOk, IfErr, MatchOption, nat_lt, true, length, List, ◌<◌, ◌≤◌, []}
use Rattle.std.proofs.lemmas.List.{length-take}
use Rattle.std.proofs.lemmas.Bool.{lt-ltb}
use Rattle.trapeze_cli.specs.declared.status.Status.TheVariants.{TooLong}
use Rattle.trapeze_cli.specs.declared.status.Input.{Input}
use Rattle.trapeze_cli.specs.declared.status.Input.TheVariants as inputs
use Rattle.trapeze_cli.specs.Whys.{Why, Refused, why}
use Rattle.trapeze_cli.specs.Command.{file_of, within}

-- what holds of a value that is told
pub IfSome-map : {X : Type 0} {P Q : X → Type 0} (o : Option X) → ((x : X) → P x → Q x) → IfSome o P → IfSome o Q
IfSome-map None k p = tt
IfSome-map (Some x) k p = k x p

pub IfSome-all : {X : Type 0} {P : X → Type 0} (o : Option X) → ((x : X) → P x) → IfSome o P
IfSome-all None k = tt
IfSome-all (Some x) k = k x

-- what follows of the fact of an answer, and of an error
pub IfOk-map : {T E : Type 0} {P Q : T → Type 0} (result : Result T E) → ((x : T) → P x → Q x) → IfOk result P → IfOk result Q
IfOk-map (Ok x) k p = k x p
IfOk-map (Err e) k p = tt

pub IfErr-map : {T E : Type 0} {P Q : E → Type 0} (result : Result T E) → ((e : E) → P e → Q e) → IfErr result P → IfErr result Q
IfErr-map (Ok x) k p = tt
IfErr-map (Err e) k p = k e p

pub IsOkAnd-map : {T E : Type 0} {P Q : T → Type 0} (result : Result T E) → ((x : T) → P x → Q x) → IsOkAnd result P → IsOkAnd result Q
IsOkAnd-map (Ok x) k p = k x p
IsOkAnd-map (Err e) k p = absurd p

pub was_ok : {X E : Type 0} (P : X → Type 0) (read : Result X E) → IsOkAnd read P → IsOk read
was_ok P (Ok x) is = refl
was_ok P (Err e) is = absurd is

longer : (bytes given : List ℕ) (limit : ℕ) → limit < length given → StartsWith bytes given → nat_lt limit (length bytes) ≡ true
longer bytes given limit l starts =
    let shorter : length given ≤ length bytes = omega (arith, sym (length-take (length given) bytes) ∙ ap length starts) in
    let more : limit < length bytes = omega arith in
    lt-ltb limit (length bytes) more

of_file : (file : Option (List ℕ)) (given : List ℕ) (limit : ℕ) (input : Input) → limit < length given → MatchOption file (given ≡ []) (λ bytes. StartsWith bytes given)
    → within limit input file ≡ Err (TooLong input)
of_file None given limit input l e = absurd (omega (arith, ap length e))
of_file (Some bytes) given limit input l starts = rw (longer bytes given limit l starts) refl

-- a file that gave more bytes than its limit is one that is too long
pub too_long : (held : Option Held) (name : List ℕ) (limit : ℕ) (input : Input) (now : Option OpenFile)
    → (IsSome held → IsSome now) → IfSome now (λ r. limit < length r.given) → GivesPrefix held name now
    → IfSome held (λ h. file_of h name limit input ≡ Err (TooLong input))
too_long None name limit input now t l f = tt
too_long (Some h) name limit input None t l f = absurd (cc (t refl))
too_long (Some h) name limit input (Some r) t l f = of_file (h name) r.given limit input l f

-- a file that is too long, and is not the one of the events, is refused
pub refused_long : (P : Why → Type 0) (input : Input) → input ≢ inputs.Events → P Refused → P (why (TooLong input))
refused_long P inputs.Policy never p = p
refused_long P (inputs.Module f) never p = p
refused_long P inputs.Events never p = absurd (never refl)
