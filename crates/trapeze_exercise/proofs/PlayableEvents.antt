-- Each event that is made is one that may be played.
use Rattle.std.proofs.Common.{◌≡◌, ◌<◌, ◌%◌, ℕ, Bool, true, false, Some, None, Result, Ok, Err, IfOk, if◌then◌else◌, sym, subst, arith, lit≤}
use Rattle.event_file.specs.Script.{IsFit}
use Rattle.event_file.specs.declared.entry.Event.{Event}
use Rattle.event_file.specs.declared.entry.Event.TheVariants.{Put, Ask, Turn}
use Rattle.std.specs.Prelude.{◌==◌, nat_le}
use Rattle.trapeze_exercise.specs.BuiltIn.{known}
use Rattle.trapeze_exercise.specs.Generated.{label_of, kind_of, detail_of, function_of, key_of, body_of, id_of, event_of}
use Rattle.trapeze_exercise.proofs.IdsAreNames.{id_is_name}

-- each of four events that two tests choose from
chosen : (a b c : Bool) (p q r s : Event) → IsFit known p → IsFit known q → IsFit known r → IsFit known s
    → IsFit known (if a then p else if b then q else if c then r else s)
chosen true b c p q r s hp hq hr hs = hp
chosen false true c p q r s hp hq hr hs = hq
chosen false false true p q r s hp hq hr hs = hr
chosen false false false p q r s hp hq hr hs = hs

label_fits : (w : ℕ) → w % 4 < 4
label_fits w = omega arith

client_fits : (w : ℕ) → detail_of w % 3 < 3
client_fits w = omega arith

function_fits : (w : ℕ) → function_of w < 6
function_fits w = omega arith

event_fits : (i z w : ℕ) → i < 20000 → IsFit known (event_of i z w)
event_fits i z w h =
    chosen (kind_of w == 0) (kind_of w == 1) (nat_le (kind_of w) 3) (Put (label_of w) (key_of w) (Some (body_of z))) (Put (label_of w) (key_of w) None)
    (Ask (label_of w) (detail_of w % 3) (function_of w) (id_of i) (body_of z)) (Turn (label_of w))
    (label_fits w, lit≤ tt, lit≤ tt) (label_fits w, lit≤ tt, lit≤ tt) (label_fits w, client_fits w, function_fits w, id_is_name i h, lit≤ tt) (label_fits w)

pub answer_fits : {E : Type 0} (r : Result Event E) (i z w : ℕ) → i < 20000 → IfOk r (λ event. event ≡ event_of i z w) → IfOk r (IsFit known)
answer_fits (Ok event) i z w h e = subst (IsFit known) (sym e) (event_fits i z w h)
answer_fits (Err failure) i z w h e = e
