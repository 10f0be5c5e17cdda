-- Loops over a count, for any reading of the members.
use Rattle.std.proofs.Common.{◌≡◌, ℕ, suc, ◌+◌, ◌-◌, ◌<◌, ◌≤◌, List, [], ◌∷◌, ◌++◌, Result, Ok, Err, refl, sym, ap, ◌∙◌, append_assoc, arith}
use Rattle.std.proofs.lemmas.List.{append-nil}
use Rattle.wasm_code.specs.declared.error.DecodeError.{DecodeError}
use Rattle.wasm_code.specs.declared.error.DecodeError.TheVariants.{Malformed, TooDeep, TooManyLocals, NoMemory}
use Rattle.wasm_code.specs.Places.{Place, Reading, ◌>>=◌}
use Rattle.wasm_code.specs.Answers.{IsFirstFault}
use Rattle.wasm_code.specs.Fields.{times}

-- these in front of what is read
abbrev pub with_front : {X : Type 0} → List X → Reading (List X) → Reading (List X)
with_front front read = read >>= λ x. Ok (front ++ x.0, x.1)

pub regroup : {X : Type 0} (front more : List X) (r : Reading (List X)) → with_front front (r >>= λ others. Ok (more ++ others.0, others.1)) ≡ with_front (front ++ more) r
regroup front more (Ok x) = ap (λ ns. Ok (ns, x.1)) (sym (append_assoc front more x.0))
regroup front more (Err e) = refl

pub no_front : {X : Type 0} (r : Reading (List X)) → with_front [] r ≡ r
no_front (Ok x) = refl
no_front (Err e) = refl

-- a fault of the whole, where it is one of what is left
pub stops_whole : {A B : Type 0} (e : DecodeError) (r : Result A DecodeError) (whole : Result B DecodeError) → ((d : DecodeError) → r ≡ Err d → whole ≡ Err d) → IsFirstFault e r → IsFirstFault e whole
stops_whole NoMemory r whole h s = tt
stops_whole (Malformed at) r whole h s = h (Malformed at) s
stops_whole (TooDeep at) r whole h s = h (TooDeep at) s
stops_whole (TooManyLocals f) r whole h s = h (TooManyLocals f) s

-- so many members are found, and with the others they are all
abbrev pub SoFar : {X : Type 0} → (Place → Reading X) → List X → ℕ → ℕ → Place → Reading (List X) → Type 0
SoFar read front count i p total = with_front front (times read (count - i) p) ≡ total

pub begins : {X : Type 0} (read : Place → Reading X) (count : ℕ) (p : Place) → SoFar read [] count 0 p (times read count p)
begins read count p = let k : count - 0 ≡ count = omega arith in rw k (no_front (times read count p))

pub goes_on : {X : Type 0} (read : Place → Reading X) (front : List X) (count i : ℕ) (p : Place) (x : X) (after : Place) (total : Reading (List X)) → i < count → read p ≡ Ok (x, after)
    → SoFar read front count i p total → SoFar read (front ++ x ∷ []) count (i + 1) after total
unfolding times
goes_on read front count i p x after total lt h so_far =
    let k : count - i ≡ suc (count - (i + 1)) = omega arith in
    let one : with_front front (times read (count - i) p) ≡ with_front (front ++ x ∷ []) (times read (count - (i + 1)) after) = rw (k, h) (regroup front (x ∷ []) (times read (count - (i + 1)) after)) in
    sym one ∙ so_far

fault_first : {X : Type 0} (read : Place → Reading X) (front : List X) (count i : ℕ) (p : Place) (total : Reading (List X)) (e : DecodeError) → i < count → read p ≡ Err e
    → SoFar read front count i p total → total ≡ Err e
unfolding times
fault_first read front count i p total e lt h so_far =
    let k : count - i ≡ suc (count - (i + 1)) = omega arith in
    let one : with_front front (times read (count - i) p) ≡ Err e = rw (k, h) refl in
    sym so_far ∙ one

pub stops : {X : Type 0} (read : Place → Reading X) (front : List X) (count i : ℕ) (p : Place) (total : Reading (List X)) (e : DecodeError) → i < count → IsFirstFault e (read p)
    → SoFar read front count i p total → IsFirstFault e total
stops read front count i p total e lt h so_far = stops_whole e (read p) total (λ d k. fault_first read front count i p total d lt k so_far) h

pub is_done : {X : Type 0} (read : Place → Reading X) (front : List X) (count i : ℕ) (p : Place) (total : Reading (List X)) → count ≤ i → SoFar read front count i p total → total ≡ Ok (front, p)
unfolding times
is_done read front count i p total le so_far =
    let k : count - i ≡ 0 = omega arith in
    let one : with_front front (times read (count - i) p) ≡ Ok (front, p) = rw k (ap (λ ns. Ok (ns, p)) (append-nil front)) in
    sym so_far ∙ one
