-- Groups of locals, as the code goes.
use Rattle.std.proofs.Common.{◌≡◌, ℕ, suc, ◌+◌, ◌-◌, ◌<◌, ◌≤◌, Bool, true, false, List, [], ◌++◌, length, Result, Ok, Err, refl, sym, ap, ◌∙◌, arith, take, length-append}
use Rattle.std.proofs.lemmas.List.{append-nil, take_all, length-replicate}
use Rattle.std.proofs.lemmas.Bool.{leb-true}
use Rattle.std.specs.Prelude.{replicate, nat_le, if◌then◌else◌}
use Rattle.wasm_ast.specs.declared.val_types.ValType.{ValType}
use Rattle.wasm_code.specs.declared.error.DecodeError.{DecodeError}
use Rattle.wasm_code.specs.declared.error.DecodeError.TheVariants.{TooManyLocals}
use Rattle.wasm_code.specs.Places.{Place, Reading, ◌>>=◌}
use Rattle.wasm_code.specs.Answers.{IsFirstFault}
use Rattle.wasm_code.specs.Fields.{u32, val_type}
use Rattle.wasm_code.specs.Reading.{within, locals}
use Rattle.wasm_code.proofs.Agreements.{bind}
use Rattle.wasm_code.proofs.BodiesBothWays.{within_is}
use Rattle.wasm_code.proofs.Loops.{with_front, regroup, no_front, stops_whole}

-- the locals that are found, with those of the groups that are left, are all
pub record Declares (f : ℕ) (found : List ValType) (groups i left : ℕ) (p : Place) (total : Reading (List ValType)) : Type 0 where
  pub so_far : with_front found (locals f (groups - i) left p) ≡ total
  pub few : left ≤ 1024
  pub counted : length found + left ≡ 1024

pub begins : (f groups : ℕ) (p : Place) → Declares f [] groups 0 1024 p (locals f groups 1024 p)
begins f groups p =
    let k : groups - 0 ≡ groups = omega arith in
    record { so_far = rw k (no_front (locals f groups 1024 p)); few = omega arith; counted = refl }

-- what is behind the count of a group
abbrev counted : ℕ → ℕ → ℕ → ℕ × Place → Reading (List ValType)
counted f n left count = within f count.0 left >>= λ t. val_type count.1 >>= λ one. locals f n (left - count.0) one.1 >>= λ others. Ok (replicate count.0 one.0 ++ others.0, others.1)

-- and behind its type
abbrev typed : ℕ → ℕ → ℕ → ℕ × Place → ValType × Place → Reading (List ValType)
typed f n left count one = locals f n (left - count.0) one.1 >>= λ others. Ok (replicate count.0 one.0 ++ others.0, others.1)

at_count : (f n left : ℕ) (p : Place) (c : ℕ × Place) → u32 p ≡ Ok c → locals f (suc n) left p ≡ counted f n left c
unfolding locals
at_count f n left p c e = bind (u32 p) (counted f n left) c e

at_type : (f n left : ℕ) (c : ℕ × Place) → c.0 ≤ left → counted f n left c ≡ (val_type c.1 >>= typed f n left c)
at_type f n left c l = bind (within f c.0 left) (λ t. val_type c.1 >>= typed f n left c) tt (within_is f c.0 left l)

at_fault : (f n left : ℕ) (p : Place) (found : List ValType) (e : DecodeError) → u32 p ≡ Err e → with_front found (locals f (suc n) left p) ≡ Err e
unfolding locals
at_fault f n left p found e h = ap (λ r. with_front found (r >>= counted f n left)) h

not_within_by : (f : ℕ) (b : Bool) (count left : ℕ) → nat_le count left ≡ b → left < count → ◌≡◌ {A = Result (Unit {0}) DecodeError} (if b then Ok tt else Err (TooManyLocals f)) (Err (TooManyLocals f))
not_within_by f true count left h l = absurd (omega (arith, leb-true count left h))
not_within_by f false count left h l = refl

not_within : (f count left : ℕ) → left < count → within f count left ≡ Err (TooManyLocals f)
not_within f count left l = not_within_by f (nat_le count left) count left refl l

one_more : (groups i : ℕ) → i < groups → groups - i ≡ suc (groups - (i + 1))
one_more groups i l = omega arith

pub goes_on : (f : ℕ) (found : List ValType) (groups i left : ℕ) (p : Place) (count : ℕ) (q : Place) (t : ValType) (after : Place) (total : Reading (List ValType)) → i < groups
    → u32 p ≡ Ok (count, q) → count ≤ left → val_type q ≡ Ok (t, after) → Declares f found groups i left p total
    → Declares f (found ++ replicate count t) groups (i + 1) (left - count) after total
goes_on f found groups i left p count q t after total lt e l h d =
    let n = groups - (i + 1) in
    let c : ℕ × Place = (count, q) in
    let one : locals f (groups - i) left p ≡ typed f n left c (t, after) =
    ap (λ k. locals f k left p) (one_more groups i lt) ∙ (at_count f n left p c e ∙ (at_type f n left c l ∙ bind (val_type q) (typed f n left c) (t, after) h)) in
    record {
      so_far = sym (regroup found (replicate count t) (locals f n (left - count) after)) ∙ (ap (with_front found) (sym one) ∙ d.so_far);
      few = omega (arith, d.few);
      counted = grind (arith, length-append, length-replicate, d.counted);
    }

pub stops_at_count : (f : ℕ) (found : List ValType) (groups i left : ℕ) (p : Place) (total : Reading (List ValType)) (e : DecodeError) → i < groups → IsFirstFault e (u32 p)
    → Declares f found groups i left p total → IsFirstFault e total
stops_at_count f found groups i left p total e lt s d = stops_whole e (u32 p) total (λ b k. sym d.so_far ∙ (ap (λ k. with_front found (locals f k left p)) (one_more groups i lt) ∙ at_fault f (groups - (i + 1)) left p found b k)) s

pub stops_at_type : (f : ℕ) (found : List ValType) (groups i left : ℕ) (p : Place) (count : ℕ) (q : Place) (total : Reading (List ValType)) (e : DecodeError) → i < groups
    → u32 p ≡ Ok (count, q) → count ≤ left → IsFirstFault e (val_type q) → Declares f found groups i left p total → IsFirstFault e total
stops_at_type f found groups i left p count q total e lt c l s d =
    let n = groups - (i + 1) in
    stops_whole e (val_type q) total (λ b k. sym d.so_far ∙ ap (with_front found) (ap (λ k. locals f k left p) (one_more groups i lt) ∙ (at_count f n left p (count, q) c ∙ (at_type f n left (count, q) l ∙ ap (λ r. r >>= typed f n left (count, q)) k)))) s

pub too_many : (f : ℕ) (found : List ValType) (groups i left : ℕ) (p : Place) (count : ℕ) (q : Place) (total : Reading (List ValType)) → i < groups
    → u32 p ≡ Ok (count, q) → left < count → Declares f found groups i left p total → total ≡ Err (TooManyLocals f)
too_many f found groups i left p count q total lt c l d =
    let n = groups - (i + 1) in
    sym d.so_far ∙ ap (with_front found) (ap (λ k. locals f k left p) (one_more groups i lt) ∙ (at_count f n left p (count, q) c ∙ ap (λ r. r >>= λ t. val_type q >>= typed f n left (count, q)) (not_within f count left l)))

pub is_done : (f : ℕ) (found : List ValType) (groups i left : ℕ) (p : Place) (total : Reading (List ValType)) → groups ≤ i → Declares f found groups i left p total → total ≡ Ok (found, p)
unfolding locals
is_done f found groups i left p total le d =
    let k : groups - i ≡ 0 = omega arith in
    let one : with_front found (locals f (groups - i) left p) ≡ Ok (found, p) = rw k (ap (λ ns. Ok (ns, p)) (append-nil found)) in
    sym d.so_far ∙ one

-- a list that is made longer by copies
pub resized : (found grown : List ValType) (m k count : ℕ) (t : ValType) → m ≡ length found → k ≡ length found → grown ≡ take (m + count) found ++ replicate ((m + count) - k) t
    → grown ≡ found ++ replicate count t
resized found grown m k count t em ek e =
    let n : (m + count) - k ≡ count = omega (arith, em, ek) in
    let all : take (m + count) found ≡ found = take_all (m + count) found (omega (arith, em)) in
    e ∙ (ap (λ xs. xs ++ replicate ((m + count) - k) t) all ∙ ap (λ n. found ++ replicate n t) n)
