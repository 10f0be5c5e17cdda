-- How far a reading goes on, and where its faults are.
use Rattle.std.proofs.Common.{◌≡◌, ℕ, zero, suc, ◌+◌, ◌-◌, ◌≤◌, Bool, true, false, List, [], ◌∷◌, length, drop, Result, Ok, Err, refl, ap, ◌∙◌, subst, arith, length-append, length-drop}
use Rattle.std.proofs.lemmas.List.{drop-drop, length-take-le}
use Rattle.std.proofs.lemmas.Bool.{leb-true}
use Rattle.std.specs.Prelude.{Option, Some, None, nat_le, nat_eq, take, ◌==◌}
use Rattle.std.specs.Str.{is_utf8}
use Rattle.std.specs.Int.{w32, w64, from_le_bytes}
use Rattle.wasm_leb.specs.declared.error.LebError.{LebError}
use Rattle.wasm_leb.specs.Leb as leb
use Rattle.wasm_leb.proofs.Roundtrip.{spelled}
use Rattle.wasm_code.specs.declared.error.DecodeError.{DecodeError}
use Rattle.wasm_code.specs.declared.error.DecodeError.TheVariants.{Malformed, TooDeep, TooManyLocals, NoMemory}
use Rattle.wasm_code.specs.Places.{Place, Reading, ◌>>=◌, past, byte, byte_of, check, ended}
use Rattle.wasm_code.specs.Agreement.{Agrees, IsFurther, IsFaultWithin}
use Rattle.wasm_code.specs.Fields.{number_of, u32, s32, s64, raw, bits32, bits64, tag, one_of, one_of_at, val_type, times, vector, range, filling, sized, bytes, name}
use Rattle.wasm_code.proofs.Agreements.{ok_is, check_ok, here, bind_ok, Reads}

-- a reading from p: where it goes on, and where its faults are
pub record Moves {X : Type 0} (p : Place) (to : X → Place) (r : Result X DecodeError) : Type 0 where
  pub further : (x : X) → r ≡ Ok x → IsFurther p (to x)
  pub within : (e : DecodeError) → r ≡ Err e → IsFaultWithin p e

pub err_is : {A : Type 0} (d e : DecodeError) → ◌≡◌ {A = Result A DecodeError} (Err d) (Err e) → d ≡ e
err_is d e h = cc

pub moves_ok : {X : Type 0} (p : Place) (to : X → Place) (x : X) → IsFurther p (to x) → Moves p to (Ok x)
moves_ok p to x m = record { further = λ y e. subst (λ x. IsFurther p (to x)) (ok_is x y e) m; within = λ d e. absurd cc }

pub moves_err : {X : Type 0} (p : Place) (to : X → Place) (e : DecodeError) → IsFaultWithin p e → Moves p to (Err e)
moves_err p to e m = record { further = λ y h. absurd cc; within = λ d h. subst (IsFaultWithin p) (err_is e d h) m }

pub moves_then : {A B : Type 0} (p : Place) (to : A → Place) (on : B → Place) (r : Result A DecodeError) (f : A → Result B DecodeError) → Moves p to r
    → ((a : A) → r ≡ Ok a → IsFurther p (to a) → Moves p on (f a)) → Moves p on (r >>= f)
moves_then p to on (Ok a) f m h = h a refl (m.further a refl)
moves_then p to on (Err e) f m h = moves_err p on e (m.within e refl)

-- so many bytes further on, and so many more
pub stays : (p : Place) → IsFurther p p
stays p = let k : p.at ≡ p.at + 0 = omega arith in (0, omega arith, ap (here p.rest) k)

pub further : (p q r : Place) → IsFurther p q → IsFurther q r → IsFurther p r
further p q r a b =
    let rest : q.rest ≡ drop a.0 p.rest = ap (λ (q : Place). q.rest) a.2 in
    let at : q.at ≡ p.at + a.0 = ap (λ (q : Place). q.at) a.2 in
    let less : length q.rest ≡ length p.rest - a.0 = ap length rest ∙ length-drop a.0 p.rest in
    let sum : (p.at + a.0) + b.0 ≡ p.at + (a.0 + b.0) = omega arith in (
      a.0 + b.0,
      omega (arith, a.1, b.1, less),
      b.2 ∙ (ap (λ (q : Place). past b.0 q) a.2 ∙ (ap (λ l. here l ((p.at + a.0) + b.0)) (drop-drop b.0 a.0 p.rest) ∙ ap (here (drop (a.0 + b.0) p.rest)) sum)),
    )

-- q stands within what is left at p
pub record Inside (p q : Place) : Type 0 where
  pub low : p.at ≤ q.at
  pub high : q.at + length q.rest ≤ p.at + length p.rest

pub inside : (p q : Place) → IsFurther p q → Inside p q
inside p q a =
    let at : q.at ≡ p.at + a.0 = ap (λ (q : Place). q.at) a.2 in
    let less : length q.rest ≡ length p.rest - a.0 = ap (λ (q : Place). length q.rest) a.2 ∙ length-drop a.0 p.rest in
    record { low = omega arith; high = omega (arith, a.1) }

pub wider : (p q : Place) (e : DecodeError) → Inside p q → IsFaultWithin q e → IsFaultWithin p e
wider p q (Malformed at) i w = (omega (arith, i.low, w.0), omega (arith, i.high, w.1))
wider p q (TooDeep at) i w = (omega (arith, i.low, w.0), omega (arith, i.high, w.1))
wider p q (TooManyLocals f) i w = tt
wider p q NoMemory i w = w

-- a reading that begins further on
pub behind : {X : Type 0} (p q : Place) (to : X → Place) (r : Result X DecodeError) → IsFurther p q → Moves q to r → Moves p to r
behind p q to r a m = record { further = λ x e. further p q (to x) a (m.further x e); within = λ e h. wider p q e (inside p q a) (m.within e h) }

pub here_bad : (p : Place) → IsFaultWithin p (Malformed p.at)
here_bad p = (omega arith, omega arith)

-- where a reading goes on
abbrev pub behind_it : {X : Type 0} → X × Place → Place
behind_it y = y.1

-- a reading that goes on as it should, wherever it begins
abbrev pub Goes : {X : Type 0} → (Place → Reading X) → Type 0
Goes read = (p : Place) → Moves p behind_it (read p)

pub chained : {A B : Type 0} (p : Place) (on : B → Place) (r : Reading A) (f : A × Place → Result B DecodeError) → Moves p behind_it r
    → ((a : A × Place) → Moves a.1 on (f a)) → Moves p on (r >>= f)
chained p on r f m h = moves_then p behind_it on r f m (λ a e k. behind p a.1 on (f a) k (h a))

pub made : {A B : Type 0} (g : A → B) (read : Place → Reading A) → Goes read → Goes (λ p. read p >>= λ a. Ok (g a.0, a.1))
made g read m p = chained p behind_it (read p) (λ a. Ok (g a.0, a.1)) (m p) (λ a. moves_ok a.1 behind_it (g a.0, a.1) (stays a.1))

pub two : {A B X : Type 0} (f : A → B → X) (read : Place → Reading A) (next : Place → Reading B) → Goes read → Goes next → Goes (λ p. read p >>= λ a. next a.1 >>= λ b. Ok (f a.0 b.0, b.1))
two f read next m k p = chained p behind_it (read p) (λ a. next a.1 >>= λ b. Ok (f a.0 b.0, b.1)) (m p) (λ a. made (f a.0) next k a.1)

pub three : {A B C X : Type 0} (f : A → B → C → X) (read : Place → Reading A) (next : Place → Reading B) (last : Place → Reading C) → Goes read → Goes next → Goes last
    → Goes (λ p. read p >>= λ a. next a.1 >>= λ b. last b.1 >>= λ c. Ok (f a.0 b.0 c.0, c.1))
three f read next last m k l p = chained p behind_it (read p) (λ a. next a.1 >>= λ b. last b.1 >>= λ c. Ok (f a.0 b.0 c.0, c.1)) (m p) (λ a. two (f a.0) next last k l a.1)

pub checks : (p : Place) (b : Bool) (at : ℕ) → IsFaultWithin p (Malformed at) → Moves {X = Unit {0}} p (λ t. p) (check b at)
checks p true at w = moves_ok p (λ t. p) tt (stays p)
checks p false at w = moves_err p (λ t. p) (Malformed at) w

pub ends : (p : Place) → Moves {X = Unit {0}} p (λ t. p) (ended p)
ends p = checks p (length p.rest == 0) p.at (here_bad p)

-- a byte
byte_by : (rest : List ℕ) (at : ℕ) → Moves (here rest at) behind_it (byte_of rest at)
byte_by [] at = moves_err (here [] at) behind_it (Malformed at) (here_bad (here [] at))
byte_by (b ∷ rest) at = moves_ok (here (b ∷ rest) at) behind_it (b, here rest (at + 1)) (1, omega arith, refl)

pub byte_goes : Goes byte
byte_goes p = byte_by p.rest p.at

pub tag_moves : (b : ℕ) (p : Place) → Moves p (λ q. q) (tag b p)
tag_moves b p =
    moves_then p behind_it (λ q. q) (byte p) (λ first. check (nat_eq first.0 b) p.at >>= λ t. Ok first.1) (byte_goes p)
    (λ first e k. moves_then p (λ t. p) (λ q. q) (check (nat_eq first.0 b) p.at) (λ t. Ok first.1) (checks p (nat_eq first.0 b) p.at (here_bad p))
    (λ t h l. moves_ok p (λ q. q) first.1 k))

pub tagged_moves : {X : Type 0} (b : ℕ) (p : Place) (on : X → Place) (f : Place → Result X DecodeError) → ((q : Place) → Moves q on (f q)) → Moves p on (tag b p >>= f)
tagged_moves b p on f h = moves_then p (λ q. q) on (tag b p) f (tag_moves b p) (λ q e k. behind p q on (f q) k (h q))

meant_by : {X : Type 0} (p q : Place) (o : Option X) → IsFurther p q → Moves p behind_it (one_of_at o p.at q)
meant_by p q (Some x) k = moves_ok p behind_it (x, q) k
meant_by p q None k = moves_err p behind_it (Malformed p.at) (here_bad p)

pub one_of_goes : {X : Type 0} (meaning : ℕ → Option X) → Goes (one_of meaning)
one_of_goes meaning p =
    moves_then p behind_it behind_it (byte p) (λ first. one_of_at (meaning first.0) p.at first.1) (byte_goes p) (λ first e k. meant_by p first.1 (meaning first.0) k)

pub val_type_goes : Goes val_type
unfolding val_type
val_type_goes p = one_of_goes _ p

-- integers
number_by : (signed : Bool) (top : ℕ) (p : Place) (r : Result (ℕ × ℕ) LebError) → leb.leb signed top p.rest ≡ r → Moves p behind_it (number_of p r)
number_by signed top p (Ok n) h =
    let s = spelled signed top p.rest n h in
    let few : n.1 ≤ length p.rest = omega (arith, ap length s.parts, length-append s.front (drop n.1 p.rest), s.used) in
    moves_ok p behind_it (n.0, past n.1 p) (n.1, few, refl)
number_by signed top p (Err d) h = moves_err p behind_it (Malformed p.at) (here_bad p)

pub u32_goes : Goes u32
unfolding u32
u32_goes p = number_by false 4294967295 p (leb.u32 p.rest) refl

pub s32_goes : Goes s32
unfolding s32
s32_goes p = number_by true 4294967295 p (leb.s32 p.rest) refl

pub s64_goes : Goes s64
unfolding s64
s64_goes p = number_by true 18446744073709551615 p (leb.s64 p.rest) refl

-- raw bytes
pub raw_goes : (k : ℕ) → Goes (raw k)
unfolding raw
raw_goes k p =
    moves_then p (λ t. p) behind_it (check (nat_le k (length p.rest)) p.at) (λ t. Ok (take k p.rest, past k p)) (checks p (nat_le k (length p.rest)) p.at (here_bad p))
    (λ t e l. moves_ok p behind_it (take k p.rest, past k p) (k, leb-true k (length p.rest) (check_ok (nat_le k (length p.rest)) p.at t e), refl))

pub bits32_goes : Goes bits32
bits32_goes = made (from_le_bytes w32) (raw 4) (raw_goes 4)

pub bits64_goes : Goes bits64
bits64_goes = made (from_le_bytes w64) (raw 8) (raw_goes 8)

-- so many
pub times_goes : {X : Type 0} (read : Place → Reading X) → Goes read → (n : ℕ) → Goes (times read n)
unfolding times
times_goes read m zero p = moves_ok p behind_it ([], p) (stays p)
times_goes read m (suc n) p =
    chained p behind_it (read p) (λ first. times read n first.1 >>= λ others. Ok (first.0 ∷ others.0, others.1)) (m p)
    (λ first. made (λ others. first.0 ∷ others) (times read n) (times_goes read m n) first.1)

pub vector_goes : {X : Type 0} (read : Place → Reading X) → Goes read → Goes (vector read)
unfolding vector
vector_goes read m p = chained p behind_it (u32 p) (λ n. times read n.0 n.1) (u32_goes p) (λ n. times_goes read m n.0 n.1)

-- ranges
abbrev after_range : Place × Place → Place
after_range r = r.1

record Cut (p : Place) (r : Place × Place) : Type 0 where
  inner : Inside p r.0
  after : IsFurther p r.1

range_cut : (p : Place) (r : Place × Place) → range p ≡ Ok r → Cut p r
unfolding range
range_cut p r e =
    let n = bind_ok (u32 p) (λ n. check (nat_le n.0 (length n.1.rest)) p.at >>= λ t. Ok (record { rest = take n.0 n.1.rest; at = n.1.at }, past n.0 n.1)) r e in
    let k = n.0.0 in
    let q = n.0.1 in
    let t = bind_ok (check (nat_le k (length q.rest)) p.at) (λ t. Ok (record { rest = take k q.rest; at = q.at }, past k q)) r n.2 in
    let l : k ≤ length q.rest = leb-true k (length q.rest) (check_ok (nat_le k (length q.rest)) p.at t.0 t.1) in
    let f = (u32_goes p).further n.0 n.1 in
    let i = inside p q f in
    let short : length (take k q.rest) ≡ k = length-take-le k q.rest l in
    subst (Cut p) (ok_is (record { rest = take k q.rest; at = q.at }, past k q) r t.2)
    (record { inner = record { low = i.low; high = omega (arith, i.high, l, short) }; after = further p q (past k q) f (k, l, refl) })

pub range_inside : (p : Place) (r : Place × Place) → range p ≡ Ok r → Inside p r.0
range_inside p r e = (range_cut p r e).inner

range_faults : (p : Place) (e : DecodeError) → range p ≡ Err e → IsFaultWithin p e
unfolding range
range_faults p e h =
    let f : ℕ × Place → Result (Place × Place) DecodeError = λ n. check (nat_le n.0 (length n.1.rest)) p.at >>= λ t. Ok (record { rest = take n.0 n.1.rest; at = n.1.at }, past n.0 n.1) in
    let m = moves_then p behind_it (λ r. p) (u32 p) f (u32_goes p) (λ n k l. moves_then p (λ t. p) (λ r. p) (check (nat_le n.0 (length n.1.rest)) p.at) (λ t. Ok (record { rest = take n.0 n.1.rest; at = n.1.at }, past n.0 n.1))
    (checks p (nat_le n.0 (length n.1.rest)) p.at (here_bad p)) (λ t _ _. moves_ok p (λ r. p) (record { rest = take n.0 n.1.rest; at = n.1.at }, past n.0 n.1) (stays p))) in
    m.within e h

pub range_moves : (p : Place) → Moves p after_range (range p)
range_moves p = record { further = λ r e. (range_cut p r e).after; within = range_faults p }

-- what stands in the range
pub ranged : {X : Type 0} (p : Place) (on : X → Place) (f : Place × Place → Result X DecodeError) → ((r : Place × Place) → Inside p r.0 → IsFurther p r.1 → Moves p on (f r)) → Moves p on (range p >>= f)
ranged p on f h = moves_then p after_range on (range p) f (range_moves p) (λ r e k. h r (range_inside p r e) k)

pub filling_within : {X : Type 0} (read : Place → Reading X) → Goes read → (p : Place) (e : DecodeError) → filling read p ≡ Err e → IsFaultWithin p e
filling_within read m p e h =
    let g = moves_then p behind_it (λ x. p) (read p) (λ x. ended x.1 >>= λ t. Ok x.0) (m p)
    (λ x k l. moves_then p (λ t. p) (λ x. p) (ended x.1) (λ t. Ok x.0) (record { further = λ t _. stays p; within = λ e h. wider p x.1 e (inside p x.1 l) ((ends x.1).within e h) })
    (λ t _ _. moves_ok p (λ x. p) x.0 (stays p))) in
    g.within e h

pub sized_goes : {X : Type 0} (read : Place → Reading X) → Goes read → Goes (sized read)
unfolding sized
sized_goes read m p =
    ranged p behind_it (λ r. filling read r.0 >>= λ x. Ok (x, r.1))
    (λ r i k. moves_then p (λ x. p) behind_it (filling read r.0) (λ x. Ok (x, r.1)) (record { further = λ x e. stays p; within = λ e h. wider p r.0 e i (filling_within read m r.0 e h) })
    (λ x e l. moves_ok p behind_it (x, r.1) k))

pub bytes_goes : Goes bytes
unfolding bytes
bytes_goes p = ranged p behind_it (λ r. Ok (r.0.rest, r.1)) (λ r i k. moves_ok p behind_it (r.0.rest, r.1) k)

pub name_goes : Goes name
unfolding name
name_goes p =
    moves_then p behind_it behind_it (bytes p) (λ text. check (is_utf8 text.0) p.at >>= λ t. Ok text) (bytes_goes p)
    (λ text e k. moves_then p (λ t. p) behind_it (check (is_utf8 text.0) p.at) (λ t. Ok text) (checks p (is_utf8 text.0) p.at (here_bad p)) (λ t _ _. moves_ok p behind_it text k))

-- a grammar and a reading
pub agree : {X : Type 0} (G : X → List ℕ → List ℕ → Type 0) (read : Place → Reading X) → Reads G read → Goes read → Agrees G read
agree G read a m = record {
  sound = λ p x q e. (a.sound p (x, q) e).spells;
  complete = a.complete;
  further = λ p x q e. (m p).further (x, q) e;
  within = λ p e h. (m p).within e h;
}
