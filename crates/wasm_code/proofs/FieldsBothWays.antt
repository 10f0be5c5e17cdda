-- The fields of the format: what is read is spelled so, and what is spelled so is read.
use Rattle.std.proofs.Common.{◌≡◌, ℕ, zero, suc, ◌+◌, ◌≤◌, Bool, true, false, List, [], ◌∷◌, ◌++◌, length, drop, take, Result, Ok, Err, refl, sym, ap, ◌∙◌, subst, arith, length-append, length-drop}
use Rattle.std.specs.Prelude.{Option, Some, None, nat_le, nat_eq, if◌then◌else◌, ◌==◌}
use Rattle.std.specs.Option.{option_map}
use Rattle.std.specs.Int.{w32, w64, from_le_bytes}
use Rattle.std.specs.Str.{is_utf8}
use Rattle.std.proofs.lemmas.Str.{IsUtf8-from_is_utf8, is_utf8-from_IsUtf8}
use Rattle.std.proofs.lemmas.List.{nil_from_length, take_at, drop_at, take-append-drop, length-take-le}
use Rattle.std.proofs.lemmas.Bool.{leb-true, le-leb, eqb-true}
use Rattle.wasm_leb.specs.declared.error.LebError.{LebError}
use Rattle.wasm_leb.specs.Leb as leb
use Rattle.wasm_leb.proofs.Roundtrip.{again, spelled}
use Rattle.wasm_ast.specs.declared.val_types.ValType.{ValType}
use Rattle.wasm_ast.specs.declared.val_types.ValType.TheVariants.{I32, I64, F32, F64}
use Rattle.wasm_code.specs.Places.{Place, Reading, ◌>>=◌, past, check, ended}
use Rattle.wasm_code.specs.Fields.{number_of, u32, s32, s64, raw, bits32, bits64, val_type_of, val_type, times, vector, range, filling, sized, bytes, name}
use Rattle.wasm_code.specs.Spelling.{Byte, Raw, Integer, U32, S32, S64, Bits32, Bits64, Members, Vector, Bytes, Sized, Name, val_byte, Val}
use Rattle.wasm_code.specs.Reading.{block_type_of, block_type}
use Rattle.wasm_code.specs.Grammar.{block_byte}
use Rattle.wasm_code.proofs.Agreements.{bind, bind_ok, ok_is, some_is, check_ok, checked, here, Was, Reads, one_of_reads, peel, map1}

-- integers
number_sound : (signed : Bool) (top : ℕ) (p : Place) (r : Result (ℕ × ℕ) LebError) (y : ℕ × Place) → leb.leb signed top p.rest ≡ r → number_of p r ≡ Ok y → Was (Integer signed top) p y
number_sound signed top p (Ok n) y h e =
    let s = spelled signed top p.rest n h in
    subst (Was (Integer signed top) p) (ok_is (n.0, past n.1 p) y e) (record { spells = (s.front, s.spells, s.parts); shorter = omega (arith, length-drop n.1 p.rest) })
number_sound signed top p (Err d) y h e = absurd cc

number_complete : (signed : Bool) (top n : ℕ) (p : Place) (rest : List ℕ) → Integer signed top n p.rest rest → (at : ℕ) × (number_of p (leb.leb signed top p.rest) ≡ Ok (n, here rest at))
number_complete signed top n p rest d =
    let k = length d.0 in
    let read : leb.leb signed top p.rest ≡ Ok (n, k) = ap (leb.leb signed top) d.2 ∙ again signed top n d.0 rest d.1 in
    let left : drop k p.rest ≡ rest = ap (drop k) d.2 ∙ drop_at d.0 rest k refl in
    (p.at + k, ap (number_of p) read ∙ ap (λ r. Ok (n, here r (p.at + k))) left)

pub u32_reads : Reads U32 u32
unfolding u32
u32_reads = record {
  sound = λ p y e. number_sound false 4294967295 p (leb.u32 p.rest) y refl e;
  complete = λ n p rest d. number_complete false 4294967295 n p rest d;
}

pub s32_reads : Reads S32 s32
unfolding s32
s32_reads = record {
  sound = λ p y e. number_sound true 4294967295 p (leb.s32 p.rest) y refl e;
  complete = λ n p rest d. number_complete true 4294967295 n p rest d;
}

pub s64_reads : Reads S64 s64
unfolding s64
s64_reads = record {
  sound = λ p y e. number_sound true 18446744073709551615 p (leb.s64 p.rest) y refl e;
  complete = λ n p rest d. number_complete true 18446744073709551615 n p rest d;
}

-- raw bytes
raw_sound : (k : ℕ) (p : Place) (y : List ℕ × Place) → raw k p ≡ Ok y → Was (λ front. Raw front k) p y
unfolding raw
raw_sound k p y e =
    let t = bind_ok (check (nat_le k (length p.rest)) p.at) (λ t. Ok (take k p.rest, past k p)) y e in
    let l : k ≤ length p.rest = leb-true k (length p.rest) (check_ok (nat_le k (length p.rest)) p.at t.0 t.1) in
    subst (Was (λ front. Raw front k) p) (ok_is (take k p.rest, past k p) y t.2)
    (record { spells = (length-take-le k p.rest l, sym (take-append-drop k p.rest)); shorter = omega (arith, length-drop k p.rest) })

raw_complete : (k : ℕ) (x : List ℕ) (p : Place) (rest : List ℕ) → Raw x k p.rest rest → (at : ℕ) × (raw k p ≡ Ok (x, here rest at))
unfolding raw
raw_complete k x p rest d =
    let long : k ≤ length p.rest = omega (arith, ap length d.1, length-append x rest, d.0) in
    let front : take k p.rest ≡ x = ap (take k) d.1 ∙ take_at x rest k d.0 in
    let left : drop k p.rest ≡ rest = ap (drop k) d.1 ∙ drop_at x rest k d.0 in (
      p.at + k,
      bind (check (nat_le k (length p.rest)) p.at) (λ t. Ok (take k p.rest, past k p)) tt (checked (nat_le k (length p.rest)) p.at (le-leb k (length p.rest) long))
          ∙ (ap (λ t. Ok (t, past k p)) front ∙ ap (λ t. Ok (x, here t (p.at + k))) left),
    )

pub raw_reads : (k : ℕ) → Reads (λ front. Raw front k) (raw k)
raw_reads k = record { sound = raw_sound k; complete = raw_complete k }

pub bits32_reads : Reads Bits32 bits32
bits32_reads = map1 (from_le_bytes w32) (λ front. Raw front 4) (raw 4) (raw_reads 4)

pub bits64_reads : Reads Bits64 bits64
bits64_reads = map1 (from_le_bytes w64) (λ front. Raw front 8) (raw 8) (raw_reads 8)

-- types
val_type_is : (b : ℕ) (x : ValType) → val_type_of b ≡ Some x → b ≡ val_byte x
val_type_is b x e =
    peel b 0x7f I32 (if nat_eq b 0x7e then Some I64 else if nat_eq b 0x7d then Some F32 else if nat_eq b 0x7c then Some F64 else None) x val_byte refl
    (peel b 0x7e I64 (if nat_eq b 0x7d then Some F32 else if nat_eq b 0x7c then Some F64 else None) x val_byte refl
    (peel b 0x7d F32 (if nat_eq b 0x7c then Some F64 else None) x val_byte refl
    (peel b 0x7c F64 None x val_byte refl (λ e. absurd cc)))) e

is_val_type : (x : ValType) → val_type_of (val_byte x) ≡ Some x
is_val_type I32 = refl
is_val_type I64 = refl
is_val_type F32 = refl
is_val_type F64 = refl

pub val_type_reads : Reads Val val_type
unfolding val_type
val_type_reads = one_of_reads val_type_of val_byte val_type_is is_val_type

some_of : (o : Option ValType) (b : ℕ) (x : Option ValType) → val_type_of b ≡ o → option_map Some o ≡ Some x → b ≡ block_byte x
some_of None b x h e = absurd cc
some_of (Some t) b x h e = val_type_is b t h ∙ ap block_byte (some_is (Some t) x e)

block_type_is : (b : ℕ) (x : Option ValType) → block_type_of b ≡ Some x → b ≡ block_byte x
block_type_is b x e = peel b 0x40 None (option_map Some (val_type_of b)) x block_byte refl (some_of (val_type_of b) b x refl) e

is_block_type : (x : Option ValType) → block_type_of (block_byte x) ≡ Some x
is_block_type None = refl
is_block_type (Some I32) = refl
is_block_type (Some I64) = refl
is_block_type (Some F32) = refl
is_block_type (Some F64) = refl

pub block_type_reads : Reads (λ bt. Byte (block_byte bt)) block_type
unfolding block_type
block_type_reads = one_of_reads block_type_of block_byte block_type_is is_block_type

-- so many
pub times_sound : {X : Type 0} (G : X → List ℕ → List ℕ → Type 0) (read : Place → Reading X) → Reads G read → (n : ℕ) (p : Place) (y : List X × Place) → times read n p ≡ Ok y
    → (length y.0 ≡ n) × Was (Members G) p y
unfolding times
times_sound {X} G read a zero p y e =
    subst (λ (y : List X × Place). (length y.0 ≡ 0) × Was (Members G) p y) (ok_is ([], p) y e) (refl, record { spells = refl; shorter = omega arith })
times_sound {X} G read a (suc n) p y e =
    let b = bind_ok (read p) (λ first. times read n first.1 >>= λ others. Ok (first.0 ∷ others.0, others.1)) y e in
    let c = bind_ok (times read n b.0.1) (λ others. Ok (b.0.0 ∷ others.0, others.1)) y b.2 in
    let w = a.sound p b.0 b.1 in
    let ih = times_sound G read a n b.0.1 c.0 c.1 in
    subst (λ (y : List X × Place). (length y.0 ≡ suc n) × Was (Members G) p y) (ok_is (b.0.0 ∷ c.0.0, c.0.1) y c.2)
    (ap suc ih.0, record { spells = (b.0.1.rest, w.spells, ih.1.spells); shorter = omega (arith, w.shorter, ih.1.shorter) })

pub times_complete : {X : Type 0} (G : X → List ℕ → List ℕ → Type 0) (read : Place → Reading X) → Reads G read → (xs : List X) (p : Place) (rest : List ℕ) → Members G xs p.rest rest
    → (at : ℕ) × (times read (length xs) p ≡ Ok (xs, here rest at))
unfolding times
times_complete G read a [] p rest d = (p.at, ap (λ r. Ok ([], here r p.at)) d)
times_complete G read a (x ∷ xs) p rest d =
    let c = a.complete x p d.0 d.1 in
    let q = here d.0 c.0 in
    let ih = times_complete G read a xs q rest d.2 in (
      ih.0,
      bind (read p) (λ first. times read (length xs) first.1 >>= λ others. Ok (first.0 ∷ others.0, others.1)) (x, q) c.1
          ∙ bind (times read (length xs) q) (λ others. Ok (x ∷ others.0, others.1)) (xs, here rest ih.0) ih.1,
    )

vector_sound : {X : Type 0} (G : X → List ℕ → List ℕ → Type 0) (read : Place → Reading X) → Reads G read → (p : Place) (y : List X × Place) → vector read p ≡ Ok y → Was (Vector G) p y
unfolding vector
vector_sound G read a p y e =
    let n = bind_ok (u32 p) (λ n. times read n.0 n.1) y e in
    let s = times_sound G read a n.0.0 n.0.1 y n.2 in
    let w = u32_reads.sound p n.0 n.1 in
    record { spells = (n.0.1.rest, subst (λ k. U32 k p.rest n.0.1.rest) (sym s.0) w.spells, s.1.spells); shorter = omega (arith, w.shorter, s.1.shorter) }

vector_complete : {X : Type 0} (G : X → List ℕ → List ℕ → Type 0) (read : Place → Reading X) → Reads G read → (xs : List X) (p : Place) (rest : List ℕ) → Vector G xs p.rest rest
    → (at : ℕ) × (vector read p ≡ Ok (xs, here rest at))
unfolding vector
vector_complete G read a xs p rest d =
    let c = u32_reads.complete (length xs) p d.0 d.1 in
    let q = here d.0 c.0 in
    let t = times_complete G read a xs q rest d.2 in
    (t.0, bind (u32 p) (λ n. times read n.0 n.1) (length xs, q) c.1 ∙ t.1)

pub vector_reads : {X : Type 0} (G : X → List ℕ → List ℕ → Type 0) (read : Place → Reading X) → Reads G read → Reads (Vector G) (vector read)
vector_reads G read a = record { sound = vector_sound G read a; complete = vector_complete G read a }

-- ranges
pub range_sound : (p : Place) (r : Place × Place) → range p ≡ Ok r → Bytes r.0.rest p.rest r.1.rest × (length r.1.rest ≤ length p.rest)
unfolding range
range_sound p r e =
    let n = bind_ok (u32 p) (λ n. check (nat_le n.0 (length n.1.rest)) p.at >>= λ t. Ok (record { rest = take n.0 n.1.rest; at = n.1.at }, past n.0 n.1)) r e in
    let k = n.0.0 in
    let left = n.0.1.rest in
    let t = bind_ok (check (nat_le k (length left)) p.at) (λ t. Ok (record { rest = take k left; at = n.0.1.at }, past k n.0.1)) r n.2 in
    let l : k ≤ length left = leb-true k (length left) (check_ok (nat_le k (length left)) p.at t.0 t.1) in
    let w = u32_reads.sound p n.0 n.1 in
    let s : U32 (length (take k left)) p.rest (take k left ++ drop k left) =
    subst (λ m. U32 m p.rest (take k left ++ drop k left)) (sym (length-take-le k left l)) (subst (λ t. U32 k p.rest t) (sym (take-append-drop k left)) w.spells) in
    subst (λ (r : Place × Place). Bytes r.0.rest p.rest r.1.rest × (length r.1.rest ≤ length p.rest)) (ok_is (record { rest = take k left; at = n.0.1.at }, past k n.0.1) r t.2)
    (s, omega (arith, w.shorter, length-drop k left))

pub range_complete : (inner : List ℕ) (p : Place) (rest : List ℕ) → Bytes inner p.rest rest → (at : ℕ) × (after : ℕ) × (range p ≡ Ok (here inner at, here rest after))
unfolding range
range_complete inner p rest d =
    let c = u32_reads.complete (length inner) p (inner ++ rest) d in
    let k = length inner in
    let q = here (inner ++ rest) c.0 in
    let long : nat_le k (length (inner ++ rest)) ≡ true = le-leb k (length (inner ++ rest)) (omega (arith, length-append inner rest)) in (
      c.0,
      c.0 + k,
      bind (u32 p) (λ n. check (nat_le n.0 (length n.1.rest)) p.at >>= λ t. Ok (record { rest = take n.0 n.1.rest; at = n.1.at }, past n.0 n.1)) (k, q) c.1
          ∙ (bind (check (nat_le k (length (inner ++ rest))) p.at) (λ t. Ok (record { rest = take k (inner ++ rest); at = c.0 }, past k q)) tt (checked (nat_le k (length (inner ++ rest))) p.at long)
          ∙ (ap (λ t. Ok (here t c.0, here (drop k (inner ++ rest)) (c.0 + k))) (take_at inner rest k refl)
          ∙ ap (λ t. Ok (here inner c.0, here t (c.0 + k))) (drop_at inner rest k refl))),
    )

pub ended_nil : (p : Place) (t : Unit {0}) → ended p ≡ Ok t → p.rest ≡ []
ended_nil p t e = nil_from_length p.rest (eqb-true (length p.rest) 0 (check_ok (length p.rest == 0) p.at t e))

pub filling_sound : {X : Type 0} (G : X → List ℕ → List ℕ → Type 0) (read : Place → Reading X) → Reads G read → (p : Place) (x : X) → filling read p ≡ Ok x → G x p.rest []
filling_sound G read a p x e =
    let y = bind_ok (read p) (λ y. ended y.1 >>= λ t. Ok y.0) x e in
    let t = bind_ok (ended y.0.1) (λ t. Ok y.0.0) x y.2 in
    let g : G y.0.0 p.rest [] = subst (λ z. G y.0.0 p.rest z) (ended_nil y.0.1 t.0 t.1) (a.sound p y.0 y.1).spells in
    subst (λ x. G x p.rest []) (ok_is y.0.0 x t.2) g

pub filling_complete : {X : Type 0} (G : X → List ℕ → List ℕ → Type 0) (read : Place → Reading X) → Reads G read → (x : X) (p : Place) → G x p.rest [] → filling read p ≡ Ok x
filling_complete G read a x p d =
    let c = a.complete x p [] d in
    bind (read p) (λ y. ended y.1 >>= λ t. Ok y.0) (x, here [] c.0) c.1

sized_sound : {X : Type 0} (G : X → List ℕ → List ℕ → Type 0) (read : Place → Reading X) → Reads G read → (p : Place) (y : X × Place) → sized read p ≡ Ok y → Was (Sized G) p y
unfolding sized
sized_sound G read a p y e =
    let r = bind_ok (range p) (λ r. filling read r.0 >>= λ x. Ok (x, r.1)) y e in
    let x = bind_ok (filling read r.0.0) (λ x. Ok (x, r.0.1)) y r.2 in
    let s = range_sound p r.0 r.1 in
    subst (Was (Sized G) p) (ok_is (x.0, r.0.1) y x.2) (record { spells = (r.0.0.rest, s.0, filling_sound G read a r.0.0 x.0 x.1); shorter = s.1 })

sized_complete : {X : Type 0} (G : X → List ℕ → List ℕ → Type 0) (read : Place → Reading X) → Reads G read → (x : X) (p : Place) (rest : List ℕ) → Sized G x p.rest rest
    → (at : ℕ) × (sized read p ≡ Ok (x, here rest at))
unfolding sized
sized_complete G read a x p rest d =
    let r = range_complete d.0 p rest d.1 in
    let inner = here d.0 r.0 in
    let after = here rest r.1 in (
      r.1,
      bind (range p) (λ r. filling read r.0 >>= λ x. Ok (x, r.1)) (inner, after) r.2
          ∙ bind (filling read inner) (λ x. Ok (x, after)) x (filling_complete G read a x inner d.2),
    )

pub sized_reads : {X : Type 0} (G : X → List ℕ → List ℕ → Type 0) (read : Place → Reading X) → Reads G read → Reads (Sized G) (sized read)
sized_reads G read a = record { sound = sized_sound G read a; complete = sized_complete G read a }

pub bytes_reads : Reads Bytes bytes
unfolding bytes
bytes_reads = record {
  sound = λ p y e. (
      let r = bind_ok (range p) (λ r. Ok (r.0.rest, r.1)) y e in
      let s = range_sound p r.0 r.1 in
      subst (Was Bytes p) (ok_is (r.0.0.rest, r.0.1) y r.2) (record { spells = s.0; shorter = s.1 }));
  complete = λ x p rest d. (
      let r = range_complete x p rest d in
      (r.1, bind (range p) (λ r. Ok (r.0.rest, r.1)) (here x r.0, here rest r.1) r.2));
}

pub name_reads : Reads Name name
unfolding name
name_reads = record {
  sound = λ p y e. (
      let n = bind_ok (bytes p) (λ text. check (is_utf8 text.0) p.at >>= λ t. Ok text) y e in
      let t = bind_ok (check (is_utf8 n.0.0) p.at) (λ t. Ok n.0) y n.2 in
      let w = bytes_reads.sound p n.0 n.1 in
      subst (Was Name p) (ok_is n.0 y t.2) (record { spells = (IsUtf8-from_is_utf8 n.0.0 (check_ok (is_utf8 n.0.0) p.at t.0 t.1), w.spells); shorter = w.shorter }));
  complete = λ x p rest d. (
      let c = bytes_reads.complete x p rest d.1 in (
        c.0,
        bind (bytes p) (λ text. check (is_utf8 text.0) p.at >>= λ t. Ok text) (x, here rest c.0) c.1
            ∙ bind (check (is_utf8 x) p.at) (λ t. Ok (x, here rest c.0)) tt (checked (is_utf8 x) p.at (is_utf8-from_IsUtf8 x d.0)),
      ));
}
