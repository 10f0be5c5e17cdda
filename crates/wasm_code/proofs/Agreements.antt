-- Grammars and readings that agree, put together.
use Rattle.std.proofs.Common.{◌≡◌, ℕ, ◌+◌, ◌<◌, ◌≤◌, Bool, true, false, List, [], ◌∷◌, length, Result, Ok, Err, refl, sym, ap, ◌∙◌, subst, arith}
use Rattle.std.specs.Prelude.{Option, Some, None, nat_eq, if◌then◌else◌}
use Rattle.std.proofs.lemmas.Bool.{eqb-true, eq-eqb}
use Rattle.wasm_code.specs.declared.error.DecodeError.{DecodeError}
use Rattle.wasm_code.specs.Places.{Place, Reading, ◌>>=◌, byte, byte_of, check}
use Rattle.wasm_code.specs.Fields.{tag, one_of, one_of_at}
use Rattle.wasm_code.specs.Spelling.{Then, Byte}

pub bind : {A B : Type 0} (r : Result A DecodeError) (f : A → Result B DecodeError) (x : A) → r ≡ Ok x → (r >>= f) ≡ f x
bind r f x e = ap (λ r. r >>= f) e

pub bind_ok : {A B : Type 0} (r : Result A DecodeError) (f : A → Result B DecodeError) (y : B) → (r >>= f) ≡ Ok y → (x : A) × (r ≡ Ok x) × (f x ≡ Ok y)
bind_ok (Ok x) f y e = (x, refl, e)
bind_ok (Err d) f y e = absurd cc

pub ok_is : {A : Type 0} (x y : A) → ◌≡◌ {A = Result A DecodeError} (Ok x) (Ok y) → x ≡ y
ok_is x y e = cc

pub some_is : {A : Type 0} (x y : A) → Some x ≡ Some y → x ≡ y
some_is x y e = cc

pub check_ok : (b : Bool) (at : ℕ) (t : Unit {0}) → check b at ≡ Ok t → b ≡ true
check_ok true at t e = refl
check_ok false at t e = absurd cc

pub checked : (b : Bool) (at : ℕ) → b ≡ true → check b at ≡ Ok tt
checked b at e = ap (λ b. check b at) e

-- a place, by its bytes
abbrev pub here : List ℕ → ℕ → Place
here bytes at = record { rest = bytes; at = at }

-- what was found at p is spelled there, up to where the reading goes on
pub record Was {X : Type 0} (G : X → List ℕ → List ℕ → Type 0) (p : Place) (y : X × Place) : Type 0 where
  pub spells : G y.0 p.rest y.1.rest
  pub shorter : length y.1.rest ≤ length p.rest

pub record Reads {X : Type 0} (G : X → List ℕ → List ℕ → Type 0) (read : Place → Reading X) : Type 0 where
  pub sound : (p : Place) (y : X × Place) → read p ≡ Ok y → Was G p y
  pub complete : (x : X) (p : Place) (rest : List ℕ) → G x p.rest rest → (at : ℕ) × (read p ≡ Ok (x, here rest at))

-- the same grammar in other words
pub along : {X : Type 0} (G H : X → List ℕ → List ℕ → Type 0) (read : Place → Reading X) → ((x : X) (b r : List ℕ) → G x b r → H x b r) → ((x : X) (b r : List ℕ) → H x b r → G x b r) → Reads G read → Reads H read
along G H read f g a = record {
  sound = λ p y e. (let w = a.sound p y e in record { spells = f y.0 p.rest y.1.rest w.spells; shorter = w.shorter });
  complete = λ x p rest d. a.complete x p rest (g x p.rest rest d);
}

-- a byte
byte_is : (bytes : List ℕ) (at : ℕ) (y : ℕ × Place) → byte_of bytes at ≡ Ok y → bytes ≡ y.0 ∷ y.1.rest
byte_is [] at y e = absurd cc
byte_is (b ∷ rest) at y e = ap (λ (y : ℕ × Place). y.0 ∷ y.1.rest) (ok_is (b, here rest (at + 1)) y e)

pub byte_sound : (p : Place) (y : ℕ × Place) → byte p ≡ Ok y → p.rest ≡ y.0 ∷ y.1.rest
byte_sound p y e = byte_is p.rest p.at y e

pub byte_shorter : (p : Place) (y : ℕ × Place) → byte p ≡ Ok y → length y.1.rest < length p.rest
byte_shorter p y e = omega (arith, ap length (byte_sound p y e))

pub byte_complete : (b : ℕ) (p : Place) (rest : List ℕ) → p.rest ≡ b ∷ rest → byte p ≡ Ok (b, here rest (p.at + 1))
byte_complete b p rest e = ap (λ r. byte_of r p.at) e

-- this byte
pub tag_sound : (b : ℕ) (p q : Place) → tag b p ≡ Ok q → (p.rest ≡ b ∷ q.rest) × (length q.rest ≤ length p.rest)
tag_sound b p q e =
    let f = bind_ok (byte p) (λ first. check (nat_eq first.0 b) p.at >>= λ t. Ok first.1) q e in
    let t = bind_ok (check (nat_eq f.0.0 b) p.at) (λ t. Ok f.0.1) q f.2 in
    let same : f.0.0 ≡ b = eqb-true f.0.0 b (check_ok (nat_eq f.0.0 b) p.at t.0 t.1) in
    let it : p.rest ≡ b ∷ f.0.1.rest = subst (λ c. p.rest ≡ c ∷ f.0.1.rest) same (byte_sound p f.0 f.1) in
    subst (λ (q : Place). (p.rest ≡ b ∷ q.rest) × (length q.rest ≤ length p.rest)) (ok_is f.0.1 q t.2) (it, omega (arith, byte_shorter p f.0 f.1))

pub tag_complete : (b : ℕ) (p : Place) (rest : List ℕ) → p.rest ≡ b ∷ rest → tag b p ≡ Ok (here rest (p.at + 1))
tag_complete b p rest e =
    bind (byte p) (λ first. check (nat_eq first.0 b) p.at >>= λ t. Ok first.1) (b, here rest (p.at + 1)) (byte_complete b p rest e)
    ∙ bind (check (nat_eq b b) p.at) (λ t. Ok (here rest (p.at + 1))) tt (checked (nat_eq b b) p.at (eq-eqb b b refl))

pub tagged : {X : Type 0} (b : ℕ) (G : X → List ℕ → List ℕ → Type 0) (read : Place → Reading X) → Reads G read → Reads (λ x. Then (Byte b) (G x)) (λ p. tag b p >>= λ q. read q)
tagged b G read a = record {
  sound = λ p y e. (
      let q = bind_ok (tag b p) (λ q. read q) y e in
      let t = tag_sound b p q.0 q.1 in
      let w = a.sound q.0 y q.2 in
      record { spells = (q.0.rest, t.0, w.spells); shorter = omega (arith, t.1, w.shorter) });
  complete = λ x p rest d. (
      let q = here d.0 (p.at + 1) in
      let c = a.complete x q rest d.2 in
      (c.0, bind (tag b p) (λ q. read q) q (tag_complete b p d.0 d.1) ∙ c.1));
}

-- a byte that means something
meant : {X : Type 0} (o : Option X) (at : ℕ) (q : Place) (y : X × Place) → one_of_at o at q ≡ Ok y → (o ≡ Some y.0) × (q ≡ y.1)
meant {X} (Some x) at q y e = let same = ok_is (x, q) y e in (ap (λ (y : X × Place). Some y.0) same, ap (λ (y : X × Place). y.1) same)
meant None at q y e = absurd cc

pub one_of_reads : {X : Type 0} (meaning : ℕ → Option X) (code : X → ℕ) → ((b : ℕ) (x : X) → meaning b ≡ Some x → b ≡ code x) → ((x : X) → meaning (code x) ≡ Some x)
    → Reads (λ x. Byte (code x)) (λ p. one_of meaning p)
one_of_reads {X} meaning code f g = record {
  sound = λ p y e. (
      let first = bind_ok (byte p) (λ first. one_of_at (meaning first.0) p.at first.1) y e in
      let m = meant (meaning first.0.0) p.at first.0.1 y first.2 in
      let is : p.rest ≡ code y.0 ∷ y.1.rest =
      subst (λ (q : Place). p.rest ≡ code y.0 ∷ q.rest) m.1 (subst (λ c. p.rest ≡ c ∷ first.0.1.rest) (f first.0.0 y.0 m.0) (byte_sound p first.0 first.1)) in
      record { spells = is; shorter = omega (arith, ap length is) });
  complete = λ x p rest d. (
    p.at + 1,
    bind (byte p) (λ first. one_of_at (meaning first.0) p.at first.1) (code x, here rest (p.at + 1)) (byte_complete (code x) p rest d)
        ∙ ap (λ o. one_of_at o p.at (here rest (p.at + 1))) (g x),
  );
}

-- one case of a meaning
peel_by : {X : Type 0} (b c : ℕ) (v : X) (o : Option X) (x : X) (code : X → ℕ) (t : Bool) → nat_eq b c ≡ t → c ≡ code v → (o ≡ Some x → b ≡ code x) → (if t then Some v else o) ≡ Some x → b ≡ code x
peel_by b c v o x code true h e f k = eqb-true b c h ∙ (e ∙ ap code (some_is v x k))
peel_by b c v o x code false h e f k = f k

pub peel : {X : Type 0} (b c : ℕ) (v : X) (o : Option X) (x : X) (code : X → ℕ) → c ≡ code v → (o ≡ Some x → b ≡ code x) → (if nat_eq b c then Some v else o) ≡ Some x → b ≡ code x
peel b c v o x code e f k = peel_by b c v o x code (nat_eq b c) refl e f k

-- one field, and what is made of it
abbrev pub Made1 : {A X : Type 0} → (A → X) → (A → List ℕ → List ℕ → Type 0) → X → List ℕ → List ℕ → Type 0
Made1 {A} f G x bytes rest = (a : A) × (x ≡ f a) × G a bytes rest

pub map1 : {A X : Type 0} (f : A → X) (G : A → List ℕ → List ℕ → Type 0) (read : Place → Reading A) → Reads G read → Reads (Made1 f G) (λ p. read p >>= λ a. Ok (f a.0, a.1))
map1 {A} {X} f G read ra = record {
  sound = λ p y e. (
      let a = bind_ok (read p) (λ a. Ok (f a.0, a.1)) y e in
      let w = ra.sound p a.0 a.1 in
      subst (Was (Made1 f G) p) (ok_is (f a.0.0, a.0.1) y a.2) (record { spells = (a.0.0, refl, w.spells); shorter = w.shorter }));
  complete = λ x p rest d. (
      let c = ra.complete d.0 p rest d.2 in
      (c.0, bind (read p) (λ a. Ok (f a.0, a.1)) (d.0, here rest c.0) c.1 ∙ ap (λ x. Ok (x, here rest c.0)) (sym d.1)));
}

-- two fields
abbrev pub Made2 : {A B X : Type 0} → (A → B → X) → (A → List ℕ → List ℕ → Type 0) → (B → List ℕ → List ℕ → Type 0) → X → List ℕ → List ℕ → Type 0
Made2 {A} {B} f G H x bytes rest = (a : A) × (b : B) × (x ≡ f a b) × Then (G a) (H b) bytes rest

pub map2 : {A B X : Type 0} (f : A → B → X) (G : A → List ℕ → List ℕ → Type 0) (H : B → List ℕ → List ℕ → Type 0) (read : Place → Reading A) (next : Place → Reading B) → Reads G read → Reads H next
    → Reads (Made2 f G H) (λ p. read p >>= λ a. next a.1 >>= λ b. Ok (f a.0 b.0, b.1))
map2 f G H read next ra rb = record {
  sound = λ p y e. (
      let a = bind_ok (read p) (λ a. next a.1 >>= λ b. Ok (f a.0 b.0, b.1)) y e in
      let b = bind_ok (next a.0.1) (λ b. Ok (f a.0.0 b.0, b.1)) y a.2 in
      let w = ra.sound p a.0 a.1 in
      let v = rb.sound a.0.1 b.0 b.1 in
      subst (Was (Made2 f G H) p) (ok_is (f a.0.0 b.0.0, b.0.1) y b.2)
      (record { spells = (a.0.0, b.0.0, refl, (a.0.1.rest, w.spells, v.spells)); shorter = omega (arith, w.shorter, v.shorter) }));
  complete = λ x p rest d. (
      let c = ra.complete d.0 p d.3.0 d.3.1 in
      let q = here d.3.0 c.0 in
      let k = rb.complete d.1 q rest d.3.2 in (
        k.0,
        bind (read p) (λ a. next a.1 >>= λ b. Ok (f a.0 b.0, b.1)) (d.0, q) c.1
            ∙ (bind (next q) (λ b. Ok (f d.0 b.0, b.1)) (d.1, here rest k.0) k.1 ∙ ap (λ x. Ok (x, here rest k.0)) (sym d.2)),
      ));
}

-- three fields
abbrev pub Made3 : {A B C X : Type 0} → (A → B → C → X) → (A → List ℕ → List ℕ → Type 0) → (B → List ℕ → List ℕ → Type 0) → (C → List ℕ → List ℕ → Type 0) → X → List ℕ → List ℕ → Type 0
Made3 {A} {B} {C} f G H K x bytes rest = (a : A) × (b : B) × (c : C) × (x ≡ f a b c) × Then (G a) (Then (H b) (K c)) bytes rest

pub map3 : {A B C X : Type 0} (f : A → B → C → X) (G : A → List ℕ → List ℕ → Type 0) (H : B → List ℕ → List ℕ → Type 0) (K : C → List ℕ → List ℕ → Type 0)
    (read : Place → Reading A) (next : Place → Reading B) (last : Place → Reading C) → Reads G read → Reads H next → Reads K last
    → Reads (Made3 f G H K) (λ p. read p >>= λ a. next a.1 >>= λ b. last b.1 >>= λ c. Ok (f a.0 b.0 c.0, c.1))
map3 f G H K read next last ra rb rc = record {
  sound = λ p y e. (
      let a = bind_ok (read p) (λ a. next a.1 >>= λ b. last b.1 >>= λ c. Ok (f a.0 b.0 c.0, c.1)) y e in
      let w = ra.sound p a.0 a.1 in
      let v = (map2 (f a.0.0) H K next last rb rc).sound a.0.1 y a.2 in
      let d = v.spells in
      record { spells = (a.0.0, d.0, d.1, d.2, (a.0.1.rest, w.spells, d.3)); shorter = omega (arith, w.shorter, v.shorter) });
  complete = λ x p rest d. (
      let c = ra.complete d.0 p d.4.0 d.4.1 in
      let q = here d.4.0 c.0 in
      let k = (map2 (f d.0) H K next last rb rc).complete x q rest (d.1, d.2, d.3, d.4.2) in
      (k.0, bind (read p) (λ a. next a.1 >>= λ b. last b.1 >>= λ c. Ok (f a.0 b.0 c.0, c.1)) (d.0, q) c.1 ∙ k.1));
}

-- both ways of a test
split_by : {A P : Type 0} (n b : ℕ) (t : Bool) → nat_eq n b ≡ t → (x z : Result A DecodeError) (y : A) → (n ≡ b → x ≡ Ok y → P) → (z ≡ Ok y → P) → (if t then x else z) ≡ Ok y → P
split_by n b true h x z y f g e = f (eqb-true n b h) e
split_by n b false h x z y f g e = g e

pub split : {A P : Type 0} (n b : ℕ) (x z : Result A DecodeError) (y : A) → (n ≡ b → x ≡ Ok y → P) → (z ≡ Ok y → P) → (if nat_eq n b then x else z) ≡ Ok y → P
split n b x z y f g e = split_by n b (nat_eq n b) refl x z y f g e
