-- When no number stands at the front.
use Rattle.std.proofs.Common.{◌≡◌, ℕ, zero, suc, ◌-◌, ◌/◌, ◌<◌, ◌≤◌, Bool, true, false, List, [], ◌∷◌, length, Result, Ok, Err, lit<, lit≤, refl, sym, ap, ◌∙◌, arith, inl, inr, ◌↔◌}
use Rattle.std.proofs.lemmas.Bool.{lt-ltb, ltb-true, le-ltb, ltb-false, cases_lt}
use Rattle.std.proofs.lemmas.Bool.Decides.{nat_tests}
use Rattle.std.proofs.lemmas.List.Elements.{All-nil, All-cons, All-head, All-tail}
use Rattle.std.specs.Prelude.{nat_lt, if◌then◌else◌, ◌&&◌, is_ok}
use Rattle.wasm_leb.specs.declared.error.LebError.{LebError}
use Rattle.wasm_leb.specs.declared.error.LebError.TheVariants.{Short, Long}
use Rattle.wasm_leb.specs.Leb.{last, under, leb, Spells, IsCutOff, IsLong, ends_u32, ends_s32, ends_s64}

abbrev Found : Type 0
Found = Result (ℕ × ℕ) LebError

abbrev branch : Bool → Found → Found → Found
branch t a b = if t then a else b

-- three cases of a first byte
ends_here : (signed : Bool) (top b : ℕ) (bytes : List ℕ) → b < 128 → leb signed top (b ∷ bytes) ≡ last signed top b
unfolding leb
ends_here signed top b bytes l = ap (λ t. branch t (last signed top b) (branch (nat_lt 127 top) (under b (leb signed (top / 128) bytes)) (Err Long))) (lt-ltb b 128 l)

goes_on : (signed : Bool) (top b : ℕ) (bytes : List ℕ) → 128 ≤ b → 127 < top → leb signed top (b ∷ bytes) ≡ under b (leb signed (top / 128) bytes)
unfolding leb
goes_on signed top b bytes l l' =
    ap (λ t. branch t (last signed top b) (branch (nat_lt 127 top) (under b (leb signed (top / 128) bytes)) (Err Long))) (le-ltb b 128 l)
    ∙ ap (λ t. branch t (under b (leb signed (top / 128) bytes)) (Err Long)) (lt-ltb 127 top l')

too_long : (signed : Bool) (top b : ℕ) (bytes : List ℕ) → 128 ≤ b → top ≤ 127 → leb signed top (b ∷ bytes) ≡ Err Long
unfolding leb
too_long signed top b bytes l l' =
    ap (λ t. branch t (last signed top b) (branch (nat_lt 127 top) (under b (leb signed (top / 128) bytes)) (Err Long))) (le-ltb b 128 l)
    ∙ ap (λ t. branch t (under b (leb signed (top / 128) bytes)) (Err Long)) (le-ltb 127 top l')

differ : (r : Found) → r ≡ Err Short → r ≡ Err Long → ⊥
differ r e f = let h : ◌≡◌ {A = Found} (Err Short) (Err Long) = sym e ∙ f in cc

tested : (t : Bool) (x : ℕ × ℕ) → branch t (Err Long) (Ok x) ≡ Err Short → ⊥
tested true x e = cc
tested false x e = cc

either : (t : Bool) (a b : Found) → (a ≡ Err Short → ⊥) → (b ≡ Err Short → ⊥) → branch t a b ≡ Err Short → ⊥
either true a b f g e = f e
either false a b f g e = g e

last_not_short : (signed : Bool) (top b : ℕ) → last signed top b ≡ Err Short → ⊥
last_not_short false top b e = tested (nat_lt top b) (b, 1) e
last_not_short true top b e =
    either (nat_lt b 64) (branch (nat_lt (top / 2) b) (Err Long) (Ok (b, 1))) (branch (nat_lt (top / 2) (127 - b)) (Err Long) (Ok (top - (127 - b), 1)))
    (tested (nat_lt (top / 2) b) (b, 1)) (tested (nat_lt (top / 2) (127 - b)) (top - (127 - b), 1)) e

passed : (t : Bool) (x : ℕ × ℕ) → t ≡ false → branch t (Err Long) (Ok x) ≡ Err Long → ⊥
passed true x h e = cc
passed false x h e = cc

passed_either : (t : Bool) (a b : Found) → (t ≡ true → a ≡ Err Long → ⊥) → (t ≡ false → b ≡ Err Long → ⊥) → branch t a b ≡ Err Long → ⊥
passed_either true a b f g e = f refl e
passed_either false a b f g e = g refl e

-- a byte before the last allowed one has no unused bits
last_not_long : (signed : Bool) (top b : ℕ) → b < 128 → 127 < top → last signed top b ≡ Err Long → ⊥
last_not_long false top b l l' e = passed (nat_lt top b) (b, 1) (le-ltb top b (omega arith)) e
last_not_long true top b l l' e =
    passed_either (nat_lt b 64) (branch (nat_lt (top / 2) b) (Err Long) (Ok (b, 1))) (branch (nat_lt (top / 2) (127 - b)) (Err Long) (Ok (top - (127 - b), 1)))
    (λ t. let lt = ltb-true b 64 t in passed (nat_lt (top / 2) b) (b, 1) (le-ltb (top / 2) b (omega arith)))
    (λ t. let le = ltb-false b 64 t in passed (nat_lt (top / 2) (127 - b)) (top - (127 - b), 1) (le-ltb (top / 2) (127 - b) (omega arith))) e

under_err : (b : ℕ) (r : Found) (e : LebError) → under b r ≡ Err e → r ≡ Err e
under_err b (Ok x) e h = absurd cc
under_err b (Err d) e h = cc

-- k more than the last byte may be there, and `ends` says which last bytes end a number
abbrev pub Ends : Bool → ℕ → ℕ → (ℕ → Bool) → Type 0
Ends signed top zero ends = (top ≤ 127) × ((b : ℕ) → ends b ≡ (nat_lt b 128 && is_ok (last signed top b)))
Ends signed top (suc k) ends = (127 < top) × Ends signed (top / 128) k ends

-- a byte with its top bit set
abbrev Goes : ℕ → Type 0
Goes b = 128 ≤ b

pub short_when : (signed : Bool) (top k : ℕ) (ends : ℕ → Bool) (bytes : List ℕ) → Ends signed top k ends → IsCutOff (suc k) bytes → leb signed top bytes ≡ Err Short
unfolding leb
short_when signed top k ends [] m s = refl
short_when signed top zero ends (b ∷ bytes) m s = absurd (omega (arith, s.0))
short_when signed top (suc k) ends (b ∷ bytes) m s =
    goes_on signed top b bytes (All-head Goes b bytes s.1) m.0 ∙ ap (under b) (short_when signed (top / 128) k ends bytes m.1 (omega (arith, s.0), All-tail Goes b bytes s.1))

pub when_short : (signed : Bool) (top k : ℕ) (ends : ℕ → Bool) (bytes : List ℕ) → Ends signed top k ends → leb signed top bytes ≡ Err Short → IsCutOff (suc k) bytes
when_short signed top k ends [] m e = (omega arith, All-nil Goes)
when_short signed top zero ends (b ∷ bytes) m e = elim (cases_lt b 128) [
  | inl lt ↦ absurd (last_not_short signed top b (sym (ends_here signed top b bytes lt) ∙ e))
  | inr le ↦ absurd (differ _ e (too_long signed top b bytes le m.0))
]
when_short signed top (suc k) ends (b ∷ bytes) m e = elim (cases_lt b 128) [
  | inl lt ↦ absurd (last_not_short signed top b (sym (ends_here signed top b bytes lt) ∙ e))
  | inr le ↦
      let ih = when_short signed (top / 128) k ends bytes m.1 (under_err b (leb signed (top / 128) bytes) Short (sym (goes_on signed top b bytes le m.0) ∙ e)) in
      (omega (arith, ih.0), All-cons Goes b bytes le ih.1)
]

long_of : (r : Found) → (r ≡ Err Short → ⊥) → is_ok r ≡ false → r ≡ Err Long
long_of (Ok x) f h = absurd cc
long_of (Err Short) f h = absurd (f refl)
long_of (Err Long) f h = refl

pub long_when : (signed : Bool) (top k : ℕ) (ends : ℕ → Bool) (bytes : List ℕ) → Ends signed top k ends → IsLong ends k bytes → leb signed top bytes ≡ Err Long
long_when signed top k ends [] m s = absurd s
long_when signed top zero ends (b ∷ bytes) m s = elim (cases_lt b 128) [
  | inl lt ↦
      let it : is_ok (last signed top b) ≡ false = ap (λ t. t && is_ok (last signed top b)) (sym (lt-ltb b 128 lt)) ∙ (sym (m.1 b) ∙ s) in
      ends_here signed top b bytes lt ∙ long_of (last signed top b) (last_not_short signed top b) it
  | inr le ↦ too_long signed top b bytes le m.0
]
long_when signed top (suc k) ends (b ∷ bytes) m s = goes_on signed top b bytes s.0 m.0 ∙ ap (under b) (long_when signed (top / 128) k ends bytes m.1 s.1)

pub when_long : (signed : Bool) (top k : ℕ) (ends : ℕ → Bool) (bytes : List ℕ) → Ends signed top k ends → leb signed top bytes ≡ Err Long → IsLong ends k bytes
unfolding leb
when_long signed top k ends [] m e = absurd cc
when_long signed top zero ends (b ∷ bytes) m e = elim (cases_lt b 128) [
  | inl lt ↦
      let it : last signed top b ≡ Err Long = sym (ends_here signed top b bytes lt) ∙ e in
      m.1 b ∙ (ap (λ t. t && is_ok (last signed top b)) (lt-ltb b 128 lt) ∙ ap is_ok it)
  | inr le ↦ m.1 b ∙ ap (λ t. t && is_ok (last signed top b)) (le-ltb b 128 le)
]
when_long signed top (suc k) ends (b ∷ bytes) m e = elim (cases_lt b 128) [
  | inl lt ↦ absurd (last_not_long signed top b lt m.0 (sym (ends_here signed top b bytes lt) ∙ e))
  | inr le ↦ (le, when_long signed (top / 128) k ends bytes m.1 (under_err b (leb signed (top / 128) bytes) Long (sym (goes_on signed top b bytes le m.0) ∙ e)))
]

-- a spelling has no more bytes than are allowed
pub within : (signed : Bool) (top k : ℕ) (ends : ℕ → Bool) (n : ℕ) (bytes : List ℕ) → Ends signed top k ends → Spells signed top n bytes → length bytes ≤ suc k
within signed top k ends n [] m d = absurd d
within signed top k ends n (b ∷ []) m d = omega arith
within signed top zero ends n (b ∷ c ∷ bytes) m d = absurd (omega (arith, m.0, d.1))
within signed top (suc k) ends n (b ∷ c ∷ bytes) m d = omega (arith, within signed (top / 128) k ends d.2 (c ∷ bytes) m.1 d.4)

u32_ends : (b : ℕ) → ends_u32 b ≡ (nat_lt b 128 && is_ok (last false 15 b))
u32_ends b = grind (arith, nat_tests)

s32_ends : (b : ℕ) → ends_s32 b ≡ (nat_lt b 128 && is_ok (last true 15 b))
s32_ends b = grind (arith, nat_tests)

s64_ends : (b : ℕ) → ends_s64 b ≡ (nat_lt b 128 && is_ok (last true 1 b))
s64_ends b = grind (arith, nat_tests)

pub u32_is : Ends false 4294967295 4 ends_u32
u32_is = (lit< tt, (lit< tt, (lit< tt, (lit< tt, (lit≤ tt, u32_ends)))))

pub s32_is : Ends true 4294967295 4 ends_s32
s32_is = (lit< tt, (lit< tt, (lit< tt, (lit< tt, (lit≤ tt, s32_ends)))))

pub s64_is : Ends true 18446744073709551615 9 ends_s64
s64_is = (lit< tt, (lit< tt, (lit< tt, (lit< tt, (lit< tt, (lit< tt, (lit< tt, (lit< tt, (lit< tt, (lit≤ tt, s64_ends))))))))))

-- both faults of a result that is the reading's, or has the same faults
pub record Faults {X : Type 0} (ends : ℕ → Bool) (k : ℕ) (bytes : List ℕ) (r : Result X LebError) : Type 0 where
  pub short : (r ≡ Err Short) ↔ IsCutOff (suc k) bytes
  pub long : (r ≡ Err Long) ↔ IsLong ends k bytes

pub faults : (signed : Bool) (top k : ℕ) (ends : ℕ → Bool) (bytes : List ℕ) → Ends signed top k ends → Faults ends k bytes (leb signed top bytes)
faults signed top k ends bytes m = record {
  short = (when_short signed top k ends bytes m, short_when signed top k ends bytes m);
  long = (when_long signed top k ends bytes m, long_when signed top k ends bytes m);
}

err_part : {X : Type 0} (r : Found) (e d : LebError) (P : Type 0) → Err e ≡ r → ((r ≡ Err d) ↔ P) → ◌≡◌ {A = Result X LebError} (Err e) (Err d) ↔ P
err_part {X} r e d P h f = (
  λ (g : ◌≡◌ {A = Result X LebError} (Err e) (Err d)). let k : e ≡ d = cc in f.0 (sym h ∙ ap (λ e. Err e) k),
  λ (p : P). let g : ◌≡◌ {A = Found} (Err e) (Err d) = h ∙ f.1 p in let k : e ≡ d = cc in ap (λ e. Err e) k,
)

ok_part : {X : Type 0} (r : Found) (x : X) (y : ℕ × ℕ) (d : LebError) (P : Type 0) → Ok y ≡ r → ((r ≡ Err d) ↔ P) → ◌≡◌ {A = Result X LebError} (Ok x) (Err d) ↔ P
ok_part {X} r x y d P h f = (
  λ (g : ◌≡◌ {A = Result X LebError} (Ok x) (Err d)). absurd cc,
  λ (p : P). let g : ◌≡◌ {A = Found} (Ok y) (Err d) = h ∙ f.1 p in absurd cc,
)

-- a result with the same fault, or with none where the reading has none
pub err_faults : {X : Type 0} (ends : ℕ → Bool) (k : ℕ) (bytes : List ℕ) (r : Found) (e : LebError) → Err e ≡ r → Faults ends k bytes r → Faults {X = X} ends k bytes (Err e)
err_faults ends k bytes r e h f = record { short = err_part r e Short (IsCutOff (suc k) bytes) h f.short; long = err_part r e Long (IsLong ends k bytes) h f.long }

pub ok_faults : {X : Type 0} (ends : ℕ → Bool) (k : ℕ) (bytes : List ℕ) (r : Found) (x : X) (y : ℕ × ℕ) → Ok y ≡ r → Faults ends k bytes r → Faults {X = X} ends k bytes (Ok x)
ok_faults ends k bytes r x y h f = record { short = ok_part r x y Short (IsCutOff (suc k) bytes) h f.short; long = ok_part r x y Long (IsLong ends k bytes) h f.long }
