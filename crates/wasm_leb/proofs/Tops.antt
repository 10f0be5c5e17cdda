-- The greatest numbers of the widths.
use Rattle.std.proofs.Common.{◌≡◌, ℕ, ◌+◌, ◌-◌, ◌*◌, ◌/◌, ◌^◌, ◌<◌, ◌≤◌, refl, ap, ◌∙◌, arith, inl, inr}
use Rattle.std.proofs.Math.Nat.{pow-le-pow_right}
use Rattle.std.proofs.lemmas.Nat.{pow-add}
use Rattle.std.proofs.lemmas.Bool.{cases_lt}
use Rattle.std.specs.Int.{w32, w64, cast_signed, cast_unsigned}
use Rattle.std.proofs.lemmas.Int.{of_z-to_z}
use Rattle.wasm_leb.specs.Leb.{IsTop}

wide : (bits : ℕ) → 128 < 2 ^ bits → 8 ≤ bits
wide bits h = elim (cases_lt bits 8) [
  | inl lt ↦ let most : 2 ^ bits ≤ 2 ^ 7 = pow-le-pow_right {n = 2} (omega arith) {i = bits} {j = 7} (omega arith) in omega arith
  | inr le ↦ le
]

-- seven bits less
less : (top bits : ℕ) → top + 1 ≡ 2 ^ bits → 127 < top → 2 ^ bits ≡ 128 * 2 ^ (bits - 7)
less top bits is lt =
    let few = wide bits (omega (arith, is)) in
    let split : bits ≡ 7 + (bits - 7) = omega arith in
    ap (λ k. 2 ^ k) split ∙ pow-add 2 7 (bits - 7)

pub narrower : (top : ℕ) → IsTop top → 127 < top → (top ≡ 127 + 128 * (top / 128)) × IsTop (top / 128)
narrower top t lt =
    let e = less top t.bits t.is lt in
    (omega (arith, t.is), record { bits = t.bits - 7; is = omega (arith, t.is) })

-- the room for a width that is left behind a byte
pub room_left : (top bits len : ℕ) → top + 1 ≡ 2 ^ bits → 127 < top → 7 * len + bits ≤ 70
    → (left : ℕ) × (top / 128 + 1 ≡ 2 ^ left) × (7 * (len + 1) + left ≤ 70) × (0 < left)
room_left top bits len is lt room =
    let e = less top bits is lt in
    let few = wide bits (omega (arith, is)) in
    (bits - 7, omega arith, omega arith, omega arith)

pub top32 : IsTop 4294967295
top32 = record { bits = 32; is = refl }

pub top64 : IsTop 18446744073709551615
top64 = record { bits = 64; is = refl }

pub bits32 : (n : ℕ) → n ≤ 4294967295 → cast_unsigned w32 (cast_signed w32 n) ≡ n
bits32 n h = of_z-to_z w32 n (omega arith)

pub bits64 : (n : ℕ) → n ≤ 18446744073709551615 → cast_unsigned w64 (cast_signed w64 n) ≡ n
bits64 n h = of_z-to_z w64 n (omega arith)
