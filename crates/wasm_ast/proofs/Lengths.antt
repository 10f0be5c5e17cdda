-- Lengths of lists with members put in their place.
use Rattle.std.proofs.Common.{◌≡◌, ◌≤◌, ◌+◌, ◌/◌, ◌%◌, ◌*◌, ℕ, List, ◌++◌, length, take, drop, replicate, refl, arith, length-append, length-take, length-drop}
use Rattle.std.specs.Prelude.{zero, suc}
use Rattle.std.proofs.lemmas.List.{length-replicate}
use Rattle.wasm_ast.specs.Bytes.{placed, low_bytes, stored, grown, copied, filled}

pub length_placed : {A : Type 0} (xs : List A) (at : ℕ) (ys : List A) → at + length ys ≤ length xs → length (placed xs at ys) ≡ length xs
length_placed xs at ys h = omega (
  arith,
  length-append (take at xs) (ys ++ drop (at + length ys) xs),
  length-append ys (drop (at + length ys) xs),
  length-take at xs,
  length-drop (at + length ys) xs,
)

length_low : (n value : ℕ) → length (low_bytes n value) ≡ n
length_low zero value = refl
length_low (suc n) value = omega (arith, length_low n (value / 256))

pub length_stored : (bytes : List ℕ) (at n value : ℕ) → at + n ≤ length bytes → length (stored bytes at n value) ≡ length bytes
length_stored bytes at n value h = length_placed bytes at (low_bytes n value) (omega (arith, length_low n value))

pub length_grown : (bytes : List ℕ) (n : ℕ) → length (grown bytes n) ≡ length bytes + n * 65536
length_grown bytes n = omega (arith, length-append bytes (replicate (n * 65536) 0), length-replicate {A = ℕ} (n * 65536) 0)

pub length_copied : (bytes : List ℕ) (to from n : ℕ) → from + n ≤ length bytes → to + n ≤ length bytes → length (copied bytes to from n) ≡ length bytes
length_copied bytes to from n h k =
    let taken : length (take n (drop from bytes)) ≡ n = omega (arith, length-take n (drop from bytes), length-drop from bytes) in
    length_placed bytes to (take n (drop from bytes)) (omega (arith, taken))

pub length_filled : (bytes : List ℕ) (at value n : ℕ) → at + n ≤ length bytes → length (filled bytes at value n) ≡ length bytes
length_filled bytes at value n h = length_placed bytes at (replicate n (value % 256)) (omega (arith, length-replicate {A = ℕ} n (value % 256)))
