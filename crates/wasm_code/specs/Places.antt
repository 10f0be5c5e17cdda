-- Fields are read from the left. A fault has the offset of the first byte of the first field that cannot be read inside its range.
use Rattle.std.specs.Prelude.{ℕ, ◌+◌, ◌==◌, ◌≡◌, Bool, if◌then◌else◌, List, [], ◌∷◌, length, drop, slice_range, Result, Ok, Err}
use Rattle.wasm_code.specs.declared.error.DecodeError.{DecodeError}
use Rattle.wasm_code.specs.declared.error.DecodeError.TheVariants.{Malformed}

-- the bytes that are left of the innermost range, and the offset in the file of the first
pub record Place : Type 0 where
  pub rest : List ℕ
  pub at : ℕ

-- the bytes of a file from start to end
abbrev pub part : ℕ → ℕ → List ℕ → Place
part start end bytes = record { rest = slice_range bytes start end; at = start }

-- what stood at a place, and the place behind it
abbrev pub Reading : Type 0 → Type 0
Reading X = Result (X × Place) DecodeError

-- go on, unless a field could not be read
infixl 10 ◌>>=◌
abbrev pub ◌>>=◌ : {A B : Type 0} → Result A DecodeError → (A → Result B DecodeError) → Result B DecodeError
(Ok x) >>= f = f x
(Err e) >>= f = Err e

-- so many bytes further on
abbrev pub past : ℕ → Place → Place
past k p = record { rest = drop k p.rest; at = p.at + k }

abbrev pub byte_of : List ℕ → ℕ → Reading ℕ
byte_of [] at = Err (Malformed at)
byte_of (b ∷ rest) at = Ok (b, record { rest = rest; at = at + 1 })

-- one byte
abbrev pub byte : Place → Reading ℕ
byte p = byte_of p.rest p.at

-- this is so, or the field at the offset cannot be read
abbrev pub check : Bool → ℕ → Result (Unit {0}) DecodeError
check holds at = if holds then Ok tt else Err (Malformed at)

-- nothing is left of the range
abbrev pub ended : Place → Result (Unit {0}) DecodeError
ended p = check (length p.rest == 0) p.at

-- the first fault of a reading
abbrev pub Fails : {X : Type 0} → Result X DecodeError → DecodeError → Type 0
Fails reading fault = reading ≡ Err fault
