-- Integers of seven bits a byte, the lowest first (WebAssembly Core 1.0, section 5.2.2).
-- A width of N bits is named by its greatest number, 2^N - 1. A signed number stands as its bits, modulo 2^N.
use Rattle.std.specs.Prelude.{ℕ, ℤ, zero, suc, ◌+◌, ◌-◌, ◌*◌, ◌/◌, ◌^◌, ◌≡◌, ◌<◌, ◌≤◌, Bool, true, false, ◌&&◌, ◌||◌, ◌==◌, nat_lt, nat_le, if◌then◌else◌, List, [], ◌∷◌, ◌++◌, length, drop, All, Result, Ok, Err}
use Rattle.std.specs.Int.{Width, cast_signed, cast_unsigned}
use Rattle.wasm_leb.specs.declared.error.LebError.{LebError}
use Rattle.wasm_leb.specs.declared.error.LebError.TheVariants.{Short, Long}

-- the greatest number of some width
pub record IsTop (top : ℕ) : Type 0 where
  pub bits : ℕ
  pub is : top + 1 ≡ 2 ^ bits

-- What a last byte, below 128, stands for: itself, or, where it is signed and bit 6 is set, itself less 128, by two's complement.
abbrev pub last : Bool → ℕ → ℕ → Result (ℕ × ℕ) LebError
last false top b = if nat_lt top b then Err Long else Ok (b, 1)
last true top b =
    if nat_lt b 64 then (if nat_lt (top / 2) b then Err Long else Ok (b, 1)) else
    (if nat_lt (top / 2) (127 - b) then Err Long else Ok (top - (127 - b), 1))

-- what a byte from 128 stands for in front of a number that was found
abbrev pub under : ℕ → Result (ℕ × ℕ) LebError → Result (ℕ × ℕ) LebError
under b (Ok h) = Ok (b - 128 + 128 * h.0, h.1 + 1)
under b (Err e) = Err e

-- the number at the front of these bytes, and how many of them it takes
unfoldable pub leb : Bool → ℕ → List ℕ → Result (ℕ × ℕ) LebError
leb signed top [] = Err Short
leb signed top (b ∷ bytes) =
    if nat_lt b 128 then last signed top b else
    if nat_lt 127 top then under b (leb signed (top / 128) bytes) else Err Long

-- the grammar: these bytes and no fewer spell the number
abbrev pub Spells : Bool → ℕ → ℕ → List ℕ → Type 0
Spells signed top n [] = ⊥
Spells signed top n (b ∷ []) = (b < 128) × (last signed top b ≡ Ok (n, 1))
Spells signed top n (b ∷ c ∷ bytes) = (128 ≤ b) × (127 < top) × (high : ℕ) × (n ≡ b - 128 + 128 * high)
    × Spells signed (top / 128) high (c ∷ bytes)

-- the three integers of the format: u32, s32 and s64, the signed ones by their bits
abbrev pub u32 : List ℕ → Result (ℕ × ℕ) LebError
u32 bytes = leb false (2 ^ 32 - 1) bytes

abbrev pub s32 : List ℕ → Result (ℕ × ℕ) LebError
s32 bytes = leb true (2 ^ 32 - 1) bytes

abbrev pub s64 : List ℕ → Result (ℕ × ℕ) LebError
s64 bytes = leb true (2 ^ 64 - 1) bytes

-- the signed number that was found, from its bits
abbrev pub signed_of : Width → Result (ℕ × ℕ) LebError → Result (ℤ × ℕ) LebError
signed_of w (Ok found) = Ok (cast_signed w found.0, found.1)
signed_of w (Err e) = Err e

-- a signed number that was found, by its bits
abbrev pub bits_of : Width → Result (ℤ × ℕ) LebError → Result (ℕ × ℕ) LebError
bits_of w (Ok found) = Ok (cast_unsigned w found.0, found.1)
bits_of w (Err e) = Err e

-- fewer than the greatest number of bytes are there, and each has its top bit set
abbrev pub IsCutOff : ℕ → List ℕ → Type 0
IsCutOff most bytes = (length bytes < most) × All (λ b. 128 ≤ b) bytes

-- the last allowed byte is reached, behind this many with their top bits set, and may not end the number
abbrev pub IsLong : (ℕ → Bool) → ℕ → List ℕ → Type 0
IsLong ends before [] = ⊥
IsLong ends zero (b ∷ bytes) = ends b ≡ false
IsLong ends (suc before) (b ∷ bytes) = (128 ≤ b) × IsLong ends before bytes

-- the last allowed byte's top bit is clear and its unused bits are right: zero, or copies of the sign
abbrev pub ends_u32 : ℕ → Bool
ends_u32 b = nat_lt b 16

abbrev pub ends_s32 : ℕ → Bool
ends_s32 b = nat_lt b 8 || (nat_le 120 b && nat_lt b 128)

abbrev pub ends_s64 : ℕ → Bool
ends_s64 b = (b == 0) || (b == 127)

-- the bytes spell the number, and no spelling of it has fewer
pub record IsShortest (signed : Bool) (top n : ℕ) (bytes : List ℕ) : Type 0 where
  pub spells : Spells signed top n bytes
  pub least : (other : List ℕ) → All (λ b. b < 256) other → Spells signed top n other → length bytes ≤ length other

-- the new bytes are the old with a shortest spelling of the number at the end
abbrev pub AddsShortest : Bool → ℕ → ℕ → List ℕ → List ℕ → Type 0
AddsShortest signed top n old new = (front : List ℕ) × IsShortest signed top n front × (new ≡ old ++ front)

-- the number takes more than one byte
abbrev pub NeedsMore : Bool → ℕ → ℕ → Type 0
NeedsMore signed top n = (127 < top) × ((b : ℕ) → b < 128 → last signed top b ≡ Ok (n, 1) → ⊥)

-- what was found is spelled by as many bytes at the front as are said to be used
pub record IsReadFrom (signed : Bool) (top : ℕ) (bytes : List ℕ) (found : ℕ × ℕ) : Type 0 where
  pub front : List ℕ
  pub spells : Spells signed top found.0 front
  pub used : length front ≡ found.1
  pub parts : bytes ≡ front ++ drop found.1 bytes
