-- What bytes spell a field: a value, bytes that begin with its spelling, and the bytes behind it (WebAssembly Core 1.0, chapter 5).
use Rattle.std.specs.Prelude.{ℕ, ◌≡◌, ◌-◌, ◌^◌, Bool, true, false, List, [], ◌∷◌, ◌++◌, length}
use Rattle.std.specs.Int.{w32, w64, from_le_bytes}
use Rattle.std.specs.Str.{IsUtf8}
use Rattle.wasm_leb.specs.Leb as leb
use Rattle.wasm_ast.specs.declared.val_types.ValType.{ValType}
use Rattle.wasm_ast.specs.declared.val_types.ValType.TheVariants.{I32, I64, F32, F64}

-- one field, and another behind it
abbrev pub Then : (List ℕ → List ℕ → Type 0) → (List ℕ → List ℕ → Type 0) → List ℕ → List ℕ → Type 0
Then A B bytes rest = (middle : List ℕ) × A bytes middle × B middle rest

-- this byte
abbrev pub Byte : ℕ → List ℕ → List ℕ → Type 0
Byte b bytes rest = bytes ≡ b ∷ rest

-- so many raw bytes
abbrev pub Raw : List ℕ → ℕ → List ℕ → List ℕ → Type 0
Raw front k bytes rest = (length front ≡ k) × (bytes ≡ front ++ rest)

-- an integer of any allowed length (5.2.2), of the width with this greatest number; signed ones by their bits
abbrev pub Integer : Bool → ℕ → ℕ → List ℕ → List ℕ → Type 0
Integer signed top n bytes rest = (front : List ℕ) × leb.Spells signed top n front × (bytes ≡ front ++ rest)

abbrev pub U32 : ℕ → List ℕ → List ℕ → Type 0
U32 n bytes rest = Integer false (2 ^ 32 - 1) n bytes rest

abbrev pub S32 : ℕ → List ℕ → List ℕ → Type 0
S32 n bytes rest = Integer true (2 ^ 32 - 1) n bytes rest

abbrev pub S64 : ℕ → List ℕ → List ℕ → Type 0
S64 n bytes rest = Integer true (2 ^ 64 - 1) n bytes rest

-- a float, by its bits, the lowest byte first (5.2.3)
abbrev pub Bits32 : ℕ → List ℕ → List ℕ → Type 0
Bits32 n bytes rest = (front : List ℕ) × (n ≡ from_le_bytes w32 front) × Raw front 4 bytes rest

abbrev pub Bits64 : ℕ → List ℕ → List ℕ → Type 0
Bits64 n bytes rest = (front : List ℕ) × (n ≡ from_le_bytes w64 front) × Raw front 8 bytes rest

-- one behind the other
abbrev pub Members : {X : Type 0} → (X → List ℕ → List ℕ → Type 0) → List X → List ℕ → List ℕ → Type 0
Members G [] bytes rest = bytes ≡ rest
Members G (x ∷ xs) bytes rest = Then (G x) (Members G xs) bytes rest

-- a vector: the count, and the members (5.1.3)
abbrev pub Vector : {X : Type 0} → (X → List ℕ → List ℕ → Type 0) → List X → List ℕ → List ℕ → Type 0
Vector G xs bytes rest = Then (U32 (length xs)) (Members G xs) bytes rest

-- a size, and so many bytes
abbrev pub Bytes : List ℕ → List ℕ → List ℕ → Type 0
Bytes inner bytes rest = U32 (length inner) bytes (inner ++ rest)

-- a size, and what fills so many bytes
abbrev pub Sized : {X : Type 0} → (X → List ℕ → List ℕ → Type 0) → X → List ℕ → List ℕ → Type 0
Sized G x bytes rest = (inner : List ℕ) × Bytes inner bytes rest × G x inner []

-- a name (5.2.4)
abbrev pub Name : List ℕ → List ℕ → List ℕ → Type 0
Name text bytes rest = IsUtf8 text × Bytes text bytes rest

-- value types (5.3.1)
abbrev pub val_byte : ValType → ℕ
val_byte I32 = 0x7f
val_byte I64 = 0x7e
val_byte F32 = 0x7d
val_byte F64 = 0x7c

abbrev pub Val : ValType → List ℕ → List ℕ → Type 0
Val t bytes rest = Byte (val_byte t) bytes rest
