-- A memory as a list of bytes (4.2.8, 4.3.1, 4.4.4).
use Rattle.std.specs.Prelude.{ℕ, zero, suc, ◌+◌, ◌*◌, ◌/◌, ◌%◌, List, [], ◌∷◌, ◌++◌, length, take, drop, replicate}
use Rattle.wasm_ast.specs.declared.pieces.Piece.{Piece}
use Rattle.wasm_ast.specs.declared.modules.Module.{Module}
use Rattle.wasm_ast.specs.Spaces.{first_pages}
use Rattle.wasm_ast.specs.Structure.{constant_value}

-- the list with these members from this place on
abbrev pub placed : {A : Type 0} → List A → ℕ → List A → List A
placed xs at ys = take at xs ++ (ys ++ drop (at + length ys) xs)

-- the number that these bytes are, the least significant first
abbrev pub little : List ℕ → ℕ
little [] = 0
little (b ∷ bytes) = b + 256 * little bytes

-- the n low bytes of a number, the least significant first
abbrev pub low_bytes : ℕ → ℕ → List ℕ
low_bytes zero value = []
low_bytes (suc n) value = value % 256 ∷ low_bytes n (value / 256)

-- the number that n bytes from this address on are
abbrev pub loaded : List ℕ → ℕ → ℕ → ℕ
loaded bytes at n = little (take n (drop at bytes))

-- the bytes with the n low bytes of a number from this address on
abbrev pub stored : List ℕ → ℕ → ℕ → ℕ → List ℕ
stored bytes at n value = placed bytes at (low_bytes n value)

-- how many pages of 65,536 bytes these are
abbrev pub in_pages : List ℕ → ℕ
in_pages bytes = length bytes / 65536

-- the bytes and n further pages of zeros
abbrev pub grown : List ℕ → ℕ → List ℕ
grown bytes n = bytes ++ replicate (n * 65536) 0

-- the bytes with n of them, from one address on, put in their place from another one on
abbrev pub copied : List ℕ → ℕ → ℕ → ℕ → List ℕ
copied bytes to from n = placed bytes to (take n (drop from bytes))

-- the bytes with the low byte of a number n times from this address on
abbrev pub filled : List ℕ → ℕ → ℕ → ℕ → List ℕ
filled bytes at value n = placed bytes at (replicate n (value % 256))

-- the bytes with the data segments, in order, each from its offset on
abbrev pub with_pieces : List ℕ → List Piece → List ℕ
with_pieces bytes [] = bytes
with_pieces bytes (p ∷ ps) = with_pieces (placed bytes (constant_value p.offset.items) p.bytes) ps

-- the memory that a module begins with: zeros, and the data segments in order (4.5.4)
unfoldable pub first_memory : Module → List ℕ
first_memory m = with_pieces (grown [] (first_pages m)) m.pieces
