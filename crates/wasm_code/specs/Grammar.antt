-- The bytes that spell instructions, expressions and bodies (WebAssembly Core 1.0, 5.4 and 5.5.13).
use Rattle.std.specs.Prelude.{ℕ, suc, ◌≡◌, ◌≤◌, ◌⊎◌, List, [], ◌∷◌, slice_range, replicate, sum_by, Option, Some, None}
use Rattle.std.specs.List.{flat_map}
use Rattle.wasm_ast.specs.declared.val_types.ValType.{ValType}
use Rattle.wasm_ast.specs.declared.trees.Seq.{Seq}
use Rattle.wasm_ast.specs.declared.trees.Instr.{Instr}
use Rattle.wasm_ast.specs.declared.trees.Instr.TheVariants as V
use Rattle.wasm_ast.specs.declared.bodies.Body.{Body}
use Rattle.wasm_code.specs.Opcodes.{Kind, Bare, Zero, Index, IndexZero, Labels, Memory, Signed32, Signed64, Float32, Float64, Bulk, kind_of}
use Rattle.wasm_code.specs.Spelling.{Then, Byte, U32, S32, S64, Bits32, Bits64, Vector, Val, val_byte}

-- what follows the opcode of an instruction of this kind
abbrev pub Follows : Kind → Instr → List ℕ → List ℕ → Type 0
Follows (Bare made) i bytes rest = (i ≡ made) × (bytes ≡ rest)
Follows (Zero made) i bytes rest = (i ≡ made) × Byte 0x00 bytes rest
Follows (Index made) i bytes rest = (n : ℕ) × (i ≡ made n) × U32 n bytes rest
Follows (IndexZero made) i bytes rest = (n : ℕ) × (i ≡ made n) × Then (U32 n) (Byte 0x00) bytes rest
Follows (Labels made) i bytes rest = (ns : List ℕ) × (n : ℕ) × (i ≡ made ns n) × Then (Vector U32 ns) (U32 n) bytes rest
Follows (Memory made) i bytes rest = (align : ℕ) × (offset : ℕ) × (i ≡ made align offset) × Then (U32 align) (U32 offset) bytes rest
Follows (Signed32 made) i bytes rest = (n : ℕ) × (i ≡ made n) × S32 n bytes rest
Follows (Signed64 made) i bytes rest = (n : ℕ) × (i ≡ made n) × S64 n bytes rest
Follows (Float32 made) i bytes rest = (n : ℕ) × (i ≡ made n) × Bits32 n bytes rest
Follows (Float64 made) i bytes rest = (n : ℕ) × (i ≡ made n) × Bits64 n bytes rest
Follows Bulk i bytes rest =
    ((i ≡ V.MemoryCopy) × Then (U32 10) (Then (Byte 0x00) (Byte 0x00)) bytes rest)
    ⊎ ((i ≡ V.MemoryFill) × Then (U32 11) (Byte 0x00) bytes rest)

-- the byte of a block type (5.3.2)
abbrev pub block_byte : Option ValType → ℕ
block_byte None = 0x40
block_byte (Some t) = val_byte t

-- With at most room blocks open inside one another, these bytes begin with a spelling of the instructions, and rest is behind it.
-- An if without a second part, and one whose second part is empty, are one tree.
pub data Spells : (room : ℕ) (code : List Instr) (bytes rest : List ℕ) → Type 0 where
  none : (room : ℕ) (bytes : List ℕ) → Spells room [] bytes bytes
  plain : (room op : ℕ) (kind : Kind) (i : Instr) (code : List Instr) (bytes after rest : List ℕ)
      → kind_of op ≡ Some kind → Follows kind i bytes after → Spells room code after rest
      → Spells room (i ∷ code) (op ∷ bytes) rest
  block : (room : ℕ) (bt : Option ValType) (body : Seq) (code : List Instr) (bytes after rest : List ℕ)
      → Spells room body.items bytes (0x0b ∷ after) → Spells (suc room) code after rest
      → Spells (suc room) (V.Block bt body ∷ code) (0x02 ∷ block_byte bt ∷ bytes) rest
  loop : (room : ℕ) (bt : Option ValType) (body : Seq) (code : List Instr) (bytes after rest : List ℕ)
      → Spells room body.items bytes (0x0b ∷ after) → Spells (suc room) code after rest
      → Spells (suc room) (V.Loop bt body ∷ code) (0x03 ∷ block_byte bt ∷ bytes) rest
  if_then : (room : ℕ) (bt : Option ValType) (first : Seq) (code : List Instr) (bytes after rest : List ℕ)
      → Spells room first.items bytes (0x0b ∷ after) → Spells (suc room) code after rest
      → Spells (suc room) (V.If bt first (record { items = [] }) ∷ code) (0x04 ∷ block_byte bt ∷ bytes) rest
  if_else : (room : ℕ) (bt : Option ValType) (first second : Seq) (code : List Instr) (bytes between after rest : List ℕ)
      → Spells room first.items bytes (0x05 ∷ between) → Spells room second.items between (0x0b ∷ after) → Spells (suc room) code after rest
      → Spells (suc room) (V.If bt first second ∷ code) (0x04 ∷ block_byte bt ∷ bytes) rest

-- an expression (5.4.6): instructions with at most 512 blocks open, and the byte 0B
abbrev pub Expr : List Instr → List ℕ → List ℕ → Type 0
Expr code bytes rest = Spells 512 code bytes (0x0b ∷ rest)

-- an expression that begins the bytes from start to end, and the offset behind it
abbrev pub ExprTo : ℕ → ℕ → List ℕ → Seq × ℕ → Type 0
ExprTo start end bytes found =
    (start ≤ found.1) × (found.1 ≤ end) × Expr found.0.items (slice_range bytes start end) (slice_range bytes found.1 end)

-- a group of locals of one type
abbrev pub Group : ℕ × ValType → List ℕ → List ℕ → Type 0
Group group bytes rest = Then (U32 group.0) (Val group.1) bytes rest

-- a body (5.5.13): groups of at most 1,024 locals together, and an expression
pub record IsBody (b : Body) (bytes rest : List ℕ) : Type 0 where
  pub groups : List (ℕ × ValType)
  pub few : sum_by (λ group. group.0) groups ≤ 1024
  pub locals : b.locals ≡ flat_map (λ group. replicate group.0 group.1) groups
  pub spells : Then (Vector Group groups) (Expr b.code.items) bytes rest
