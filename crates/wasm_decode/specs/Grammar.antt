-- The bytes that spell a module (WebAssembly Core 1.0, 5.5.15, with the count of data segments of Core 2.0).
use Rattle.std.specs.Prelude.{ℕ, ◌≡◌, ◌⊎◌, List, [], ◌∷◌, ◌++◌, length, Option, None, Some}
use Rattle.wasm_ast.specs.declared.modules.Module.{Module}
use Rattle.wasm_code.specs.Spelling.{Then, U32, Vector, Bytes, Sized, Name}
use Rattle.wasm_code.specs.Grammar.{IsBody}
use Rattle.wasm_decode.specs.Spelling.{FuncTypes, Imports, Tables, MemoryTypes, Globals, Exports, Number, Elements, Pieces, magic, version}

-- what is in a custom section: a name, and any bytes (5.5.3)
abbrev pub Custom : List ℕ → Type 0
Custom inner = (text : List ℕ) × (others : List ℕ) × Name text inner others

-- custom sections, any number of them, which are not kept
pub data Customs : (bytes rest : List ℕ) → Type 0 where
  none : (bytes : List ℕ) → Customs bytes bytes
  more : (inner bytes after rest : List ℕ) → Bytes inner bytes after → Custom inner → Customs after rest → Customs (0 ∷ bytes) rest

-- what a section may be: left out, or its id, a size and what fills so many bytes (5.5.2)
abbrev pub Sections : {X : Type 0} → ℕ → (X → List ℕ → List ℕ → Type 0) → X → X → List ℕ → List ℕ → Type 0
Sections id G absent x bytes rest =
    ((x ≡ absent) × (bytes ≡ rest)) ⊎ ((more : List ℕ) × (bytes ≡ id ∷ more) × Sized G x more rest)

-- a section behind custom ones
abbrev pub Section : {X : Type 0} → ℕ → (X → List ℕ → List ℕ → Type 0) → X → X → List ℕ → List ℕ → Type 0
Section id G absent x bytes rest = Then Customs (Sections id G absent x) bytes rest

-- so many data segments, if they were counted
abbrev pub Counts : Option ℕ → ℕ → Type 0
Counts None n = Unit {0}
Counts (Some counted) n = n ≡ counted

-- The sections in their order, each at most once, custom ones anywhere, as many bodies as functions, and as many data segments as
-- were counted, if they were. The count is not kept.
abbrev pub Spells : Module → List ℕ → Type 0
Spells m bytes =
    (length m.bodies ≡ length m.functions)
    × ((counted : Option ℕ) × Counts counted (length m.pieces) × (body : List ℕ) × (bytes ≡ magic ++ version ++ body)
    × Then (Section 1 (Vector FuncTypes) [] m.types)
    (Then (Section 2 (Vector Imports) [] m.imports)
    (Then (Section 3 (Vector U32) [] m.functions)
    (Then (Section 4 (Vector Tables) [] m.tables)
    (Then (Section 5 (Vector MemoryTypes) [] m.memories)
    (Then (Section 6 (Vector Globals) [] m.globals)
    (Then (Section 7 (Vector Exports) [] m.exports)
    (Then (Section 8 Number None m.start)
    (Then (Section 9 (Vector Elements) [] m.elements)
    (Then (Section 12 Number None counted)
    (Then (Section 10 (Vector (Sized IsBody)) [] m.bodies)
    (Then (Section 11 (Vector Pieces) [] m.pieces) Customs))))))))))) body [])
