-- Sections as they are read: custom sections as many as stand there, and a section left out only where its id does not stand.
use Rattle.std.proofs.Common.{◌≡◌, ◌≢◌, ℕ, suc, ◌<◌, ◌≤◌, List, [], ◌∷◌, refl, sym, ap, subst, arith, inl, inr}
use Rattle.std.specs.Prelude.{◌⊎◌, Option, None, nat_eq, if◌then◌else◌}
use Rattle.wasm_ast.specs.declared.modules.Module.{Module}
use Rattle.wasm_code.specs.Spelling.{Then, U32, Vector, Bytes, Sized}
use Rattle.wasm_code.specs.Grammar.{IsBody}
use Rattle.wasm_decode.specs.Spelling.{FuncTypes, Imports, Tables, MemoryTypes, Globals, Exports, Number, Elements, Pieces}
use Rattle.wasm_decode.specs.Grammar as grammar
use Rattle.wasm_decode.specs.Grammar.{Custom}

-- another byte than this stands here, or none
abbrev pub NotAt : ℕ → List ℕ → Type 0
NotAt id [] = Unit {0}
NotAt id (b ∷ bytes) = b ≢ id

pub data Customs : (bytes rest : List ℕ) → Type 0 where
  none : (bytes : List ℕ) → NotAt 0 bytes → Customs bytes bytes
  more : (inner bytes after rest : List ℕ) → Bytes inner bytes after → Custom inner → Customs after rest → Customs (0 ∷ bytes) rest

abbrev pub Sections : {X : Type 0} → ℕ → (X → List ℕ → List ℕ → Type 0) → X → X → List ℕ → List ℕ → Type 0
Sections id G absent x bytes rest =
    ((x ≡ absent) × (bytes ≡ rest) × NotAt id bytes) ⊎ ((more : List ℕ) × (bytes ≡ id ∷ more) × Sized G x more rest)

abbrev pub Section : {X : Type 0} → ℕ → (X → List ℕ → List ℕ → Type 0) → X → X → List ℕ → List ℕ → Type 0
Section id G absent x bytes rest = Then Customs (Sections id G absent x) bytes rest

-- what is spelled so is spelled
pub loose_customs : (bytes rest : List ℕ) → Customs bytes rest → grammar.Customs bytes rest
loose_customs bytes rest (none b h) = grammar.none b
loose_customs bytes rest (more inner b after s r cu d) = grammar.more inner b after s r cu (loose_customs after s d)

loose_at : {X : Type 0} (id : ℕ) (G : X → List ℕ → List ℕ → Type 0) (absent x : X) (bytes rest : List ℕ) → Sections id G absent x bytes rest → grammar.Sections id G absent x bytes rest
loose_at id G absent x bytes rest (inl d) = inl (d.0, d.1)
loose_at id G absent x bytes rest (inr d) = inr d

pub loose : {X : Type 0} (id : ℕ) (G : X → List ℕ → List ℕ → Type 0) (absent x : X) (bytes rest : List ℕ) → Section id G absent x bytes rest → grammar.Section id G absent x bytes rest
loose id G absent x bytes rest d = (d.0, loose_customs bytes d.0 d.1, loose_at id G absent x d.0 rest d.2)

-- and the other way
greedy : (bytes rest : List ℕ) → grammar.Customs bytes rest → NotAt 0 rest → Customs bytes rest
greedy bytes rest (grammar.none b) h = none b h
greedy bytes rest (grammar.more inner b after s r cu d) h = more inner b after s r cu (greedy after s d h)

joined : (bytes b c : List ℕ) → grammar.Customs bytes b → Customs b c → Customs bytes c
joined bytes b c (grammar.none a) k = k
joined bytes b c (grammar.more inner a after s r cu d) k = more inner a after c r cu (joined after s c d k)

-- where the section of an id stands in the order
abbrev rank : ℕ → ℕ
rank id = if nat_eq id 12 then 10 else if nat_eq id 10 then 11 else if nat_eq id 11 then 12 else id

-- no id that comes earlier stands here
abbrev AtLeast : ℕ → List ℕ → Type 0
AtLeast k [] = Unit {0}
AtLeast k (b ∷ bytes) = k ≤ rank b

not_zero : (k : ℕ) (bytes : List ℕ) → AtLeast (suc k) bytes → NotAt 0 bytes
not_zero k [] h = tt
not_zero k (b ∷ bytes) h = λ e. omega (arith, h, ap rank e)

not_this : (id : ℕ) (bytes : List ℕ) → AtLeast (suc (rank id)) bytes → NotAt id bytes
not_this id [] h = tt
not_this id (b ∷ bytes) h = λ e. omega (arith, h, ap rank e)

lower : (k : ℕ) (bytes : List ℕ) → AtLeast (suc k) bytes → AtLeast k bytes
lower k [] h = tt
lower k (b ∷ bytes) h = omega arith

-- custom sections, then no id below k, then what E says
record From (k : ℕ) (E : List ℕ → Type 0) (bytes : List ℕ) : Type 0 where
  after : List ℕ
  customs : Customs bytes after
  high : AtLeast k after
  left : E after

abbrev Slot : {X : Type 0} → ℕ → (X → List ℕ → List ℕ → Type 0) → X → X → (List ℕ → List ℕ → Type 0) → List ℕ → Type 0
Slot id G absent x C bytes = (middle : List ℕ) × Sections id G absent x bytes middle × C middle []

chain : {X : Type 0} (id : ℕ) (G : X → List ℕ → List ℕ → Type 0) (absent x : X) (C : List ℕ → List ℕ → Type 0) (bytes : List ℕ) → From (rank id) (Slot id G absent x C) bytes → Then (Section id G absent x) C bytes []
chain id G absent x C bytes f = (f.left.0, (f.after, f.customs, f.left.1), f.left.2)

-- a section of the grammar in front
slot_at : {X : Type 0} (id : ℕ) (G : X → List ℕ → List ℕ → Type 0) (absent x : X) (E : List ℕ → Type 0) (C : List ℕ → List ℕ → Type 0) → ((b : List ℕ) → From (suc (rank id)) E b → C b []) → 0 < rank id
    → (bytes a b : List ℕ) → grammar.Customs bytes a → grammar.Sections id G absent x a b → From (suc (rank id)) E b → From (rank id) (Slot id G absent x C) bytes
slot_at id G absent x E C f l bytes a b cu (inl d) r =
    let c : Customs bytes r.after = joined bytes b r.after (subst (λ a. grammar.Customs bytes a) d.1 cu) r.customs in
    let again : From (suc (rank id)) E r.after = record { after = r.after; customs = none r.after (not_zero (rank id) r.after r.high); high = r.high; left = r.left } in
    record { after = r.after; customs = c; high = lower (rank id) r.after r.high; left = (r.after, inl (d.0, refl, not_this id r.after r.high), f r.after again) }
slot_at id G absent x E C f l bytes a b cu (inr d) r =
    let high : AtLeast (rank id) a = subst (AtLeast (rank id)) (sym d.1) (omega arith) in
    let h : NotAt 0 a = subst (NotAt 0) (sym d.1) (λ e. omega (arith, l, ap rank e)) in
    record { after = a; customs = greedy bytes a cu h; high = high; left = (b, inr d, f b r) }

slot : {X : Type 0} (id : ℕ) (G : X → List ℕ → List ℕ → Type 0) (absent x : X) (E : List ℕ → Type 0) (C P : List ℕ → List ℕ → Type 0) → ((b : List ℕ) → P b [] → From (suc (rank id)) E b)
    → ((b : List ℕ) → From (suc (rank id)) E b → C b []) → 0 < rank id → (bytes : List ℕ) → Then (grammar.Section id G absent x) P bytes [] → From (rank id) (Slot id G absent x C) bytes
slot id G absent x E C P g f l bytes d = slot_at id G absent x E C f l bytes d.1.0 d.0 d.1.1 d.1.2 (g d.0 d.2)

-- the end
abbrev Nothing : List ℕ → Type 0
Nothing bytes = bytes ≡ []

ending : (b : List ℕ) → grammar.Customs b [] → From 13 Nothing b
ending b d = record { after = []; customs = greedy b [] d tt; high = tt; left = refl }

closing : (b : List ℕ) → From 13 Nothing b → Customs b []
closing b f = subst (Customs b) f.left f.customs

-- what is left from each section on, in the grammar and as it is read; k is the count of the data segments
abbrev P11 : Module → List ℕ → List ℕ → Type 0
P11 m = Then (grammar.Section 11 (Vector Pieces) [] m.pieces) grammar.Customs

abbrev P10 : Module → List ℕ → List ℕ → Type 0
P10 m = Then (grammar.Section 10 (Vector (Sized IsBody)) [] m.bodies) (P11 m)

abbrev P12 : Module → Option ℕ → List ℕ → List ℕ → Type 0
P12 m k = Then (grammar.Section 12 Number None k) (P10 m)

abbrev P9 : Module → Option ℕ → List ℕ → List ℕ → Type 0
P9 m k = Then (grammar.Section 9 (Vector Elements) [] m.elements) (P12 m k)

abbrev P8 : Module → Option ℕ → List ℕ → List ℕ → Type 0
P8 m k = Then (grammar.Section 8 Number None m.start) (P9 m k)

abbrev P7 : Module → Option ℕ → List ℕ → List ℕ → Type 0
P7 m k = Then (grammar.Section 7 (Vector Exports) [] m.exports) (P8 m k)

abbrev P6 : Module → Option ℕ → List ℕ → List ℕ → Type 0
P6 m k = Then (grammar.Section 6 (Vector Globals) [] m.globals) (P7 m k)

abbrev P5 : Module → Option ℕ → List ℕ → List ℕ → Type 0
P5 m k = Then (grammar.Section 5 (Vector MemoryTypes) [] m.memories) (P6 m k)

abbrev P4 : Module → Option ℕ → List ℕ → List ℕ → Type 0
P4 m k = Then (grammar.Section 4 (Vector Tables) [] m.tables) (P5 m k)

abbrev P3 : Module → Option ℕ → List ℕ → List ℕ → Type 0
P3 m k = Then (grammar.Section 3 (Vector U32) [] m.functions) (P4 m k)

abbrev P2 : Module → Option ℕ → List ℕ → List ℕ → Type 0
P2 m k = Then (grammar.Section 2 (Vector Imports) [] m.imports) (P3 m k)

abbrev pub P1 : Module → Option ℕ → List ℕ → List ℕ → Type 0
P1 m k = Then (grammar.Section 1 (Vector FuncTypes) [] m.types) (P2 m k)

abbrev C11 : Module → List ℕ → List ℕ → Type 0
C11 m = Then (Section 11 (Vector Pieces) [] m.pieces) Customs

abbrev C10 : Module → List ℕ → List ℕ → Type 0
C10 m = Then (Section 10 (Vector (Sized IsBody)) [] m.bodies) (C11 m)

abbrev C12 : Module → Option ℕ → List ℕ → List ℕ → Type 0
C12 m k = Then (Section 12 Number None k) (C10 m)

abbrev C9 : Module → Option ℕ → List ℕ → List ℕ → Type 0
C9 m k = Then (Section 9 (Vector Elements) [] m.elements) (C12 m k)

abbrev C8 : Module → Option ℕ → List ℕ → List ℕ → Type 0
C8 m k = Then (Section 8 Number None m.start) (C9 m k)

abbrev C7 : Module → Option ℕ → List ℕ → List ℕ → Type 0
C7 m k = Then (Section 7 (Vector Exports) [] m.exports) (C8 m k)

abbrev C6 : Module → Option ℕ → List ℕ → List ℕ → Type 0
C6 m k = Then (Section 6 (Vector Globals) [] m.globals) (C7 m k)

abbrev C5 : Module → Option ℕ → List ℕ → List ℕ → Type 0
C5 m k = Then (Section 5 (Vector MemoryTypes) [] m.memories) (C6 m k)

abbrev C4 : Module → Option ℕ → List ℕ → List ℕ → Type 0
C4 m k = Then (Section 4 (Vector Tables) [] m.tables) (C5 m k)

abbrev C3 : Module → Option ℕ → List ℕ → List ℕ → Type 0
C3 m k = Then (Section 3 (Vector U32) [] m.functions) (C4 m k)

abbrev C2 : Module → Option ℕ → List ℕ → List ℕ → Type 0
C2 m k = Then (Section 2 (Vector Imports) [] m.imports) (C3 m k)

abbrev pub C1 : Module → Option ℕ → List ℕ → List ℕ → Type 0
C1 m k = Then (Section 1 (Vector FuncTypes) [] m.types) (C2 m k)

from11 : (m : Module) (b : List ℕ) → P11 m b [] → From 12 (Slot 11 (Vector Pieces) [] m.pieces Customs) b
from11 m b d = slot 11 (Vector Pieces) [] m.pieces Nothing Customs grammar.Customs ending closing (omega arith) b d

from10 : (m : Module) (b : List ℕ) → P10 m b [] → From 11 (Slot 10 (Vector (Sized IsBody)) [] m.bodies (C11 m)) b
from10 m b d = slot 10 (Vector (Sized IsBody)) [] m.bodies (Slot 11 (Vector Pieces) [] m.pieces Customs) (C11 m) (P11 m) (from11 m) (chain 11 (Vector Pieces) [] m.pieces Customs) (omega arith) b d

from12 : (m : Module) (k : Option ℕ) (b : List ℕ) → P12 m k b [] → From 10 (Slot 12 Number None k (C10 m)) b
from12 m k b d = slot 12 Number None k (Slot 10 (Vector (Sized IsBody)) [] m.bodies (C11 m)) (C10 m) (P10 m) (from10 m) (chain 10 (Vector (Sized IsBody)) [] m.bodies (C11 m)) (omega arith) b d

from9 : (m : Module) (k : Option ℕ) (b : List ℕ) → P9 m k b [] → From 9 (Slot 9 (Vector Elements) [] m.elements (C12 m k)) b
from9 m k b d = slot 9 (Vector Elements) [] m.elements (Slot 12 Number None k (C10 m)) (C12 m k) (P12 m k) (from12 m k) (chain 12 Number None k (C10 m)) (omega arith) b d

from8 : (m : Module) (k : Option ℕ) (b : List ℕ) → P8 m k b [] → From 8 (Slot 8 Number None m.start (C9 m k)) b
from8 m k b d = slot 8 Number None m.start (Slot 9 (Vector Elements) [] m.elements (C12 m k)) (C9 m k) (P9 m k) (from9 m k) (chain 9 (Vector Elements) [] m.elements (C12 m k)) (omega arith) b d

from7 : (m : Module) (k : Option ℕ) (b : List ℕ) → P7 m k b [] → From 7 (Slot 7 (Vector Exports) [] m.exports (C8 m k)) b
from7 m k b d = slot 7 (Vector Exports) [] m.exports (Slot 8 Number None m.start (C9 m k)) (C8 m k) (P8 m k) (from8 m k) (chain 8 Number None m.start (C9 m k)) (omega arith) b d

from6 : (m : Module) (k : Option ℕ) (b : List ℕ) → P6 m k b [] → From 6 (Slot 6 (Vector Globals) [] m.globals (C7 m k)) b
from6 m k b d = slot 6 (Vector Globals) [] m.globals (Slot 7 (Vector Exports) [] m.exports (C8 m k)) (C7 m k) (P7 m k) (from7 m k) (chain 7 (Vector Exports) [] m.exports (C8 m k)) (omega arith) b d

from5 : (m : Module) (k : Option ℕ) (b : List ℕ) → P5 m k b [] → From 5 (Slot 5 (Vector MemoryTypes) [] m.memories (C6 m k)) b
from5 m k b d = slot 5 (Vector MemoryTypes) [] m.memories (Slot 6 (Vector Globals) [] m.globals (C7 m k)) (C6 m k) (P6 m k) (from6 m k) (chain 6 (Vector Globals) [] m.globals (C7 m k)) (omega arith) b d

from4 : (m : Module) (k : Option ℕ) (b : List ℕ) → P4 m k b [] → From 4 (Slot 4 (Vector Tables) [] m.tables (C5 m k)) b
from4 m k b d = slot 4 (Vector Tables) [] m.tables (Slot 5 (Vector MemoryTypes) [] m.memories (C6 m k)) (C5 m k) (P5 m k) (from5 m k) (chain 5 (Vector MemoryTypes) [] m.memories (C6 m k)) (omega arith) b d

from3 : (m : Module) (k : Option ℕ) (b : List ℕ) → P3 m k b [] → From 3 (Slot 3 (Vector U32) [] m.functions (C4 m k)) b
from3 m k b d = slot 3 (Vector U32) [] m.functions (Slot 4 (Vector Tables) [] m.tables (C5 m k)) (C4 m k) (P4 m k) (from4 m k) (chain 4 (Vector Tables) [] m.tables (C5 m k)) (omega arith) b d

from2 : (m : Module) (k : Option ℕ) (b : List ℕ) → P2 m k b [] → From 2 (Slot 2 (Vector Imports) [] m.imports (C3 m k)) b
from2 m k b d = slot 2 (Vector Imports) [] m.imports (Slot 3 (Vector U32) [] m.functions (C4 m k)) (C3 m k) (P3 m k) (from3 m k) (chain 3 (Vector U32) [] m.functions (C4 m k)) (omega arith) b d

from1 : (m : Module) (k : Option ℕ) (b : List ℕ) → P1 m k b [] → From 1 (Slot 1 (Vector FuncTypes) [] m.types (C2 m k)) b
from1 m k b d = slot 1 (Vector FuncTypes) [] m.types (Slot 2 (Vector Imports) [] m.imports (C3 m k)) (C2 m k) (P2 m k) (from2 m k) (chain 2 (Vector Imports) [] m.imports (C3 m k)) (omega arith) b d

-- the sections of the grammar, as they are read
pub tight : (m : Module) (k : Option ℕ) (b : List ℕ) → P1 m k b [] → C1 m k b []
tight m k b d = chain 1 (Vector FuncTypes) [] m.types (C2 m k) b (from1 m k b d)

-- and the other way
loosen11 : (m : Module) (b : List ℕ) → C11 m b [] → P11 m b []
loosen11 m b d = (d.0, loose 11 (Vector Pieces) [] m.pieces b d.0 d.1, loose_customs d.0 [] d.2)

loosen10 : (m : Module) (b : List ℕ) → C10 m b [] → P10 m b []
loosen10 m b d = (d.0, loose 10 (Vector (Sized IsBody)) [] m.bodies b d.0 d.1, loosen11 m d.0 d.2)

loosen12 : (m : Module) (k : Option ℕ) (b : List ℕ) → C12 m k b [] → P12 m k b []
loosen12 m k b d = (d.0, loose 12 Number None k b d.0 d.1, loosen10 m d.0 d.2)

loosen9 : (m : Module) (k : Option ℕ) (b : List ℕ) → C9 m k b [] → P9 m k b []
loosen9 m k b d = (d.0, loose 9 (Vector Elements) [] m.elements b d.0 d.1, loosen12 m k d.0 d.2)

loosen8 : (m : Module) (k : Option ℕ) (b : List ℕ) → C8 m k b [] → P8 m k b []
loosen8 m k b d = (d.0, loose 8 Number None m.start b d.0 d.1, loosen9 m k d.0 d.2)

loosen7 : (m : Module) (k : Option ℕ) (b : List ℕ) → C7 m k b [] → P7 m k b []
loosen7 m k b d = (d.0, loose 7 (Vector Exports) [] m.exports b d.0 d.1, loosen8 m k d.0 d.2)

loosen6 : (m : Module) (k : Option ℕ) (b : List ℕ) → C6 m k b [] → P6 m k b []
loosen6 m k b d = (d.0, loose 6 (Vector Globals) [] m.globals b d.0 d.1, loosen7 m k d.0 d.2)

loosen5 : (m : Module) (k : Option ℕ) (b : List ℕ) → C5 m k b [] → P5 m k b []
loosen5 m k b d = (d.0, loose 5 (Vector MemoryTypes) [] m.memories b d.0 d.1, loosen6 m k d.0 d.2)

loosen4 : (m : Module) (k : Option ℕ) (b : List ℕ) → C4 m k b [] → P4 m k b []
loosen4 m k b d = (d.0, loose 4 (Vector Tables) [] m.tables b d.0 d.1, loosen5 m k d.0 d.2)

loosen3 : (m : Module) (k : Option ℕ) (b : List ℕ) → C3 m k b [] → P3 m k b []
loosen3 m k b d = (d.0, loose 3 (Vector U32) [] m.functions b d.0 d.1, loosen4 m k d.0 d.2)

loosen2 : (m : Module) (k : Option ℕ) (b : List ℕ) → C2 m k b [] → P2 m k b []
loosen2 m k b d = (d.0, loose 2 (Vector Imports) [] m.imports b d.0 d.1, loosen3 m k d.0 d.2)

pub loosen1 : (m : Module) (k : Option ℕ) (b : List ℕ) → C1 m k b [] → P1 m k b []
loosen1 m k b d = (d.0, loose 1 (Vector FuncTypes) [] m.types b d.0 d.1, loosen2 m k d.0 d.2)
