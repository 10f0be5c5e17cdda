-- The members of sections: what is read is spelled so, and what is spelled so is read.
use Rattle.std.proofs.Common.{◌≡◌, ℕ, zero, suc, ◌+◌, Bool, true, false, List, [], ◌∷◌, length, Ok, Err, refl, sym, ap, ◌∙◌, subst, arith}
use Rattle.std.specs.Prelude.{Option, Some, None, nat_eq, if◌then◌else◌}
use Rattle.std.proofs.lemmas.Bool.{eqb-true, eq-eqb}
use Rattle.wasm_ast.specs.declared.val_types.ValType.{ValType}
use Rattle.wasm_ast.specs.declared.func_types.FuncType.{FuncType}
use Rattle.wasm_ast.specs.declared.tables.Table.{Table}
use Rattle.wasm_ast.specs.declared.memory_types.MemoryType.{MemoryType}
use Rattle.wasm_ast.specs.declared.imports.Import.{Import}
use Rattle.wasm_ast.specs.declared.imports.ImportKind.{ImportKind}
use Rattle.wasm_ast.specs.declared.imports.ImportKind.TheVariants as kind
use Rattle.wasm_ast.specs.declared.exports.Export.{Export}
use Rattle.wasm_ast.specs.declared.exports.ExportKind.{ExportKind}
use Rattle.wasm_ast.specs.declared.exports.ExportKind.TheVariants as export_kind
use Rattle.wasm_ast.specs.declared.global_vars.GlobalVar.{GlobalVar}
use Rattle.wasm_ast.specs.declared.elements.Element.{Element}
use Rattle.wasm_ast.specs.declared.pieces.Piece.{Piece}
use Rattle.wasm_ast.specs.declared.bodies.Body.{Body}
use Rattle.wasm_ast.specs.declared.trees.Instr.{Instr}
use Rattle.wasm_code.specs.declared.error.DecodeError.TheVariants.{Malformed}
use Rattle.wasm_code.specs.Places.{Place, Reading, ◌>>=◌, byte, check}
use Rattle.wasm_code.specs.Fields.{tag, one_of, u32, val_type, times, vector, sized, bytes, name}
use Rattle.wasm_code.specs.Reading.{expr, body}
use Rattle.wasm_code.specs.Spelling.{Then, Byte, U32, Members, Vector, Bytes, Sized, Name, Val}
use Rattle.wasm_code.specs.Grammar.{Expr, IsBody}
use Rattle.wasm_code.proofs.Agreements.{bind, bind_ok, ok_is, check_ok, checked, here, Was, Reads, along, byte_sound, byte_complete, tagged, one_of_reads, peel, split, Made1, Made2, Made3, map1, map2, map3}
use Rattle.wasm_code.proofs.FieldsBothWays.{u32_reads, val_type_reads, times_sound, times_complete, vector_reads, sized_reads, bytes_reads, name_reads}
use Rattle.wasm_code.proofs.BodiesBothWays.{expr_reads, body_reads}
use Rattle.wasm_decode.specs.Parts.{func_type, flag_of, maximum, limits, memory_type, table, global_type, import_kind_at, import_kind, import, global, export_kind_of, export, number, element, piece, is_counted, pieces, bodies, code}
use Rattle.wasm_decode.specs.Grammar.{Counts}
use Rattle.wasm_decode.specs.Spelling.{FuncTypes, Limits, MemoryTypes, Tables, flag_byte, GlobalTypes, ImportKinds, Imports, Globals, export_byte, Exports, Number, Elements, Pieces}

-- function types
abbrev func_type_from : List ValType → List ValType → FuncType
func_type_from params results = record { params = params; results = results }

abbrev two_vectors : FuncType → List ℕ → List ℕ → Type 0
two_vectors x bytes rest = Then (Byte 0x60) (Made2 func_type_from (Vector Val) (Vector Val) x) bytes rest

pub func_type_reads : Reads FuncTypes func_type
unfolding func_type
func_type_reads =
    along two_vectors FuncTypes (λ p. tag 0x60 p >>= λ q. vector val_type q >>= λ params. vector val_type params.1 >>= λ results. Ok (func_type_from params.0 results.0, results.1))
    (λ x b r d. subst (λ x. FuncTypes x b r) (sym d.2.2) (d.0, d.1, d.2.3)) (λ x b r d. (d.0, d.1, (x.params, x.results, refl, d.2)))
    (tagged 0x60 (Made2 func_type_from (Vector Val) (Vector Val)) (λ q. vector val_type q >>= λ params. vector val_type params.1 >>= λ results. Ok (func_type_from params.0 results.0, results.1))
    (map2 func_type_from (Vector Val) (Vector Val) (vector val_type) (vector val_type) (vector_reads Val val_type val_type_reads) (vector_reads Val val_type val_type_reads)))

-- flags and limits
flag_is : (b : ℕ) (x : Bool) → flag_of b ≡ Some x → b ≡ flag_byte x
flag_is b x e = peel b 0x00 false (if nat_eq b 0x01 then Some true else None) x flag_byte refl (peel b 0x01 true None x flag_byte refl (λ e. absurd cc)) e

is_flag : (x : Bool) → flag_of (flag_byte x) ≡ Some x
is_flag false = refl
is_flag true = refl

flag_reads : Reads (λ x. Byte (flag_byte x)) (λ p. one_of flag_of p)
flag_reads = one_of_reads flag_of flag_byte flag_is is_flag

abbrev TwoLimits : ℕ × Option ℕ → List ℕ → List ℕ → Type 0
TwoLimits l bytes rest = Limits l.0 l.1 bytes rest

limits_by : (flag : Bool) (p q : Place) (least : ℕ × Place) (y : (ℕ × Option ℕ) × Place) → p.rest ≡ flag_byte flag ∷ q.rest → Was U32 q least
    → (maximum flag least.1 >>= λ most. Ok ((least.0, most.0), most.1)) ≡ Ok y → Was TwoLimits p y
limits_by false p q least y e w k =
    subst (Was TwoLimits p) (ok_is ((least.0, None), least.1) y k) (record { spells = (q.rest, e, w.spells); shorter = omega (arith, ap length e, w.shorter) })
limits_by true p q least y e w k =
    let m = bind_ok (maximum true least.1) (λ most. Ok ((least.0, most.0), most.1)) y k in
    let n = bind_ok (u32 least.1) (λ n. Ok (Some n.0, n.1)) m.0 m.1 in
    let v = u32_reads.sound least.1 n.0 n.1 in
    let f : Option ℕ × Place → (ℕ × Option ℕ) × Place = λ most. ((least.0, most.0), most.1) in
    let same : ((least.0, Some n.0.0), n.0.1) ≡ y = ap f (ok_is (Some n.0.0, n.0.1) m.0 n.2) ∙ ok_is (f m.0) y m.2 in
    subst (Was TwoLimits p) same (record { spells = (q.rest, e, (least.1.rest, w.spells, v.spells)); shorter = omega (arith, ap length e, w.shorter, v.shorter) })

limits_sound : (p : Place) (y : (ℕ × Option ℕ) × Place) → limits p ≡ Ok y → Was TwoLimits p y
unfolding limits
limits_sound p y e =
    let flag = bind_ok (one_of flag_of p) (λ flag. u32 flag.1 >>= λ least. maximum flag.0 least.1 >>= λ most. Ok ((least.0, most.0), most.1)) y e in
    let least = bind_ok (u32 flag.0.1) (λ least. maximum flag.0.0 least.1 >>= λ most. Ok ((least.0, most.0), most.1)) y flag.2 in
    limits_by flag.0.0 p flag.0.1 least.0 y (flag_reads.sound p flag.0 flag.1).spells (u32_reads.sound flag.0.1 least.0 least.1) least.2

limits_from : (n : ℕ) (m : Option ℕ) (p : Place) (rest : List ℕ) → Limits n m p.rest rest → (at : ℕ) × (limits p ≡ Ok ((n, m), here rest at))
unfolding limits
limits_from n None p rest d =
    let flag = flag_reads.complete false p d.0 d.1 in
    let q = here d.0 flag.0 in
    let c = u32_reads.complete n q rest d.2 in (
      c.0,
      bind (one_of flag_of p) (λ flag. u32 flag.1 >>= λ least. maximum flag.0 least.1 >>= λ most. Ok ((least.0, most.0), most.1)) (false, q) flag.1
          ∙ bind (u32 q) (λ least. maximum false least.1 >>= λ most. Ok ((least.0, most.0), most.1)) (n, here rest c.0) c.1,
    )
limits_from n (Some m) p rest d =
    let flag = flag_reads.complete true p d.0 d.1 in
    let q = here d.0 flag.0 in
    let c = u32_reads.complete n q d.2.0 d.2.1 in
    let r = here d.2.0 c.0 in
    let k = u32_reads.complete m r rest d.2.2 in
    let g : ℕ × Place → Reading (Option ℕ) = λ n. Ok (Some n.0, n.1) in
    let h : Option ℕ × Place → Reading (ℕ × Option ℕ) = λ most. Ok ((n, most.0), most.1) in (
      k.0,
      bind (one_of flag_of p) (λ flag. u32 flag.1 >>= λ least. maximum flag.0 least.1 >>= λ most. Ok ((least.0, most.0), most.1)) (true, q) flag.1
          ∙ (bind (u32 q) (λ least. maximum true least.1 >>= λ most. Ok ((least.0, most.0), most.1)) (n, r) c.1
          ∙ ap (λ (x : Reading ℕ). (x >>= g) >>= h) k.1),
    )

limits_complete : (l : ℕ × Option ℕ) (p : Place) (rest : List ℕ) → TwoLimits l p.rest rest → (at : ℕ) × (limits p ≡ Ok (l, here rest at))
limits_complete l p rest d = limits_from l.0 l.1 p rest d

limits_reads : Reads TwoLimits limits
limits_reads = record { sound = limits_sound; complete = limits_complete }

-- memory and table types
abbrev memory_from : ℕ × Option ℕ → MemoryType
memory_from l = record { minimum = l.0; maximum = l.1 }

pub memory_type_reads : Reads MemoryTypes memory_type
unfolding memory_type
memory_type_reads =
    along (Made1 memory_from TwoLimits) MemoryTypes (λ p. limits p >>= λ l. Ok (memory_from l.0, l.1))
    (λ x b r d. subst (λ x. MemoryTypes x b r) (sym d.1) d.2) (λ x b r d. ((x.minimum, x.maximum), refl, d))
    (map1 memory_from TwoLimits limits limits_reads)

abbrev table_from : ℕ × Option ℕ → Table
table_from l = record { minimum = l.0; maximum = l.1 }

abbrev tagged_limits : Table → List ℕ → List ℕ → Type 0
tagged_limits x bytes rest = Then (Byte 0x70) (Made1 table_from TwoLimits x) bytes rest

pub table_reads : Reads Tables table
unfolding table
table_reads =
    along tagged_limits Tables (λ p. tag 0x70 p >>= λ q. limits q >>= λ l. Ok (table_from l.0, l.1))
    (λ x b r d. subst (λ x. Tables x b r) (sym d.2.1) (d.0, d.1, d.2.2)) (λ x b r d. (d.0, d.1, ((x.minimum, x.maximum), refl, d.2)))
    (tagged 0x70 (Made1 table_from TwoLimits) (λ q. limits q >>= λ l. Ok (table_from l.0, l.1)) (map1 table_from TwoLimits limits limits_reads))

-- global types
abbrev TwoGlobals : ValType × Bool → List ℕ → List ℕ → Type 0
TwoGlobals g bytes rest = GlobalTypes g.0 g.1 bytes rest

abbrev global_type_from : ValType → Bool → ValType × Bool
global_type_from t mutable = (t, mutable)

global_type_reads : Reads TwoGlobals global_type
unfolding global_type
global_type_reads =
    along (Made2 global_type_from Val (λ x. Byte (flag_byte x))) TwoGlobals (λ p. val_type p >>= λ t. one_of flag_of t.1 >>= λ mutable. Ok (global_type_from t.0 mutable.0, mutable.1))
    (λ x b r d. subst (λ x. TwoGlobals x b r) (sym d.2) d.3) (λ x b r d. (x.0, x.1, refl, d))
    (map2 global_type_from Val (λ x. Byte (flag_byte x)) val_type (λ p. one_of flag_of p) val_type_reads flag_reads)

-- what is imported
abbrev a_global : ValType × Bool → ImportKind
a_global g = kind.Global g.0 g.1

import_kind_by : (b : ℕ) (p q : Place) (y : ImportKind × Place) → p.rest ≡ b ∷ q.rest → import_kind_at b p.at q ≡ Ok y → Was ImportKinds p y
import_kind_by b p q y s e =
    let P : Type 0 = Was ImportKinds p y in
    let at : (c : ℕ) → b ≡ c → p.rest ≡ c ∷ q.rest = λ c e. subst (λ c. p.rest ≡ c ∷ q.rest) e s in
    let fault : Reading ImportKind = Err (Malformed p.at) in
    let a_global_at : Reading ImportKind = global_type q >>= λ g. Ok (a_global g.0, g.1) in
    let a_memory_at : Reading ImportKind = memory_type q >>= λ m. Ok (kind.Memory m.0, m.1) in
    let a_table_at : Reading ImportKind = table q >>= λ t. Ok (kind.Table t.0, t.1) in
    let function : Reading ImportKind = u32 q >>= λ n. Ok (kind.Function n.0, n.1) in
    let fourth : Reading ImportKind = if nat_eq b 0x03 then a_global_at else fault in
    let third : Reading ImportKind = if nat_eq b 0x02 then a_memory_at else fourth in
    let second : Reading ImportKind = if nat_eq b 0x01 then a_table_at else third in
    split {P = P} b 0x00 function second y (λ h k. (
    let w = (map1 kind.Function U32 u32 u32_reads).sound q y k in let d = w.spells in
    record { spells = subst (λ x. ImportKinds x p.rest y.1.rest) (sym d.1) (q.rest, at 0x00 h, d.2); shorter = omega (arith, ap length s, w.shorter) }))
    (split {P = P} b 0x01 a_table_at third y (λ h k. (
    let w = (map1 kind.Table Tables table table_reads).sound q y k in let d = w.spells in
    record { spells = subst (λ x. ImportKinds x p.rest y.1.rest) (sym d.1) (q.rest, at 0x01 h, d.2); shorter = omega (arith, ap length s, w.shorter) }))
    (split {P = P} b 0x02 a_memory_at fourth y (λ h k. (
    let w = (map1 kind.Memory MemoryTypes memory_type memory_type_reads).sound q y k in let d = w.spells in
    record { spells = subst (λ x. ImportKinds x p.rest y.1.rest) (sym d.1) (q.rest, at 0x02 h, d.2); shorter = omega (arith, ap length s, w.shorter) }))
    (split {P = P} b 0x03 a_global_at fault y (λ h k. (
    let w = (map1 a_global TwoGlobals global_type global_type_reads).sound q y k in let d = w.spells in
    record { spells = subst (λ x. ImportKinds x p.rest y.1.rest) (sym d.1) (q.rest, at 0x03 h, d.2); shorter = omega (arith, ap length s, w.shorter) }))
    (λ k. absurd cc)))) e

import_kind_sound : (p : Place) (y : ImportKind × Place) → import_kind p ≡ Ok y → Was ImportKinds p y
unfolding import_kind
import_kind_sound p y e =
    let b = bind_ok (byte p) (λ b. import_kind_at b.0 p.at b.1) y e in
    import_kind_by b.0.0 p b.0.1 y (byte_sound p b.0 b.1) b.2

import_kind_complete : (x : ImportKind) (p : Place) (rest : List ℕ) → ImportKinds x p.rest rest → (at : ℕ) × (import_kind p ≡ Ok (x, here rest at))
unfolding import_kind
import_kind_complete (kind.Function n) p rest d =
    let q = here d.0 (p.at + 1) in
    let c = (map1 kind.Function U32 u32 u32_reads).complete (kind.Function n) q rest (n, refl, d.2) in
    (c.0, bind (byte p) (λ b. import_kind_at b.0 p.at b.1) (0x00, q) (byte_complete 0x00 p d.0 d.1) ∙ c.1)
import_kind_complete (kind.Table t) p rest d =
    let q = here d.0 (p.at + 1) in
    let c = (map1 kind.Table Tables table table_reads).complete (kind.Table t) q rest (t, refl, d.2) in
    (c.0, bind (byte p) (λ b. import_kind_at b.0 p.at b.1) (0x01, q) (byte_complete 0x01 p d.0 d.1) ∙ c.1)
import_kind_complete (kind.Memory m) p rest d =
    let q = here d.0 (p.at + 1) in
    let c = (map1 kind.Memory MemoryTypes memory_type memory_type_reads).complete (kind.Memory m) q rest (m, refl, d.2) in
    (c.0, bind (byte p) (λ b. import_kind_at b.0 p.at b.1) (0x02, q) (byte_complete 0x02 p d.0 d.1) ∙ c.1)
import_kind_complete (kind.Global t mutable) p rest d =
    let q = here d.0 (p.at + 1) in
    let c = (map1 a_global TwoGlobals global_type global_type_reads).complete (kind.Global t mutable) q rest ((t, mutable), refl, d.2) in
    (c.0, bind (byte p) (λ b. import_kind_at b.0 p.at b.1) (0x03, q) (byte_complete 0x03 p d.0 d.1) ∙ c.1)

import_kind_reads : Reads ImportKinds import_kind
import_kind_reads = record { sound = import_kind_sound; complete = import_kind_complete }

abbrev import_from : List ℕ → List ℕ → ImportKind → Import
import_from from text it = record { «module» = from; name = text; kind = it }

pub import_reads : Reads Imports import
unfolding import
import_reads =
    along (Made3 import_from Name Name ImportKinds) Imports (λ p. name p >>= λ a. name a.1 >>= λ b. import_kind b.1 >>= λ c. Ok (import_from a.0 b.0 c.0, c.1))
    (λ x b r d. subst (λ x. Imports x b r) (sym d.3) d.4) (λ x b r d. (x.module, x.name, x.kind, refl, d))
    (map3 import_from Name Name ImportKinds name name import_kind name_reads name_reads import_kind_reads)

-- globals
abbrev global_from : ValType × Bool → List Instr → GlobalVar
global_from t initial = record { val_type = t.0; mutable = t.1; initial = record { items = initial } }

pub global_reads : Reads Globals global
unfolding global
global_reads =
    along (Made2 global_from TwoGlobals Expr) Globals (λ p. global_type p >>= λ t. expr t.1 >>= λ i. Ok (global_from t.0 i.0, i.1))
    (λ x b r d. subst (λ x. Globals x b r) (sym d.2) d.3) (λ x b r d. ((x.val_type, x.mutable), x.initial.items, refl, d))
    (map2 global_from TwoGlobals Expr global_type expr global_type_reads expr_reads)

-- exports
export_kind_is : (b : ℕ) (x : ExportKind) → export_kind_of b ≡ Some x → b ≡ export_byte x
export_kind_is b x e =
    peel b 0x00 export_kind.Function (if nat_eq b 0x01 then Some export_kind.Table else if nat_eq b 0x02 then Some export_kind.Memory else if nat_eq b 0x03 then Some export_kind.Global else None) x export_byte refl
    (peel b 0x01 export_kind.Table (if nat_eq b 0x02 then Some export_kind.Memory else if nat_eq b 0x03 then Some export_kind.Global else None) x export_byte refl
    (peel b 0x02 export_kind.Memory (if nat_eq b 0x03 then Some export_kind.Global else None) x export_byte refl
    (peel b 0x03 export_kind.Global None x export_byte refl (λ e. absurd cc)))) e

is_export_kind : (x : ExportKind) → export_kind_of (export_byte x) ≡ Some x
is_export_kind export_kind.Function = refl
is_export_kind export_kind.Table = refl
is_export_kind export_kind.Memory = refl
is_export_kind export_kind.Global = refl

export_kind_reads : Reads (λ x. Byte (export_byte x)) (λ p. one_of export_kind_of p)
export_kind_reads = one_of_reads export_kind_of export_byte export_kind_is is_export_kind

abbrev export_from : List ℕ → ExportKind → ℕ → Export
export_from text it index = record { name = text; kind = it; index = index }

pub export_reads : Reads Exports export
unfolding export
export_reads =
    along (Made3 export_from Name (λ x. Byte (export_byte x)) U32) Exports (λ p. name p >>= λ a. one_of export_kind_of a.1 >>= λ b. u32 b.1 >>= λ c. Ok (export_from a.0 b.0 c.0, c.1))
    (λ x b r d. subst (λ x. Exports x b r) (sym d.3) d.4) (λ x b r d. (x.name, x.kind, x.index, refl, d))
    (map3 export_from Name (λ x. Byte (export_byte x)) U32 name (λ p. one_of export_kind_of p) u32 name_reads export_kind_reads u32_reads)

pub number_reads : Reads Number number
unfolding number
number_reads = map1 Some U32 u32 u32_reads

-- segments
abbrev element_from : ℕ → List Instr → List ℕ → Element
element_from index offset members = record { index = index; offset = record { items = offset }; members = members }

pub element_reads : Reads Elements element
unfolding element
element_reads =
    along (Made3 element_from U32 Expr (Vector U32)) Elements (λ p. u32 p >>= λ a. expr a.1 >>= λ b. vector u32 b.1 >>= λ c. Ok (element_from a.0 b.0 c.0, c.1))
    (λ x b r d. subst (λ x. Elements x b r) (sym d.3) d.4) (λ x b r d. (x.index, x.offset.items, x.members, refl, d))
    (map3 element_from U32 Expr (Vector U32) u32 expr (vector u32) u32_reads expr_reads (vector_reads U32 u32 u32_reads))

abbrev piece_from : ℕ → List Instr → List ℕ → Piece
piece_from index offset content = record { index = index; offset = record { items = offset }; bytes = content }

piece_reads : Reads Pieces piece
unfolding piece
piece_reads =
    along (Made3 piece_from U32 Expr Bytes) Pieces (λ p. u32 p >>= λ a. expr a.1 >>= λ b. bytes b.1 >>= λ c. Ok (piece_from a.0 b.0 c.0, c.1))
    (λ x b r d. subst (λ x. Pieces x b r) (sym d.3) d.4) (λ x b r d. (x.index, x.offset.items, x.bytes, refl, d))
    (map3 piece_from U32 Expr Bytes u32 expr bytes u32_reads expr_reads bytes_reads)

-- as many data segments as were counted, if they were
counts_by : (counted : Option ℕ) (n : ℕ) → is_counted counted n ≡ true → Counts counted n
counts_by None n e = tt
counts_by (Some k) n e = eqb-true n k e

pub counts : (counted : Option ℕ) (n at : ℕ) (t : Unit {0}) → check (is_counted counted n) at ≡ Ok t → Counts counted n
counts counted n at t e = counts_by counted n (check_ok (is_counted counted n) at t e)

counted_by : (counted : Option ℕ) (n : ℕ) → Counts counted n → is_counted counted n ≡ true
counted_by None n d = refl
counted_by (Some k) n d = eq-eqb n k d

pub is_so_many : (counted : Option ℕ) (n at : ℕ) → Counts counted n → check (is_counted counted n) at ≡ Ok tt
is_so_many counted n at d = checked (is_counted counted n) at (counted_by counted n d)

abbrev pub Data : Option ℕ → List Piece → List ℕ → List ℕ → Type 0
Data counted xs bytes rest = Counts counted (length xs) × Vector Pieces xs bytes rest

pieces_sound : (counted : Option ℕ) (p : Place) (y : List Piece × Place) → pieces counted p ≡ Ok y → Was (Data counted) p y
unfolding pieces
pieces_sound counted p y e =
    let n = bind_ok (u32 p) (λ n. check (is_counted counted n.0) p.at >>= λ t. times piece n.0 n.1) y e in
    let t = bind_ok (check (is_counted counted n.0.0) p.at) (λ t. times piece n.0.0 n.0.1) y n.2 in
    let w = u32_reads.sound p n.0 n.1 in
    let s = times_sound Pieces piece piece_reads n.0.0 n.0.1 y t.2 in
    record {
      spells = (subst (Counts counted) (sym s.0) (counts counted n.0.0 p.at t.0 t.1), (n.0.1.rest, subst (λ k. U32 k p.rest n.0.1.rest) (sym s.0) w.spells, s.1.spells));
      shorter = omega (arith, w.shorter, s.1.shorter);
    }

pieces_complete : (counted : Option ℕ) (xs : List Piece) (p : Place) (rest : List ℕ) → Data counted xs p.rest rest → (at : ℕ) × (pieces counted p ≡ Ok (xs, here rest at))
unfolding pieces
pieces_complete counted xs p rest d =
    let c = u32_reads.complete (length xs) p d.1.0 d.1.1 in
    let q = here d.1.0 c.0 in
    let b = times_complete Pieces piece piece_reads xs q rest d.1.2 in (
      b.0,
      bind (u32 p) (λ n. check (is_counted counted n.0) p.at >>= λ t. times piece n.0 n.1) (length xs, q) c.1
          ∙ (bind (check (is_counted counted (length xs)) p.at) (λ t. times piece (length xs) q) tt (is_so_many counted (length xs) p.at d.0) ∙ b.1),
    )

pub pieces_reads : (counted : Option ℕ) → Reads (Data counted) (pieces counted)
pieces_reads counted = record { sound = pieces_sound counted; complete = pieces_complete counted }

-- bodies
bodies_sound : (f n : ℕ) (p : Place) (y : List Body × Place) → bodies f n p ≡ Ok y → (length y.0 ≡ n) × Was (Members (Sized IsBody)) p y
unfolding bodies
bodies_sound f zero p y e =
    subst (λ (y : List Body × Place). (length y.0 ≡ 0) × Was (Members (Sized IsBody)) p y) (ok_is ([], p) y e) (refl, record { spells = refl; shorter = omega arith })
bodies_sound f (suc n) p y e =
    let b = bind_ok (sized (body f) p) (λ first. bodies (f + 1) n first.1 >>= λ others. Ok (first.0 ∷ others.0, others.1)) y e in
    let c = bind_ok (bodies (f + 1) n b.0.1) (λ others. Ok (b.0.0 ∷ others.0, others.1)) y b.2 in
    let w = (sized_reads IsBody (body f) (body_reads f)).sound p b.0 b.1 in
    let ih = bodies_sound (f + 1) n b.0.1 c.0 c.1 in
    subst (λ (y : List Body × Place). (length y.0 ≡ suc n) × Was (Members (Sized IsBody)) p y) (ok_is (b.0.0 ∷ c.0.0, c.0.1) y c.2)
    (ap suc ih.0, record { spells = (b.0.1.rest, w.spells, ih.1.spells); shorter = omega (arith, w.shorter, ih.1.shorter) })

bodies_complete : (xs : List Body) (f : ℕ) (p : Place) (rest : List ℕ) → Members (Sized IsBody) xs p.rest rest → (at : ℕ) × (bodies f (length xs) p ≡ Ok (xs, here rest at))
unfolding bodies
bodies_complete [] f p rest d = (p.at, ap (λ r. Ok ([], here r p.at)) d)
bodies_complete (x ∷ xs) f p rest d =
    let c = (sized_reads IsBody (body f) (body_reads f)).complete x p d.0 d.1 in
    let q = here d.0 c.0 in
    let ih = bodies_complete xs (f + 1) q rest d.2 in (
      ih.0,
      bind (sized (body f) p) (λ first. bodies (f + 1) (length xs) first.1 >>= λ others. Ok (first.0 ∷ others.0, others.1)) (x, q) c.1
          ∙ bind (bodies (f + 1) (length xs) q) (λ others. Ok (x ∷ others.0, others.1)) (xs, here rest ih.0) ih.1,
    )

-- as many bodies as functions
abbrev pub Code : ℕ → List Body → List ℕ → List ℕ → Type 0
Code functions xs bytes rest = (length xs ≡ functions) × Vector (Sized IsBody) xs bytes rest

code_sound : (functions : ℕ) (p : Place) (y : List Body × Place) → code functions p ≡ Ok y → Was (Code functions) p y
unfolding code
code_sound functions p y e =
    let n = bind_ok (u32 p) (λ n. check (nat_eq n.0 functions) p.at >>= λ t. bodies 0 functions n.1) y e in
    let t = bind_ok (check (nat_eq n.0.0 functions) p.at) (λ t. bodies 0 functions n.0.1) y n.2 in
    let same : n.0.0 ≡ functions = eqb-true n.0.0 functions (check_ok (nat_eq n.0.0 functions) p.at t.0 t.1) in
    let w = u32_reads.sound p n.0 n.1 in
    let s = bodies_sound 0 functions n.0.1 y t.2 in
    record { spells = (s.0, (n.0.1.rest, subst (λ k. U32 k p.rest n.0.1.rest) (same ∙ sym s.0) w.spells, s.1.spells)); shorter = omega (arith, w.shorter, s.1.shorter) }

code_complete : (functions : ℕ) (xs : List Body) (p : Place) (rest : List ℕ) → Code functions xs p.rest rest → (at : ℕ) × (code functions p ≡ Ok (xs, here rest at))
unfolding code
code_complete functions xs p rest d =
    let c = u32_reads.complete (length xs) p d.1.0 d.1.1 in
    let q = here d.1.0 c.0 in
    let b = bodies_complete xs 0 q rest d.1.2 in (
      b.0,
      bind (u32 p) (λ n. check (nat_eq n.0 functions) p.at >>= λ t. bodies 0 functions n.1) (length xs, q) c.1
          ∙ (bind (check (nat_eq (length xs) functions) p.at) (λ t. bodies 0 functions q) tt (checked (nat_eq (length xs) functions) p.at (eq-eqb (length xs) functions d.0))
          ∙ (ap (λ n. bodies 0 n q) (sym d.0) ∙ b.1)),
    )

pub code_reads : (functions : ℕ) → Reads (Code functions) (code functions)
code_reads functions = record { sound = code_sound functions; complete = code_complete functions }
