-- How far members, sections and modules go on, and where their faults are.
use Rattle.std.proofs.Common.{◌≡◌, ℕ, zero, suc, ◌+◌, Bool, true, false, List, [], ◌∷◌, length, Result, Ok, Err, refl, sym, ap, subst, arith, length-append}
use Rattle.std.specs.Prelude.{Option, Some, None, nat_eq, if◌then◌else◌}
use Rattle.std.specs.List.{starts_with}
use Rattle.wasm_ast.specs.declared.val_types.ValType.{ValType}
use Rattle.wasm_ast.specs.declared.imports.ImportKind.{ImportKind}
use Rattle.wasm_ast.specs.declared.imports.ImportKind.TheVariants as kind
use Rattle.wasm_ast.specs.declared.imports.Import.{Import}
use Rattle.wasm_ast.specs.declared.exports.Export.{Export}
use Rattle.wasm_ast.specs.declared.global_vars.GlobalVar.{GlobalVar}
use Rattle.wasm_ast.specs.declared.func_types.FuncType.{FuncType}
use Rattle.wasm_ast.specs.declared.tables.Table.{Table}
use Rattle.wasm_ast.specs.declared.memory_types.MemoryType.{MemoryType}
use Rattle.wasm_ast.specs.declared.elements.Element.{Element}
use Rattle.wasm_ast.specs.declared.pieces.Piece.{Piece}
use Rattle.wasm_ast.specs.declared.bodies.Body.{Body}
use Rattle.wasm_ast.specs.declared.trees.Instr.{Instr}
use Rattle.wasm_code.specs.declared.error.DecodeError.{DecodeError}
use Rattle.wasm_code.specs.declared.error.DecodeError.TheVariants.{Malformed}
use Rattle.wasm_code.specs.Places.{Place, Reading, ◌>>=◌, past, byte, check, ended}
use Rattle.wasm_code.specs.Agreement.{IsFurther, IsFaultWithin}
use Rattle.wasm_code.specs.Fields.{one_of, u32, val_type, times, vector, range, sized, bytes, name}
use Rattle.wasm_code.specs.Reading.{expr, body}
use Rattle.wasm_code.proofs.Agreements.{here, bind_ok, ok_is}
use Rattle.wasm_code.proofs.Extents.{Moves, moves_ok, moves_err, moves_then, err_is, stays, inside, wider, behind, here_bad, behind_it, Goes, chained, made, two, three, checks, ends, byte_goes, tagged_moves, one_of_goes, val_type_goes, u32_goes, times_goes, vector_goes, ranged, sized_goes, bytes_goes, name_goes}
use Rattle.wasm_code.proofs.BodyExtents.{expr_goes, body_goes}
use Rattle.wasm_decode.specs.Spelling.{magic, version}
use Rattle.wasm_decode.specs.Parts.{func_type, flag_of, maximum, limits, memory_type, table, global_type, import_kind_at, import_kind, import, global, export_kind_of, export, number, element, piece, is_counted, pieces, bodies, code}
use Rattle.wasm_decode.specs.Sections.{exactly, custom, after_id_of, after_id, customs_by, customs, all_customs, section_by, section, last, sections, module_of}
use Rattle.wasm_decode.proofs.ModulesBothWays.{exactly_sound}

-- members
func_type_goes : Goes func_type
unfolding func_type
func_type_goes p =
    tagged_moves 0x60 p behind_it (λ q. vector val_type q >>= λ params. vector val_type params.1 >>= λ results. Ok (record { params = params.0; results = results.0 }, results.1))
    (two {X = FuncType} (λ params results. record { params = params; results = results }) (vector val_type) (vector val_type) (vector_goes val_type val_type_goes) (vector_goes val_type val_type_goes))

maximum_goes : (bounded : Bool) → Goes (maximum bounded)
maximum_goes false p = moves_ok p behind_it (None, p) (stays p)
maximum_goes true p = made Some u32 u32_goes p

limits_goes : Goes limits
unfolding limits
limits_goes p =
    chained p behind_it (one_of flag_of p) (λ flag. u32 flag.1 >>= λ least. maximum flag.0 least.1 >>= λ most. Ok ((least.0, most.0), most.1)) (one_of_goes flag_of p)
    (λ flag. two {X = ℕ × Option ℕ} (λ least most. (least, most)) u32 (maximum flag.0) u32_goes (maximum_goes flag.0) flag.1)

memory_type_goes : Goes memory_type
unfolding memory_type
memory_type_goes p = made {B = MemoryType} (λ l. record { minimum = l.0; maximum = l.1 }) limits limits_goes p

table_goes : Goes table
unfolding table
table_goes p =
    tagged_moves 0x70 p behind_it (λ q. limits q >>= λ l. Ok (record { minimum = l.0.0; maximum = l.0.1 }, l.1)) (made {B = Table} (λ l. record { minimum = l.0; maximum = l.1 }) limits limits_goes)

global_type_goes : Goes global_type
unfolding global_type
global_type_goes p = two {X = ValType × Bool} (λ t mutable. (t, mutable)) val_type (one_of flag_of) val_type_goes (one_of_goes flag_of) p

choose : (p : Place) (t : Bool) (a b : Reading ImportKind) → Moves p behind_it a → Moves p behind_it b → Moves p behind_it (if t then a else b)
choose p true a b m k = m
choose p false a b m k = k

import_kind_by : (b : ℕ) (p q : Place) → IsFurther p q → Moves p behind_it (import_kind_at b p.at q)
import_kind_by b p q k =
    let fault : Reading ImportKind = Err (Malformed p.at) in
    let a_global : Reading ImportKind = global_type q >>= λ g. Ok (kind.Global g.0.0 g.0.1, g.1) in
    let a_memory : Reading ImportKind = memory_type q >>= λ m. Ok (kind.Memory m.0, m.1) in
    let a_table : Reading ImportKind = table q >>= λ t. Ok (kind.Table t.0, t.1) in
    let function : Reading ImportKind = u32 q >>= λ n. Ok (kind.Function n.0, n.1) in
    let fourth : Reading ImportKind = if nat_eq b 0x03 then a_global else fault in
    let third : Reading ImportKind = if nat_eq b 0x02 then a_memory else fourth in
    let second : Reading ImportKind = if nat_eq b 0x01 then a_table else third in
    choose p (nat_eq b 0x00) function second (behind p q behind_it function k (made kind.Function u32 u32_goes q))
    (choose p (nat_eq b 0x01) a_table third (behind p q behind_it a_table k (made kind.Table table table_goes q))
    (choose p (nat_eq b 0x02) a_memory fourth (behind p q behind_it a_memory k (made kind.Memory memory_type memory_type_goes q))
    (choose p (nat_eq b 0x03) a_global fault (behind p q behind_it a_global k (made (λ (g : ValType × Bool). kind.Global g.0 g.1) global_type global_type_goes q))
    (moves_err p behind_it (Malformed p.at) (here_bad p)))))

import_kind_goes : Goes import_kind
unfolding import_kind
import_kind_goes p = moves_then p behind_it behind_it (byte p) (λ b. import_kind_at b.0 p.at b.1) (byte_goes p) (λ b e k. import_kind_by b.0 p b.1 k)

import_goes : Goes import
unfolding import
import_goes p = three {X = Import} (λ from text it. record { «module» = from; name = text; kind = it }) name name import_kind name_goes name_goes import_kind_goes p

global_goes : Goes global
unfolding global
global_goes p = two {A = ValType × Bool} {B = List Instr} {X = GlobalVar} (λ t i. record { val_type = t.0; mutable = t.1; initial = record { items = i } }) global_type expr global_type_goes expr_goes p

export_goes : Goes export
unfolding export
export_goes p = three {X = Export} (λ text it index. record { name = text; kind = it; index = index }) name (one_of export_kind_of) u32 name_goes (one_of_goes export_kind_of) u32_goes p

number_goes : Goes number
unfolding number
number_goes p = made Some u32 u32_goes p

element_goes : Goes element
unfolding element
element_goes p = three {B = List Instr} {X = Element} (λ index offset members. record { index = index; offset = record { items = offset }; members = members }) u32 expr (vector u32) u32_goes expr_goes (vector_goes u32 u32_goes) p

piece_goes : Goes piece
unfolding piece
piece_goes p = three {B = List Instr} {X = Piece} (λ index offset content. record { index = index; offset = record { items = offset }; bytes = content }) u32 expr bytes u32_goes expr_goes bytes_goes p

-- a count that is checked at its place, and what follows
counted_goes : {X : Type 0} (test : ℕ → Bool) (rest : ℕ → Place → Reading X) → ((n : ℕ) → Goes (rest n)) → Goes (λ p. u32 p >>= λ n. check (test n.0) p.at >>= λ t. rest n.0 n.1)
counted_goes test rest m p =
    moves_then p behind_it behind_it (u32 p) (λ n. check (test n.0) p.at >>= λ t. rest n.0 n.1) (u32_goes p)
    (λ n e k. moves_then p (λ t. p) behind_it (check (test n.0) p.at) (λ t. rest n.0 n.1) (checks p (test n.0) p.at (here_bad p)) (λ t _ _. behind p n.1 behind_it (rest n.0 n.1) k (m n.0 n.1)))

pieces_goes : (counted : Option ℕ) → Goes (pieces counted)
unfolding pieces
pieces_goes counted p = counted_goes (is_counted counted) (times piece) (times_goes piece piece_goes) p

bodies_go : (f n : ℕ) → Goes (bodies f n)
unfolding bodies
bodies_go f zero p = moves_ok p behind_it ([], p) (stays p)
bodies_go f (suc n) p =
    chained p behind_it (sized (body f) p) (λ first. bodies (f + 1) n first.1 >>= λ others. Ok (first.0 ∷ others.0, others.1)) (sized_goes (body f) (body_goes f) p)
    (λ first. made (λ others. first.0 ∷ others) (bodies (f + 1) n) (bodies_go (f + 1) n) first.1)

code_goes : (functions : ℕ) → Goes (code functions)
unfolding code
code_goes functions p = counted_goes (λ n. nat_eq n functions) (λ n. bodies 0 functions) (λ n. bodies_go 0 functions) p

-- sections
abbrev itself : Place → Place
itself q = q

after_test : (rest : List ℕ) (b at : ℕ) (t : Bool) (q : Place) → (if t then Some (here rest (at + 1)) else None) ≡ Some q → IsFurther (here (b ∷ rest) at) q
after_test rest b at true q e = (1, omega arith, sym cc)
after_test rest b at false q e = absurd cc

after_by : (id : ℕ) (rest : List ℕ) (at : ℕ) (q : Place) → after_id_of id rest at ≡ Some q → IsFurther (here rest at) q
after_by id [] at q e = absurd cc
after_by id (b ∷ rest) at q e = after_test rest b at (nat_eq b id) q e

after_further : (id : ℕ) (p q : Place) → after_id id p ≡ Some q → IsFurther p q
unfolding after_id
after_further id p q e = after_by id p.rest p.at q e

custom_moves : (p : Place) → Moves {X = Unit {0}} p (λ t. p) (custom p)
custom_moves p = moves_then p behind_it (λ t. p) (name p) (λ text. Ok tt) (name_goes p) (λ text _ _. moves_ok p (λ t. p) tt (stays p))

customs_by_moves : (others : Place → Result Place DecodeError) (p : Place) (o : Option Place) → after_id 0 p ≡ o → ((q : Place) → Moves q itself (others q)) → Moves p itself (customs_by others p o)
customs_by_moves others p None h m = moves_ok p itself p (stays p)
customs_by_moves others p (Some q) h m =
    behind p q itself (range q >>= λ r. custom r.0 >>= λ t. others r.1) (after_further 0 p q h)
    (ranged q itself (λ r. custom r.0 >>= λ t. others r.1)
    (λ r i k. moves_then q (λ t. q) itself (custom r.0) (λ t. others r.1) (record { further = λ t _. stays q; within = λ e f. wider q r.0 e i ((custom_moves r.0).within e f) })
    (λ t _ _. behind q r.1 itself (others r.1) k (m r.1))))

customs_move : (n : ℕ) (p : Place) → Moves p itself (customs n p)
unfolding customs
customs_move zero p = moves_ok p itself p (stays p)
customs_move (suc n) p = customs_by_moves (customs n) p (after_id 0 p) refl (customs_move n)

section_by_goes : {X : Type 0} (id : ℕ) (read : Place → Reading X) (absent : X) → Goes read → (p : Place) (o : Option Place) → after_id id p ≡ o → Moves p behind_it (section_by read absent p o)
section_by_goes id read absent m p None h = moves_ok p behind_it (absent, p) (stays p)
section_by_goes id read absent m p (Some q) h = behind p q behind_it (sized read q) (after_further id p q h) (sized_goes read m q)

section_goes : {X : Type 0} (id : ℕ) (read : Place → Reading X) (absent : X) → Goes read → Goes (section id read absent)
unfolding section
section_goes id read absent m p =
    moves_then p itself behind_it (all_customs p) (λ q. section_by read absent q (after_id id q)) (customs_move (length p.rest) p)
    (λ q e k. behind p q behind_it (section_by read absent q (after_id id q)) k (section_by_goes id read absent m q (after_id id q) refl))

last_moves : (p : Place) → Moves p itself (last p)
last_moves p =
    moves_then p itself itself (all_customs p) (λ q. ended q >>= λ t. Ok q) (customs_move (length p.rest) p)
    (λ q e k. behind p q itself (ended q >>= λ t. Ok q) k (moves_then q (λ t. q) itself (ended q) (λ t. Ok q) (ends q) (λ t _ _. moves_ok q itself q (stays q))))

-- where the faults of what makes no place are
abbrev Faults : {X : Type 0} → Place → Result X DecodeError → Type 0
Faults p r = (e : DecodeError) → r ≡ Err e → IsFaultWithin p e

faults_then : {A B : Type 0} (p : Place) (to : A → Place) (r : Result A DecodeError) (f : A → Result B DecodeError) → Moves p to r → ((a : A) → Faults (to a) (f a)) → Faults p (r >>= f)
faults_then p to (Ok a) f m h e k = wider p (to a) e (inside p (to a) (m.further a refl)) (h a e k)
faults_then p to (Err d) f m h e k = subst (IsFaultWithin p) (err_is d e k) (m.within d refl)

ok_faults : {A : Type 0} (p : Place) (x : A) → Faults p (Ok x)
ok_faults p x e h = absurd cc

sections_faults : (p : Place) → Faults p (sections p)
unfolding sections
sections_faults p =
    faults_then p behind_it (section 1 (vector func_type) [] p) _ (section_goes 1 (vector func_type) [] (vector_goes func_type func_type_goes) p) (λ (types : List FuncType × Place).
    faults_then types.1 behind_it (section 2 (vector import) [] types.1) _ (section_goes 2 (vector import) [] (vector_goes import import_goes) types.1) (λ (imports : List Import × Place).
    faults_then imports.1 behind_it (section 3 (vector u32) [] imports.1) _ (section_goes 3 (vector u32) [] (vector_goes u32 u32_goes) imports.1) (λ (functions : List ℕ × Place).
    faults_then functions.1 behind_it (section 4 (vector table) [] functions.1) _ (section_goes 4 (vector table) [] (vector_goes table table_goes) functions.1) (λ (tables : List Table × Place).
    faults_then tables.1 behind_it (section 5 (vector memory_type) [] tables.1) _ (section_goes 5 (vector memory_type) [] (vector_goes memory_type memory_type_goes) tables.1) (λ (memories : List MemoryType × Place).
    faults_then memories.1 behind_it (section 6 (vector global) [] memories.1) _ (section_goes 6 (vector global) [] (vector_goes global global_goes) memories.1) (λ (globals : List GlobalVar × Place).
    faults_then globals.1 behind_it (section 7 (vector export) [] globals.1) _ (section_goes 7 (vector export) [] (vector_goes export export_goes) globals.1) (λ (exports : List Export × Place).
    faults_then exports.1 behind_it (section 8 number None exports.1) _ (section_goes 8 number None number_goes exports.1) (λ (begins : Option ℕ × Place).
    faults_then begins.1 behind_it (section 9 (vector element) [] begins.1) _ (section_goes 9 (vector element) [] (vector_goes element element_goes) begins.1) (λ (elements : List Element × Place).
    faults_then elements.1 behind_it (section 12 number None elements.1) _ (section_goes 12 number None number_goes elements.1) (λ (counted : Option ℕ × Place).
    faults_then counted.1 behind_it (section 10 (code (length functions.0)) [] counted.1) _ (section_goes 10 (code (length functions.0)) [] (code_goes (length functions.0)) counted.1) (λ (bodies : List Body × Place).
    faults_then bodies.1 behind_it (section 11 (pieces counted.0) [] bodies.1) _ (section_goes 11 (pieces counted.0) [] (pieces_goes counted.0) bodies.1) (λ (segments : List Piece × Place).
    faults_then segments.1 itself (last segments.1) _ (last_moves segments.1) (λ (q : Place).
    faults_then q (λ t. q) (check (nat_eq (length bodies.0) (length functions.0)) q.at) _ (checks q (nat_eq (length bodies.0) (length functions.0)) q.at (here_bad q)) (λ t.
    faults_then q (λ t. q) (check (is_counted counted.0 (length segments.0)) q.at) _ (checks q (is_counted counted.0 (length segments.0)) q.at (here_bad q)) (λ t. ok_faults q _)))))))))))))))

-- the header
exactly_moves : (front : List ℕ) (p : Place) → Moves p itself (exactly front p)
exactly_moves front p =
    let k = length front in
    let m = moves_then p (λ t. p) (λ q. p) (check (starts_with nat_eq p.rest front) p.at) (λ t. Ok (past k p)) (checks p (starts_with nat_eq p.rest front) p.at (here_bad p)) (λ t _ _. moves_ok p (λ q. p) (past k p) (stays p)) in
    record {
      further = λ q e. (
          let t = bind_ok (check (starts_with nat_eq p.rest front) p.at) (λ t. Ok (past k p)) q e in
          (k, omega (arith, ap length (exactly_sound front p q e), length-append front q.rest), sym (ok_is (past k p) q t.2)));
      within = m.within;
    }

-- modules
pub module_faults : (bytes : List ℕ) → Faults (here bytes 0) (module_of bytes)
module_faults bytes =
    faults_then (here bytes 0) itself (exactly magic (here bytes 0)) (λ p. exactly version p >>= λ q. sections q) (exactly_moves magic (here bytes 0))
    (λ p. faults_then p itself (exactly version p) (λ q. sections q) (exactly_moves version p) (λ q. sections_faults q))
