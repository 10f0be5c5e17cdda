-- Sections and modules: what is read is spelled so, and what is spelled so is read.
use Rattle.std.proofs.Common.{◌≡◌, ℕ, zero, suc, ◌+◌, ◌<◌, ◌≤◌, Bool, true, false, List, [], ◌∷◌, ◌++◌, length, take, drop, Result, Ok, Err, refl, sym, ap, ◌∙◌, subst, arith, inl, inr}
use Rattle.std.specs.Prelude.{Option, Some, None, ◌⊎◌, nat_eq, if◌then◌else◌}
use Rattle.std.specs.List.{starts_with}
use Rattle.std.specs.Cmp.Lexicographic.{same_text}
use Rattle.std.proofs.lemmas.List.{nil_from_length, drop_at, take-append-drop}
use Rattle.std.proofs.lemmas.Bool.{eqb-true, eqb-false, ne_eqb, eq-eqb}
use Rattle.wasm_ast.specs.declared.modules.Module.{Module}
use Rattle.wasm_ast.specs.declared.func_types.FuncType.{FuncType}
use Rattle.wasm_ast.specs.declared.tables.Table.{Table}
use Rattle.wasm_ast.specs.declared.memory_types.MemoryType.{MemoryType}
use Rattle.wasm_ast.specs.declared.imports.Import.{Import}
use Rattle.wasm_ast.specs.declared.exports.Export.{Export}
use Rattle.wasm_ast.specs.declared.global_vars.GlobalVar.{GlobalVar}
use Rattle.wasm_ast.specs.declared.elements.Element.{Element}
use Rattle.wasm_ast.specs.declared.pieces.Piece.{Piece}
use Rattle.wasm_ast.specs.declared.bodies.Body.{Body}
use Rattle.wasm_code.specs.declared.error.DecodeError.{DecodeError}
use Rattle.wasm_code.specs.Places.{Place, Reading, ◌>>=◌, past, check, ended}
use Rattle.wasm_code.specs.Fields.{u32, vector, range, name}
use Rattle.wasm_code.specs.Spelling.{U32, Vector, Sized}
use Rattle.wasm_code.specs.Grammar.{IsBody}
use Rattle.wasm_code.proofs.Agreements.{bind, bind_ok, ok_is, check_ok, checked, here, Was, Reads}
use Rattle.wasm_code.proofs.FieldsBothWays.{u32_reads, vector_reads, sized_reads, range_sound, range_complete, ended_nil, name_reads}
use Rattle.wasm_decode.specs.Parts.{func_type, import, table, memory_type, global, export, number, element, pieces, is_counted, code}
use Rattle.wasm_decode.specs.Sections.{exactly, custom, after_id_of, after_id, customs_by, customs, all_customs, section_by, section, last, sections, module_of, Fails}
use Rattle.wasm_decode.specs.Spelling.{FuncTypes, Imports, Tables, MemoryTypes, Globals, Exports, Number, Elements, Pieces, magic, version}
use Rattle.wasm_decode.specs.Grammar.{Custom, Counts, Spells}
use Rattle.wasm_decode.proofs.Greedy.{NotAt, Customs, none, more, Sections, Section, C1, tight, loosen1}
use Rattle.wasm_decode.proofs.MembersBothWays.{func_type_reads, import_reads, table_reads, memory_type_reads, global_reads, export_reads, number_reads, element_reads, Data, pieces_reads, counts, is_so_many, Code, code_reads}

-- ids
test_none : (t : Bool) (q : Place) → (if t then Some q else None) ≡ None → t ≡ false
test_none true q e = absurd cc
test_none false q e = refl

test_some : (t : Bool) (p q : Place) → (if t then Some p else None) ≡ Some q → (t ≡ true) × (p ≡ q)
test_some true p q e = (refl, cc)
test_some false p q e = absurd cc

none_of : (id : ℕ) (bytes : List ℕ) (at : ℕ) → after_id_of id bytes at ≡ None → NotAt id bytes
none_of id [] at e = tt
none_of id (b ∷ bytes) at e = eqb-false b id (test_none (nat_eq b id) (here bytes (at + 1)) e)

some_of : (id : ℕ) (bytes : List ℕ) (at : ℕ) (q : Place) → after_id_of id bytes at ≡ Some q → bytes ≡ id ∷ q.rest
some_of id [] at q e = absurd cc
some_of id (b ∷ bytes) at q e =
    let h = test_some (nat_eq b id) (here bytes (at + 1)) q e in
    ap (λ x. x ∷ bytes) (eqb-true b id h.0) ∙ ap (λ (p : Place). id ∷ p.rest) h.1

is_none : (id : ℕ) (bytes : List ℕ) (at : ℕ) → NotAt id bytes → after_id_of id bytes at ≡ None
is_none id [] at e = refl
is_none id (b ∷ bytes) at e = ap (λ t. if t then Some (here bytes (at + 1)) else None) (ne_eqb b id e)

is_some : (id : ℕ) (tail : List ℕ) (at : ℕ) → after_id_of id (id ∷ tail) at ≡ Some (here tail (at + 1))
is_some id tail at = ap (λ t. if t then Some (here tail (at + 1)) else None) (eq-eqb id id refl)

not_at : (id : ℕ) (p : Place) → after_id id p ≡ None → NotAt id p.rest
unfolding after_id
not_at id p e = none_of id p.rest p.at e

stands : (id : ℕ) (p q : Place) → after_id id p ≡ Some q → p.rest ≡ id ∷ q.rest
unfolding after_id
stands id p q e = some_of id p.rest p.at q e

passed_by : (id : ℕ) (p : Place) → NotAt id p.rest → after_id id p ≡ None
unfolding after_id
passed_by id p h = is_none id p.rest p.at h

met : (id : ℕ) (p : Place) (tail : List ℕ) → p.rest ≡ id ∷ tail → after_id id p ≡ Some (here tail (p.at + 1))
unfolding after_id
met id p tail h = ap (λ b. after_id_of id b p.at) h ∙ is_some id tail p.at

pub after_shorter : (id : ℕ) (p q : Place) → after_id id p ≡ Some q → length q.rest < length p.rest
after_shorter id p q e = omega (arith, ap length (stands id p q e))

-- custom sections
custom_sound : (p : Place) (t : Unit {0}) → custom p ≡ Ok t → Custom p.rest
custom_sound p t e = let r = bind_ok (name p) (λ text. Ok tt) t e in (r.0.0, r.0.1.rest, (name_reads.sound p r.0 r.1).spells)

custom_complete : (p : Place) → Custom p.rest → custom p ≡ Ok tt
custom_complete p d = let c = name_reads.complete d.0 p d.1 d.2 in bind (name p) (λ text. Ok tt) (d.0, here d.1 c.0) c.1

-- custom sections from p to q
record Passed (p q : Place) : Type 0 where
  spells : Customs p.rest q.rest
  shorter : length q.rest ≤ length p.rest

customs_by_sound : (n : ℕ) (p q : Place) (o : Option Place) → after_id 0 p ≡ o → length p.rest ≤ suc n → ((r : Place) → length r.rest ≤ n → customs n r ≡ Ok q → Passed r q)
    → customs_by (customs n) p o ≡ Ok q → Passed p q
customs_by_sound n p q None h l ih e = subst (Passed p) (ok_is p q e) (record { spells = none p.rest (not_at 0 p h); shorter = omega arith })
customs_by_sound n p q (Some s) h l ih e =
    let r = bind_ok (range s) (λ r. custom r.0 >>= λ t. customs n r.1) q e in
    let t = bind_ok (custom r.0.0) (λ t. customs n r.0.1) q r.2 in
    let w = range_sound s r.0 r.1 in
    let d = ih r.0.1 (omega (arith, after_shorter 0 p s h, w.1)) t.2 in
    record {
      spells = subst (λ b. Customs b q.rest) (sym (stands 0 p s h)) (more r.0.0.rest s.rest r.0.1.rest q.rest w.0 (custom_sound r.0.0 t.0 t.1) d.spells);
      shorter = omega (arith, after_shorter 0 p s h, w.1, d.shorter);
    }

customs_sound : (n : ℕ) (p q : Place) → length p.rest ≤ n → customs n p ≡ Ok q → Passed p q
unfolding customs
customs_sound zero p q l e =
    let nil : p.rest ≡ [] = nil_from_length p.rest (omega arith) in
    subst (Passed p) (ok_is p q e) (record { spells = none p.rest (subst (NotAt 0) (sym nil) tt); shorter = omega arith })
customs_sound (suc n) p q l e = customs_by_sound n p q (after_id 0 p) refl l (λ r k h. customs_sound n r q k h) e

all_sound : (p q : Place) → all_customs p ≡ Ok q → Passed p q
all_sound p q e = customs_sound (length p.rest) p q (omega arith) e

customs_complete : (bytes rest : List ℕ) → Customs bytes rest → (n : ℕ) (p : Place) → p.rest ≡ bytes → length p.rest ≤ n → (at : ℕ) × (customs n p ≡ Ok (here rest at))
unfolding customs
customs_complete bytes rest (none b h) zero p e l = (p.at, ap (λ r. Ok (here r p.at)) e)
customs_complete bytes rest (none b h) (suc n) p e l =
    (p.at, ap (customs_by (customs n) p) (passed_by 0 p (subst (NotAt 0) (sym e) h)) ∙ ap (λ r. Ok (here r p.at)) e)
customs_complete bytes rest (more inner b after s r cu d) zero p e l = absurd (omega (arith, ap length e))
customs_complete bytes rest (more inner b after s r cu d) (suc n) p e l =
    let q = here b (p.at + 1) in
    let c = range_complete inner q after r in
    let i = here inner c.0 in
    let a = here after c.1 in
    let w = range_sound q (i, a) c.2 in
    let ih = customs_complete after s d n a refl (omega (arith, ap length e, w.1)) in (
      ih.0,
      ap (customs_by (customs n) p) (met 0 p b e)
          ∙ (bind (range q) (λ r. custom r.0 >>= λ t. customs n r.1) (i, a) c.2
          ∙ (bind (custom i) (λ t. customs n a) tt (custom_complete i cu) ∙ ih.1)),
    )

all_complete : (p : Place) (rest : List ℕ) → Customs p.rest rest → (at : ℕ) × (all_customs p ≡ Ok (here rest at))
all_complete p rest d = customs_complete p.rest rest d (length p.rest) p refl (omega arith)

-- sections
section_by_sound : {X : Type 0} (id : ℕ) (G : X → List ℕ → List ℕ → Type 0) (read : Place → Reading X) (absent : X) → Reads G read → (p : Place) (y : X × Place) (o : Option Place) → after_id id p ≡ o
    → section_by read absent p o ≡ Ok y → Was (Sections id G absent) p y
section_by_sound id G read absent a p y None h e =
    subst (Was (Sections id G absent) p) (ok_is (absent, p) y e) (record { spells = inl (refl, refl, not_at id p h); shorter = omega arith })
section_by_sound id G read absent a p y (Some s) h e =
    let w = (sized_reads G read a).sound s y e in
    record { spells = inr (s.rest, stands id p s h, w.spells); shorter = omega (arith, after_shorter id p s h, w.shorter) }

section_by_complete : {X : Type 0} (id : ℕ) (G : X → List ℕ → List ℕ → Type 0) (read : Place → Reading X) (absent : X) → Reads G read → (x : X) (p : Place) (rest : List ℕ) → Sections id G absent x p.rest rest
    → (at : ℕ) × (section_by read absent p (after_id id p) ≡ Ok (x, here rest at))
section_by_complete id G read absent a x p rest (inl d) =
    (p.at, ap (section_by read absent p) (passed_by id p d.2) ∙ (ap (λ y. Ok (y, p)) (sym d.0) ∙ ap (λ r. Ok (x, here r p.at)) d.1))
section_by_complete id G read absent a x p rest (inr d) =
    let c = (sized_reads G read a).complete x (here d.0 (p.at + 1)) rest d.2 in
    (c.0, ap (section_by read absent p) (met id p d.0 d.1) ∙ c.1)

section_sound : {X : Type 0} (id : ℕ) (G : X → List ℕ → List ℕ → Type 0) (read : Place → Reading X) (absent : X) → Reads G read → (p : Place) (y : X × Place) → section id read absent p ≡ Ok y → Was (Section id G absent) p y
unfolding section
section_sound id G read absent a p y e =
    let q = bind_ok (all_customs p) (λ q. section_by read absent q (after_id id q)) y e in
    let c = all_sound p q.0 q.1 in
    let w = section_by_sound id G read absent a q.0 y (after_id id q.0) refl q.2 in
    record { spells = (q.0.rest, c.spells, w.spells); shorter = omega (arith, c.shorter, w.shorter) }

section_complete : {X : Type 0} (id : ℕ) (G : X → List ℕ → List ℕ → Type 0) (read : Place → Reading X) (absent : X) → Reads G read → (x : X) (p : Place) (rest : List ℕ) → Section id G absent x p.rest rest
    → (at : ℕ) × (section id read absent p ≡ Ok (x, here rest at))
unfolding section
section_complete id G read absent a x p rest d =
    let c = all_complete p d.0 d.1 in
    let q = here d.0 c.0 in
    let s = section_by_complete id G read absent a x q rest d.2 in
    (s.0, bind (all_customs p) (λ q. section_by read absent q (after_id id q)) q c.1 ∙ s.1)

section_reads : {X : Type 0} (id : ℕ) (G : X → List ℕ → List ℕ → Type 0) (read : Place → Reading X) (absent : X) → Reads G read → Reads (Section id G absent) (section id read absent)
section_reads id G read absent a = record { sound = section_sound id G read absent a; complete = section_complete id G read absent a }

-- the twelve
first : Reads (Section 1 (Vector FuncTypes) []) (section 1 (vector func_type) [])
first = section_reads 1 (Vector FuncTypes) (vector func_type) [] (vector_reads FuncTypes func_type func_type_reads)

second : Reads (Section 2 (Vector Imports) []) (section 2 (vector import) [])
second = section_reads 2 (Vector Imports) (vector import) [] (vector_reads Imports import import_reads)

third : Reads (Section 3 (Vector U32) []) (section 3 (vector u32) [])
third = section_reads 3 (Vector U32) (vector u32) [] (vector_reads U32 u32 u32_reads)

fourth : Reads (Section 4 (Vector Tables) []) (section 4 (vector table) [])
fourth = section_reads 4 (Vector Tables) (vector table) [] (vector_reads Tables table table_reads)

fifth : Reads (Section 5 (Vector MemoryTypes) []) (section 5 (vector memory_type) [])
fifth = section_reads 5 (Vector MemoryTypes) (vector memory_type) [] (vector_reads MemoryTypes memory_type memory_type_reads)

sixth : Reads (Section 6 (Vector Globals) []) (section 6 (vector global) [])
sixth = section_reads 6 (Vector Globals) (vector global) [] (vector_reads Globals global global_reads)

seventh : Reads (Section 7 (Vector Exports) []) (section 7 (vector export) [])
seventh = section_reads 7 (Vector Exports) (vector export) [] (vector_reads Exports export export_reads)

eighth : Reads (Section 8 Number None) (section 8 number None)
eighth = section_reads 8 Number number None number_reads

ninth : Reads (Section 9 (Vector Elements) []) (section 9 (vector element) [])
ninth = section_reads 9 (Vector Elements) (vector element) [] (vector_reads Elements element element_reads)

tenth : (n : ℕ) → Reads (Section 10 (Code n) []) (section 10 (code n) [])
tenth n = section_reads 10 (Code n) (code n) [] (code_reads n)

twelfth : Reads (Section 12 Number None) (section 12 number None)
twelfth = section_reads 12 Number number None number_reads

eleventh : (counted : Option ℕ) → Reads (Section 11 (Data counted) []) (section 11 (pieces counted) [])
eleventh counted = section_reads 11 (Data counted) (pieces counted) [] (pieces_reads counted)

-- the count of the bodies is known
to_vector_at : (n : ℕ) (xs : List Body) (bytes rest : List ℕ) → Sections 10 (Code n) [] xs bytes rest → Sections 10 (Vector (Sized IsBody)) [] xs bytes rest
to_vector_at n xs bytes rest (inl d) = inl d
to_vector_at n xs bytes rest (inr d) = inr (d.0, d.1, (d.2.0, d.2.1, d.2.2.1))

from_vector_at : (n : ℕ) (xs : List Body) (bytes rest : List ℕ) → length xs ≡ n → Sections 10 (Vector (Sized IsBody)) [] xs bytes rest → Sections 10 (Code n) [] xs bytes rest
from_vector_at n xs bytes rest e (inl d) = inl d
from_vector_at n xs bytes rest e (inr d) = inr (d.0, d.1, (d.2.0, d.2.1, (e, d.2.2)))

to_vector : (n : ℕ) (xs : List Body) (bytes rest : List ℕ) → Section 10 (Code n) [] xs bytes rest → Section 10 (Vector (Sized IsBody)) [] xs bytes rest
to_vector n xs bytes rest d = (d.0, d.1, to_vector_at n xs d.0 rest d.2)

from_vector : (n : ℕ) (xs : List Body) (bytes rest : List ℕ) → length xs ≡ n → Section 10 (Vector (Sized IsBody)) [] xs bytes rest → Section 10 (Code n) [] xs bytes rest
from_vector n xs bytes rest e d = (d.0, d.1, from_vector_at n xs d.0 rest e d.2)

-- the count of the data segments is known, if they were counted
data_to_at : (k : Option ℕ) (xs : List Piece) (bytes rest : List ℕ) → Sections 11 (Data k) [] xs bytes rest → Sections 11 (Vector Pieces) [] xs bytes rest
data_to_at k xs bytes rest (inl d) = inl d
data_to_at k xs bytes rest (inr d) = inr (d.0, d.1, (d.2.0, d.2.1, d.2.2.1))

data_from_at : (k : Option ℕ) (xs : List Piece) (bytes rest : List ℕ) → Counts k (length xs) → Sections 11 (Vector Pieces) [] xs bytes rest → Sections 11 (Data k) [] xs bytes rest
data_from_at k xs bytes rest e (inl d) = inl d
data_from_at k xs bytes rest e (inr d) = inr (d.0, d.1, (d.2.0, d.2.1, (e, d.2.2)))

data_to : (k : Option ℕ) (xs : List Piece) (bytes rest : List ℕ) → Section 11 (Data k) [] xs bytes rest → Section 11 (Vector Pieces) [] xs bytes rest
data_to k xs bytes rest d = (d.0, d.1, data_to_at k xs d.0 rest d.2)

data_from : (k : Option ℕ) (xs : List Piece) (bytes rest : List ℕ) → Counts k (length xs) → Section 11 (Vector Pieces) [] xs bytes rest → Section 11 (Data k) [] xs bytes rest
data_from k xs bytes rest e d = (d.0, d.1, data_from_at k xs d.0 rest e d.2)

-- the sections of a module
record AllSections (m : Module) (bytes : List ℕ) : Type 0 where
  counted : Option ℕ
  bodies : length m.bodies ≡ length m.functions
  counts : Counts counted (length m.pieces)
  left : C1 m counted bytes []

took : {A B P : Type 0} (r : Result A DecodeError) (f : A → Result B DecodeError) (y : B) → (r >>= f) ≡ Ok y → ((x : A) → r ≡ Ok x → f x ≡ Ok y → P) → P
took (Ok x) f y e k = k x refl e
took (Err d) f y e k = absurd cc

last_sound : (p q : Place) → last p ≡ Ok q → Customs p.rest []
last_sound p q e =
    let c = bind_ok (all_customs p) (λ q. ended q >>= λ t. Ok q) q e in
    let t = bind_ok (ended c.0) (λ t. Ok c.0) q c.2 in
    subst (Customs p.rest) (ended_nil c.0 t.0 t.1) (all_sound p c.0 c.1).spells

sections_sound : (p : Place) (m : Module) → sections p ≡ Ok m → AllSections m p.rest
unfolding sections
sections_sound p m e =
    took (section 1 (vector func_type) [] p) _ m e (λ (types : List FuncType × Place) is_types types_left.
    took (section 2 (vector import) [] types.1) _ m types_left (λ (imports : List Import × Place) is_imports imports_left.
    took (section 3 (vector u32) [] imports.1) _ m imports_left (λ (functions : List ℕ × Place) is_functions functions_left.
    took (section 4 (vector table) [] functions.1) _ m functions_left (λ (tables : List Table × Place) is_tables tables_left.
    took (section 5 (vector memory_type) [] tables.1) _ m tables_left (λ (memories : List MemoryType × Place) is_memories memories_left.
    took (section 6 (vector global) [] memories.1) _ m memories_left (λ (globals : List GlobalVar × Place) is_globals globals_left.
    took (section 7 (vector export) [] globals.1) _ m globals_left (λ (exports : List Export × Place) is_exports exports_left.
    took (section 8 number None exports.1) _ m exports_left (λ (begins : Option ℕ × Place) is_begins begins_left.
    took (section 9 (vector element) [] begins.1) _ m begins_left (λ (elements : List Element × Place) is_elements elements_left.
    took (section 12 number None elements.1) _ m elements_left (λ (counted : Option ℕ × Place) is_counted_ counted_left.
    took (section 10 (code (length functions.0)) [] counted.1) _ m counted_left (λ (bodies : List Body × Place) is_bodies bodies_left.
    took (section 11 (pieces counted.0) [] bodies.1) _ m bodies_left (λ (segments : List Piece × Place) is_segments segments_left.
    took (last segments.1) _ m segments_left (λ (q : Place) is_q q_left.
    took (check (nat_eq (length bodies.0) (length functions.0)) q.at) _ m q_left (λ (u : Unit {0}) is_u u_left.
    took (check (is_counted counted.0 (length segments.0)) q.at) _ m u_left (λ (v : Unit {0}) is_v v_left. (
    subst (λ (m : Module). AllSections m p.rest) (ok_is (record {
      types = types.0;
      imports = imports.0;
      functions = functions.0;
      tables = tables.0;
      memories = memories.0;
      globals = globals.0;
      exports = exports.0;
      start = begins.0;
      elements = elements.0;
      pieces = segments.0;
      bodies = bodies.0;
    }) m v_left) (record {
      counted = counted.0;
      bodies = eqb-true (length bodies.0) (length functions.0) (check_ok (nat_eq (length bodies.0) (length functions.0)) q.at u is_u);
      counts = counts counted.0 (length segments.0) q.at v is_v;
      left = (
        types.1.rest,
        (first.sound p types is_types).spells,
        (
          imports.1.rest,
          (second.sound types.1 imports is_imports).spells,
          (
            functions.1.rest,
            (third.sound imports.1 functions is_functions).spells,
            (
              tables.1.rest,
              (fourth.sound functions.1 tables is_tables).spells,
              (
                memories.1.rest,
                (fifth.sound tables.1 memories is_memories).spells,
                (
                  globals.1.rest,
                  (sixth.sound memories.1 globals is_globals).spells,
                  (
                    exports.1.rest,
                    (seventh.sound globals.1 exports is_exports).spells,
                    (
                      begins.1.rest,
                      (eighth.sound exports.1 begins is_begins).spells,
                      (
                        elements.1.rest,
                        (ninth.sound begins.1 elements is_elements).spells,
                        (
                          counted.1.rest,
                          (twelfth.sound elements.1 counted is_counted_).spells,
                          (
                            bodies.1.rest,
                            to_vector (length functions.0) bodies.0 counted.1.rest bodies.1.rest ((tenth (length functions.0)).sound counted.1 bodies is_bodies).spells,
                            (
                              segments.1.rest,
                              data_to counted.0 segments.0 bodies.1.rest segments.1.rest ((eleventh counted.0).sound bodies.1 segments is_segments).spells,
                              last_sound segments.1 q is_q,
                            ),
                          ),
                        ),
                      ),
                    ),
                  ),
                ),
              ),
            ),
          ),
        ),
      );
    })
    ))))))))))))))))

ok_by : {A B : Type 0} (r : Result A DecodeError) (f : A → Result B DecodeError) (x : A) (y : B) → r ≡ Ok x → f x ≡ Ok y → (r >>= f) ≡ Ok y
ok_by r f x y e h = bind r f x e ∙ h

sections_complete : (m : Module) (p : Place) → AllSections m p.rest → sections p ≡ Ok m
unfolding sections
sections_complete m p d =
    let n = length m.functions in
    let k = d.counted in
    let d1 = d.left in
    let c1 = first.complete m.types p d1.0 d1.1 in let p1 = here d1.0 c1.0 in let d2 = d1.2 in
    let c2 = second.complete m.imports p1 d2.0 d2.1 in let p2 = here d2.0 c2.0 in let d3 = d2.2 in
    let c3 = third.complete m.functions p2 d3.0 d3.1 in let p3 = here d3.0 c3.0 in let d4 = d3.2 in
    let c4 = fourth.complete m.tables p3 d4.0 d4.1 in let p4 = here d4.0 c4.0 in let d5 = d4.2 in
    let c5 = fifth.complete m.memories p4 d5.0 d5.1 in let p5 = here d5.0 c5.0 in let d6 = d5.2 in
    let c6 = sixth.complete m.globals p5 d6.0 d6.1 in let p6 = here d6.0 c6.0 in let d7 = d6.2 in
    let c7 = seventh.complete m.exports p6 d7.0 d7.1 in let p7 = here d7.0 c7.0 in let d8 = d7.2 in
    let c8 = eighth.complete m.start p7 d8.0 d8.1 in let p8 = here d8.0 c8.0 in let d9 = d8.2 in
    let c9 = ninth.complete m.elements p8 d9.0 d9.1 in let p9 = here d9.0 c9.0 in let d12 = d9.2 in
    let c12 = twelfth.complete k p9 d12.0 d12.1 in let p12 = here d12.0 c12.0 in let d10 = d12.2 in
    let c10 = (tenth n).complete m.bodies p12 d10.0 (from_vector n m.bodies d12.0 d10.0 d.bodies d10.1) in let p10 = here d10.0 c10.0 in let d11 = d10.2 in
    let c11 = (eleventh k).complete m.pieces p10 d11.0 (data_from k m.pieces d10.0 d11.0 d.counts d11.1) in let p11 = here d11.0 c11.0 in
    let c13 = all_complete p11 [] d11.2 in let q = here [] c13.0 in
    let as_many = checked (nat_eq (length m.bodies) n) q.at (eq-eqb (length m.bodies) n d.bodies) in
    ok_by (section 1 (vector func_type) [] p) _ (m.types, p1) m c1.1
    (ok_by (section 2 (vector import) [] p1) _ (m.imports, p2) m c2.1
    (ok_by (section 3 (vector u32) [] p2) _ (m.functions, p3) m c3.1
    (ok_by (section 4 (vector table) [] p3) _ (m.tables, p4) m c4.1
    (ok_by (section 5 (vector memory_type) [] p4) _ (m.memories, p5) m c5.1
    (ok_by (section 6 (vector global) [] p5) _ (m.globals, p6) m c6.1
    (ok_by (section 7 (vector export) [] p6) _ (m.exports, p7) m c7.1
    (ok_by (section 8 number None p7) _ (m.start, p8) m c8.1
    (ok_by (section 9 (vector element) [] p8) _ (m.elements, p9) m c9.1
    (ok_by (section 12 number None p9) _ (k, p12) m c12.1
    (ok_by (section 10 (code n) [] p12) _ (m.bodies, p10) m c10.1
    (ok_by (section 11 (pieces k) [] p10) _ (m.pieces, p11) m c11.1
    (ok_by (last p11) _ q m (bind (all_customs p11) (λ q. ended q >>= λ t. Ok q) q c13.1)
    (ok_by (check (nat_eq (length m.bodies) n) q.at) _ tt m as_many
    (ok_by (check (is_counted k (length m.pieces)) q.at) _ tt m (is_so_many k (length m.pieces) q.at d.counts) refl))))))))))))))

-- the header
pub exactly_sound : (front : List ℕ) (p q : Place) → exactly front p ≡ Ok q → p.rest ≡ front ++ q.rest
exactly_sound front p q e =
    let k = length front in
    let t = bind_ok (check (starts_with nat_eq p.rest front) p.at) (λ t. Ok (past k p)) q e in
    let same : take k p.rest ≡ front = sym (same_text front (take k p.rest) (sym (check_ok (starts_with nat_eq p.rest front) p.at t.0 t.1))) in
    sym (take-append-drop k p.rest) ∙ (ap (λ f. f ++ drop k p.rest) same ∙ ap (λ (q : Place). front ++ q.rest) (ok_is (past k p) q t.2))

exactly_complete : (front : List ℕ) (p : Place) (rest : List ℕ) → starts_with nat_eq (front ++ rest) front ≡ true → p.rest ≡ front ++ rest → exactly front p ≡ Ok (here rest (p.at + length front))
exactly_complete front p rest r e =
    let k = length front in
    let starts : starts_with nat_eq p.rest front ≡ true = ap (λ b. starts_with nat_eq b front) e ∙ r in
    bind (check (starts_with nat_eq p.rest front) p.at) (λ t. Ok (past k p)) tt (checked (starts_with nat_eq p.rest front) p.at starts)
    ∙ ap (λ r. Ok (here r (p.at + k))) (ap (drop k) e ∙ drop_at front rest k refl)

-- modules
pub module_sound : (bytes : List ℕ) (m : Module) → module_of bytes ≡ Ok m → Spells m bytes
module_sound bytes m e =
    let p = bind_ok (exactly magic (here bytes 0)) (λ p. exactly version p >>= λ q. sections q) m e in
    let q = bind_ok (exactly version p.0) (λ q. sections q) m p.2 in
    let s = sections_sound q.0 m q.2 in
    (s.bodies, (s.counted, s.counts, q.0.rest, exactly_sound magic (here bytes 0) p.0 p.1 ∙ ap (λ r. magic ++ r) (exactly_sound version p.0 q.0 q.1), loosen1 m s.counted q.0.rest s.left))

pub module_complete : (bytes : List ℕ) (m : Module) → Spells m bytes → module_of bytes ≡ Ok m
module_complete bytes m d =
    let body = d.1.2 in
    let all : AllSections m body = record { counted = d.1.0; bodies = d.0; counts = d.1.1; left = tight m d.1.0 body d.1.4 } in
    let p = here (version ++ body) 4 in
    let q = here body 8 in
    bind (exactly magic (here bytes 0)) (λ p. exactly version p >>= λ q. sections q) p (exactly_complete magic (here bytes 0) (version ++ body) refl d.1.3)
    ∙ (bind (exactly version p) (λ q. sections q) q (exactly_complete version p body refl refl) ∙ sections_complete m q all)

pub module_one : (bytes : List ℕ) (m n : Module) → Spells m bytes → Spells n bytes → m ≡ n
module_one bytes m n d k = ok_is m n (sym (module_complete bytes m d) ∙ module_complete bytes n k)

ok_err : {A : Type 0} (x : A) (e : DecodeError) → ◌≡◌ {A = Result A DecodeError} (Ok x) (Err e) → ⊥
ok_err x e h = absurd cc

pub module_or_fault : (bytes : List ℕ) (m : Module) (e : DecodeError) → Spells m bytes → Fails bytes e → ⊥
module_or_fault bytes m e d h = ok_err m e (sym (module_complete bytes m d) ∙ h)

either_by : (bytes : List ℕ) (r : Result Module DecodeError) → module_of bytes ≡ r → ((m : Module) × Spells m bytes) ⊎ ((e : DecodeError) × Fails bytes e)
either_by bytes (Ok m) h = inl (m, module_sound bytes m h)
either_by bytes (Err e) h = inr (e, h)

pub module_either : (bytes : List ℕ) → ((m : Module) × Spells m bytes) ⊎ ((e : DecodeError) × Fails bytes e)
module_either bytes = either_by bytes (module_of bytes) refl

err_same : {A : Type 0} (d e : DecodeError) → ◌≡◌ {A = Result A DecodeError} (Err d) (Err e) → d ≡ e
err_same d e h = cc

pub one_fault : (bytes : List ℕ) (d e : DecodeError) → Fails bytes d → Fails bytes e → d ≡ e
one_fault bytes d e h k = err_same d e (sym h ∙ k)
