-- The entries of the table that a valid module begins with are functions of it.
use Rattle.std.proofs.Common.{◌≡◌, ◌≤◌, ◌<◌, ◌+◌, ◌-◌, ℕ, List, [], ◌∷◌, ◌++◌, length, take, drop, replicate, refl, ap, subst, ◌∙◌, arith}
use Rattle.std.specs.Prelude.{Option, Some, None, IsTrue, ◌&&◌, slice_get, zero, suc, nat_lt, nat_eq}
use Rattle.std.specs.List.{list_all}
use Rattle.std.proofs.lemmas.Bool.Decides.{nat_tests}
use Rattle.wasm_ast.specs.declared.val_types.ValType.TheVariants.{I32}
use Rattle.wasm_ast.specs.declared.func_types.FuncType.{FuncType}
use Rattle.wasm_ast.specs.declared.imports.Import.{Import}
use Rattle.wasm_ast.specs.declared.elements.Element.{Element}
use Rattle.wasm_ast.specs.declared.modules.Module.{Module}
use Rattle.wasm_ast.specs.Spaces.{type_of, imported_type, function_count, table_size}
use Rattle.wasm_ast.specs.Bytes.{placed}
use Rattle.wasm_ast.specs.declared.hosts.HostName.{HostName}
use Rattle.wasm_ast.specs.Hosts.{host_named, agrees}
use Rattle.wasm_ast.specs.Structure.{constant, constant_value, is_constant_of, is_element}
use Rattle.wasm_ast.specs.Validity.{Valid}
use Rattle.wasm_semantics.specs.Begin.{set_entries, with_elements, first_table}
use Rattle.wasm_semantics.specs.OfModule.{IsTable}
use Rattle.wasm_ast.proofs.Lists.{same_some, both_true, each_of, found, beyond}
use Rattle.wasm_ast.proofs.Valids.{rule, host_at, type_of_import, type_of_own}

abbrev pub IsKnown : Module → ℕ → Type 0
IsKnown m x = (ft : FuncType) × (type_of m x ≡ Some ft)

-- each index below the count of functions is known
named_type : (o : Option HostName) (t : Option FuncType) → IsTrue (agrees o t) → (ft : FuncType) × (t ≡ Some ft)
named_type None t h = cc
named_type (Some call) None h = cc
named_type (Some call) (Some ft) h = (ft, refl)

import_known : (m : Module) (x : ℕ) (i : Import) → Valid m → slice_get m.imports x ≡ Some i → IsKnown m x
import_known m x i valid e =
    let t = named_type (host_named i.name) (imported_type m i.kind) (host_at m x i valid e) in
    (t.0, type_of_import m x i e ∙ t.1)

below : (a b : ℕ) → IsTrue (nat_lt a b) → a < b
below a b h = grind (arith, nat_tests)

own_known : (m : Module) (x : ℕ) → Valid m → length m.imports ≤ x → x < function_count m → IsKnown m x
own_known m x valid past h =
    let k = x - length m.imports in
    let f = found m.functions k (omega arith) in
    let t = found m.types f.0 (below f.0 (length m.types) (each_of (λ j. nat_lt j (length m.types)) m.functions k f.0 (rule m 1 (list_all (λ j. nat_lt j (length m.types)) m.functions) valid refl) f.1)) in
    (t.0, type_of_own m x past ∙ (ap (λ o. elim o as (λ _. Option FuncType) [ None ↦ None | Some j ↦ slice_get m.types j ]) f.1 ∙ t.1))

known_by : (m : Module) (x : ℕ) (o : Option Import) → Valid m → slice_get m.imports x ≡ o → x < function_count m → IsKnown m x
known_by m x None valid e h = own_known m x valid (beyond m.imports x e) h
known_by m x (Some i) valid e h = import_known m x i valid e

pub known : (m : Module) (x : ℕ) → Valid m → x < function_count m → IsKnown m x
known m x valid h = known_by m x (slice_get m.imports x) valid refl h

-- tables whose entries are known
abbrev Entries : Module → List (Option ℕ) → Type 0
Entries m [] = Unit {0}
Entries m (None ∷ table) = Entries m table
Entries m (Some x ∷ table) = IsKnown m x × Entries m table

entries_append : (m : Module) (a b : List (Option ℕ)) → Entries m a → Entries m b → Entries m (a ++ b)
entries_append m [] b h k = k
entries_append m (None ∷ a) b h k = entries_append m a b h k
entries_append m (Some x ∷ a) b h k = (h.0, entries_append m a b h.1 k)

entries_take : (m : Module) (n : ℕ) (a : List (Option ℕ)) → Entries m a → Entries m (take n a)
entries_take m zero a h = tt
entries_take m (suc n) [] h = tt
entries_take m (suc n) (None ∷ a) h = entries_take m n a h
entries_take m (suc n) (Some x ∷ a) h = (h.0, entries_take m n a h.1)

entries_drop : (m : Module) (n : ℕ) (a : List (Option ℕ)) → Entries m a → Entries m (drop n a)
entries_drop m zero a h = h
entries_drop m (suc n) [] h = tt
entries_drop m (suc n) (None ∷ a) h = entries_drop m n a h
entries_drop m (suc n) (Some x ∷ a) h = entries_drop m n a h.1

entries_none : (m : Module) (n : ℕ) → Entries m (replicate n None)
entries_none m zero = tt
entries_none m (suc n) = entries_none m n

entries_set : (m : Module) (xs : List ℕ) → Valid m → IsTrue (list_all (λ x. nat_lt x (function_count m)) xs) → Entries m (set_entries xs)
entries_set m [] valid h = tt
entries_set m (x ∷ xs) valid h =
    let b = both_true (nat_lt x (function_count m)) (list_all (λ x. nat_lt x (function_count m)) xs) h in
    (known m x valid (below x (function_count m) b.0), entries_set m xs valid b.1)

entries_placed : (m : Module) (table : List (Option ℕ)) (at : ℕ) (ys : List (Option ℕ)) → Entries m table → Entries m ys → Entries m (placed table at ys)
entries_placed m table at ys h k = entries_append m (take at table) (ys ++ drop (at + length ys) table) (entries_take m at table h) (entries_append m ys (drop (at + length ys) table) k (entries_drop m (at + length ys) table h))

element_members : (m : Module) (e : Element) → IsTrue (is_element m e) → IsTrue (list_all (λ x. nat_lt x (function_count m)) e.members)
element_members m e h =
    let a = both_true (nat_eq e.index 0) (nat_lt 0 (length m.tables) && (is_constant_of I32 (constant e.offset.items) && list_all (λ x. nat_lt x (function_count m)) e.members)) h in
    let b = both_true (nat_lt 0 (length m.tables)) (is_constant_of I32 (constant e.offset.items) && list_all (λ x. nat_lt x (function_count m)) e.members) a.1 in
    (both_true (is_constant_of I32 (constant e.offset.items)) (list_all (λ x. nat_lt x (function_count m)) e.members) b.1).1

entries_with : (m : Module) (table : List (Option ℕ)) (es : List Element) → Valid m → Entries m table → IsTrue (list_all (is_element m) es) → Entries m (with_elements table es)
entries_with m table [] valid h k = h
entries_with m table (e ∷ es) valid h k =
    let b = both_true (is_element m e) (list_all (is_element m) es) k in
    entries_with m (placed table (constant_value e.offset.items) (set_entries e.members)) es valid
    (entries_placed m table (constant_value e.offset.items) (set_entries e.members) h (entries_set m e.members valid (element_members m e b.0))) b.1

entry_at : (m : Module) (table : List (Option ℕ)) (k x : ℕ) → Entries m table → slice_get table k ≡ Some (Some x) → IsKnown m x
entry_at m [] k x h e = cc
entry_at m (None ∷ table) zero x h e = cc
entry_at m (None ∷ table) (suc k) x h e = entry_at m table k x h e
entry_at m (Some y ∷ table) zero x h e = subst (IsKnown m) (same_some y x (same_some (Some y) (Some x) e)) h.0
entry_at m (Some y ∷ table) (suc k) x h e = entry_at m table k x h.1 e

pub first_table_is : (m : Module) → Valid m → IsTable m (first_table m)
first_table_is m valid k x e =
    entry_at m (first_table m) k x (entries_with m (replicate (table_size m) None) m.elements valid (entries_none m (table_size m)) (rule m 8 (list_all (is_element m) m.elements) valid refl)) e
