-- What a valid module is known to keep.
use Rattle.std.proofs.Common.{◌≡◌, ◌≤◌, ◌<◌, ◌+◌, ◌-◌, ℕ, Bool, true, false, List, [], ◌∷◌, length, refl, sym, ap, subst, ◌∙◌, arith}
use Rattle.std.specs.Prelude.{Option, Some, None, IsTrue, not, nat_lt, if◌then◌else◌, slice_get, position, option_map, option_and_then, bytes_eq}
use Rattle.std.proofs.lemmas.Bool.Decides.{nat_tests}
use lib.Chars.{codes}
use Rattle.wasm_ast.specs.declared.val_types.ValType.{ValType}
use Rattle.wasm_ast.specs.declared.val_types.ValType.TheVariants.{I32, I64, F32, F64}
use Rattle.wasm_ast.specs.declared.func_types.FuncType.{FuncType}
use Rattle.wasm_ast.specs.declared.imports.Import.{Import}
use Rattle.wasm_ast.specs.declared.bodies.Body.{Body}
use Rattle.wasm_ast.specs.declared.modules.Module.{Module}
use Rattle.wasm_ast.specs.Spaces.{Function, import_of, imported_type, own_type, joined, function_at, own, type_of}
use Rattle.wasm_ast.specs.Typing.{IsTyped}
use Rattle.wasm_ast.specs.declared.hosts.HostName.{HostName}
use Rattle.wasm_ast.specs.Hosts.{host_named, host_type, same_val_type, same_val_types, same_type, agrees, is_host}
use Rattle.wasm_ast.specs.Structure.{rules}
use Rattle.wasm_ast.specs.Faults as fault
use Rattle.wasm_ast.specs.Validity.{first_some, float_place, import_place, structure_rule, handle_of, handle_fault, segment_place, early_fault, Valid}
use Rattle.wasm_ast.proofs.Lists.{same_some, both_true, none_passes, within, beyond, found, then_some}

-- types that pass a test of structure are equal
pub kind_is : (t u : ValType) → IsTrue (same_val_type t u) → t ≡ u
kind_is I32 I32 h = refl
kind_is I64 I64 h = refl
kind_is F32 F32 h = refl
kind_is F64 F64 h = refl
kind_is _ _ h = cc

kinds_are : (ts us : List ValType) → IsTrue (same_val_types ts us) → ts ≡ us
kinds_are [] [] h = refl
kinds_are [] (u ∷ us) h = cc
kinds_are (t ∷ ts) [] h = cc
kinds_are (t ∷ ts) (u ∷ us) h =
    let b = both_true (same_val_type t u) (same_val_types ts us) h in
    let one : t ≡ u = kind_is t u b.0 in
    let rest : ts ≡ us = kinds_are ts us b.1 in
    cc

pub type_is : (a b : FuncType) → IsTrue (same_type a b) → (a.params ≡ b.params) × (a.results ≡ b.results)
type_is a b h =
    let s = both_true (same_val_types a.params b.params) (same_val_types a.results b.results) h in
    (kinds_are a.params b.params s.0, kinds_are a.results b.results s.1)

-- no fault before the bodies
pub none_first : {A : Type 0} (o : Option A) (others : List (Option A)) → first_some (o ∷ others) ≡ None → (o ≡ None) × (first_some others ≡ None)
none_first None others e = (refl, e)
none_first (Some x) others e = cc

pub none_mapped : {A B : Type 0} (f : A → B) (o : Option A) → option_map f o ≡ None → o ≡ None
none_mapped f None e = refl
none_mapped f (Some x) e = cc

pub record Kept (m : Module) : Type 0 where
  pub imports : import_place m ≡ None
  pub structure : position not (rules m) ≡ None
  pub handle : handle_fault (handle_of m) ≡ None
  pub segments : segment_place m ≡ None

pub kept : (m : Module) → Valid m → Kept m
unfolding early_fault
kept m valid =
    let floats = none_first (option_map fault.Float (float_place m)) (
    option_map fault.Import (import_place m) ∷ option_map fault.Structure (structure_rule m) ∷ handle_fault (handle_of m) ∷ option_map fault.Segment (segment_place m) ∷ []
    ) valid.early in
    let imports = none_first (option_map fault.Import (import_place m)) (option_map fault.Structure (structure_rule m) ∷ handle_fault (handle_of m) ∷ option_map fault.Segment (segment_place m) ∷ []) floats.1 in
    let structure = none_first (option_map fault.Structure (structure_rule m)) (handle_fault (handle_of m) ∷ option_map fault.Segment (segment_place m) ∷ []) imports.1 in
    let handle = none_first (handle_fault (handle_of m)) (option_map fault.Segment (segment_place m) ∷ []) structure.1 in
    let segments = none_first (option_map fault.Segment (segment_place m)) [] handle.1 in
    record {
      imports = none_mapped fault.Import (import_place m) imports.0;
      structure = none_mapped (λ k. k + 1) (position not (rules m)) (none_mapped fault.Structure (structure_rule m) structure.0);
      handle = handle.0;
      segments = none_mapped fault.Segment (segment_place m) segments.0;
    }

not_false : (b : Bool) → not b ≡ false → IsTrue b
not_false true e = refl
not_false false e = cc

-- a rule of structure, by its place in the list
pub rule : (m : Module) (k : ℕ) (b : Bool) → Valid m → slice_get (rules m) k ≡ Some b → IsTrue b
rule m k b valid e = not_false b (none_passes not (rules m) k b (kept m valid).structure e)

-- imports
pub host_at : (m : Module) (x : ℕ) (i : Import) → Valid m → slice_get m.imports x ≡ Some i → IsTrue (agrees (host_named i.name) (imported_type m i.kind))
host_at m x i valid e =
    (both_true (bytes_eq i.«module» (codes "trapeze")) (agrees (host_named i.name) (imported_type m i.kind))
    (not_false (is_host m i) (none_passes (λ (i : Import). not (is_host m i)) m.imports x i (kept m valid).imports e))).1

-- the host call of an import and its type
pub record Lent (i : Import) (ft : FuncType) : Type 0 where
  pub call : HostName
  pub named : host_named i.name ≡ Some call
  pub params : ft.params ≡ (host_type call).params
  pub results : ft.results ≡ (host_type call).results

lent_as : (i : Import) (ft : FuncType) (o : Option HostName) → host_named i.name ≡ o → IsTrue (agrees o (Some ft)) → Lent i ft
lent_as i ft None e h = cc
lent_as i ft (Some call) e h = let s = type_is ft (host_type call) h in record { call = call; named = e; params = s.0; results = s.1 }

pub lent : (i : Import) (ft : FuncType) (o : Option FuncType) → o ≡ Some ft → IsTrue (agrees (host_named i.name) o) → Lent i ft
lent i ft o e h = lent_as i ft (host_named i.name) refl (subst (λ t. IsTrue (agrees (host_named i.name) t)) e h)

less : (a b : ℕ) → a < b → nat_lt a b ≡ true
less a b h = grind (arith, nat_tests)

not_less : (a b : ℕ) → b ≤ a → nat_lt a b ≡ false
not_less a b h = grind (arith, nat_tests)

-- the type of an import
pub type_of_import : (m : Module) (x : ℕ) (i : Import) → slice_get m.imports x ≡ Some i → type_of m x ≡ imported_type m i.kind
unfolding type_of import_of
type_of_import m x i e =
    ap (λ b. if b then option_and_then (λ (i : Import). imported_type m i.kind) (slice_get m.imports x) else own_type m (x - length m.imports)) (less x (length m.imports) (within m.imports x i e))
    ∙ ap (option_and_then (λ (i : Import). imported_type m i.kind)) e

-- functions that the module defines
pub record Owned (m : Module) (x : ℕ) (ft : FuncType) : Type 0 where
  pub function : Function
  pub member : own m x ≡ Some function
  pub signature : function.signature ≡ ft

pub type_of_own : (m : Module) (x : ℕ) → length m.imports ≤ x → type_of m x ≡ own_type m (x - length m.imports)
unfolding type_of
type_of_own m x h = ap (λ b. if b then import_of m x else own_type m (x - length m.imports)) (not_less x (length m.imports) h)

own_at : (m : Module) (x : ℕ) → length m.imports ≤ x → own m x ≡ function_at m (x - length m.imports)
unfolding own
own_at m x h = ap (λ b. if b then None else function_at m (x - length m.imports)) (not_less x (length m.imports) h)

has_body : (m : Module) (k : ℕ) (ft : FuncType) → length m.bodies ≡ length m.functions → own_type m k ≡ Some ft → (b : Body) × (slice_get m.bodies k ≡ Some b)
has_body m k ft e h =
    let t = then_some (slice_get m.types) (slice_get m.functions k) ft h in
    found m.bodies k (subst (λ n. k < n) (sym e) (within m.functions k t.0 t.1))

pub owned : (m : Module) (x : ℕ) (ft : FuncType) → Valid m → slice_get m.imports x ≡ None → type_of m x ≡ Some ft → Owned m x ft
owned m x ft valid none e =
    let past = beyond m.imports x none in
    let k = x - length m.imports in
    let typed : own_type m k ≡ Some ft = sym (type_of_own m x past) ∙ e in
    let body = has_body m k ft valid.counts typed in
    record {
      function = record { signature = ft; declared = body.0.locals; code = body.0.code.items };
      member = own_at m x past ∙ (ap (λ o. joined o (slice_get m.bodies k)) typed ∙ ap (joined (Some ft)) body.1);
      signature = refl;
    }

joined_body : (o : Option FuncType) (b : Option Body) (fn : Function) → joined o b ≡ Some fn → (body : Body) × (b ≡ Some body)
joined_body None b fn e = cc
joined_body (Some ft) None fn e = cc
joined_body (Some ft) (Some body) fn e = (body, refl)

own_is : (m : Module) (x : ℕ) (fn : Function) (b : Bool) → (if b then None else function_at m (x - length m.imports)) ≡ Some fn → function_at m (x - length m.imports) ≡ Some fn
own_is m x fn true e = cc
own_is m x fn false e = e

typed_at : (m : Module) (k : ℕ) (fn : Function) → Valid m → function_at m k ≡ Some fn → IsTyped m fn
typed_at m k fn valid e =
    let body = joined_body (own_type m k) (slice_get m.bodies k) fn e in
    let t = valid.typed k (within m.bodies k body.0 body.1) in
    subst (IsTyped m) (same_some t.0 fn (sym t.1 ∙ e)) t.2

-- each function that the module defines has a typing
pub own_typed : (m : Module) (x : ℕ) (fn : Function) → Valid m → own m x ≡ Some fn → IsTyped m fn
unfolding own
own_typed m x fn valid e = typed_at m (x - length m.imports) fn valid (own_is m x fn (nat_lt x (length m.imports)) e)
