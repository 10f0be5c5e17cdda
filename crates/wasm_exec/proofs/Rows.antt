-- Rows of the table of functions.
use Rattle.std.proofs.Common.{◌≡◌, ℕ, ◌+◌, ◌-◌, ◌<◌, ◌≤◌, Bool, false, List, [], ◌∷◌, length, refl, sym, ap, subst, ◌∙◌, arith}
use Rattle.std.specs.Prelude.{Option, Some, None, IsTrue, not, nat_eq, nat_lt, nat_le, slice_get, if◌then◌else◌, option_and_then}
use Rattle.std.specs.List.{list_all}
use Rattle.std.proofs.lemmas.Bool.Decides.{nat_tests}
use Rattle.wasm_ast.specs.declared.func_types.FuncType.{FuncType}
use Rattle.wasm_ast.specs.declared.bodies.Body.{Body}
use Rattle.wasm_ast.specs.declared.imports.Import.{Import}
use Rattle.wasm_ast.specs.declared.imports.ImportKind.{ImportKind}
use Rattle.wasm_ast.specs.declared.imports.ImportKind.TheVariants as kind
use Rattle.wasm_ast.specs.declared.hosts.HostName.{HostName}
use Rattle.wasm_ast.specs.declared.val_types.ValType.{ValType}
use Rattle.wasm_ast.specs.declared.modules.Module.{Module}
use Rattle.wasm_ast.specs.Spaces.{own_type, joined, function_at, function_of, own, imported_type}
use Rattle.wasm_ast.specs.Hosts.{host_named, host_params, agrees}
use Rattle.wasm_ast.specs.Validity.{Valid}
use Rattle.wasm_ast.proofs.Lists.{each_of}
use Rattle.wasm_ast.proofs.Valids.{rule, host_at, type_of_import, type_of_own}
use Rattle.wasm_semantics.specs.Operators.{truth}
use Rattle.wasm_frames.specs.declared.callees.Callee.{Callee}
use Rattle.wasm_frames.specs.declared.callees.Runs.TheVariants as runs
use Rattle.wasm_frames.specs.Callees.{IsCallee}

-- an import is a function of the host
not_other : (m : Module) (o : Option HostName) (k : ImportKind) → ((x : ℕ) → k ≡ kind.Function x → ⊥) → IsTrue (agrees o (imported_type m k)) → ⊥
not_other m None k n h = cc
not_other m (Some name) (kind.Function x) n h = n x refl
not_other m (Some name) (kind.Table t) n h = cc
not_other m (Some name) (kind.Memory t) n h = cc
not_other m (Some name) (kind.Global t mutable) n h = cc

pub always_function : (m : Module) (x : ℕ) (i : Import) (k : ImportKind) → Valid m → slice_get m.imports x ≡ Some i → k ≡ i.kind → ((x : ℕ) → k ≡ kind.Function x → ⊥) → ⊥
always_function m x i k valid e same n = not_other m (host_named i.name) k n (subst (λ j. IsTrue (agrees (host_named i.name) (imported_type m j))) (sym same) (host_at m x i valid e))

typed : (o : Option HostName) (t : Option FuncType) → IsTrue (agrees o t) → (ft : FuncType) × (t ≡ Some ft)
typed None t h = cc
typed (Some name) None h = cc
typed (Some name) (Some ft) h = (ft, refl)

pub lent_row : (m : Module) (x n k : ℕ) (i : Import) (name : HostName) → Valid m → slice_get m.imports x ≡ Some i → host_named i.name ≡ Some name → i.kind ≡ kind.Function k → n ≡ length (host_params name)
    → IsCallee m x (record { signature = k; params = n; runs = runs.Host name })
lent_row m x n k i name valid e named is takes =
    let t = typed (host_named i.name) (imported_type m i.kind) (host_at m x i valid e) in record {
      signature = t.0;
      is = ap (imported_type m) (sym is) ∙ t.1;
      type = type_of_import m x i e ∙ t.1;
      runs = record { named = ap (option_and_then (λ (i : Import). host_named i.name)) e ∙ named; takes = takes };
    }

-- functions that the module defines
below : (a b : ℕ) → IsTrue (nat_lt a b) → a < b
below a b h = grind (arith, nat_tests)

at_most_one : (a : ℕ) → IsTrue (nat_le a 1) → a ≤ 1
at_most_one a h = grind (arith, nat_tests)

pub kind_there : (m : Module) (k x : ℕ) → Valid m → slice_get m.functions k ≡ Some x → x < length m.types
kind_there m k x valid e = below x (length m.types) (each_of (λ j. nat_lt j (length m.types)) m.functions k x (rule m 1 (list_all (λ j. nat_lt j (length m.types)) m.functions) valid refl) e)

one_result : (m : Module) (x : ℕ) (ft : FuncType) → Valid m → slice_get m.types x ≡ Some ft → length ft.results ≤ 1
one_result m x ft valid e =
    at_most_one (length ft.results) (each_of (λ (t : FuncType). nat_le (length t.results) 1) m.types x ft (rule m 0 (list_all (λ (t : FuncType). nat_le (length t.results) 1) m.types) valid refl) e)

gives_all : (ts : List ValType) → length ts ≤ 1 → truth (not (nat_eq (length ts) 0)) ≡ length ts
gives_all [] h = refl
gives_all (t ∷ []) h = refl
gives_all (t ∷ u ∷ ts) h = absurd (omega arith)

not_less : (a b : ℕ) → b ≤ a → nat_lt a b ≡ false
not_less a b h = grind (arith, nat_tests)

own_at : (m : Module) (x : ℕ) → length m.imports ≤ x → own m x ≡ function_at m (x - length m.imports)
unfolding own
own_at m x h = ap (λ b. if b then None else function_at m (x - length m.imports)) (not_less x (length m.imports) h)

pub own_row : (m : Module) (k x n d : ℕ) (gives : Bool) (ft : FuncType) (body : Body) → Valid m → slice_get m.functions k ≡ Some x → slice_get m.types x ≡ Some ft → slice_get m.bodies k ≡ Some body
    → n ≡ length ft.params → d ≡ length body.locals → gives ≡ not (nat_eq (length ft.results) 0)
    → IsCallee m (length m.imports + k) (record { signature = x; params = n; runs = runs.Own (record { function = k; declared = d; gives = gives }) })
own_row m k x n d gives ft body valid e t b params locals results =
    let at = length m.imports + k in
    let past : length m.imports ≤ at = omega arith in
    let number : at - length m.imports ≡ k = omega arith in
    let known : own_type m (at - length m.imports) ≡ Some ft = ap (own_type m) number ∙ (ap (option_and_then (slice_get m.types)) e ∙ t) in
    let has : slice_get m.bodies (at - length m.imports) ≡ Some body = ap (slice_get m.bodies) number ∙ b in
    record {
      signature = ft;
      is = t;
      type = type_of_own m at past ∙ known;
      runs = record {
        function = function_of ft body;
        member = own_at m at past ∙ (ap (λ o. joined o (slice_get m.bodies (at - length m.imports))) known ∙ ap (joined (Some ft)) has);
        index = refl;
        takes = params;
        zeros = locals;
        results = ap truth results ∙ gives_all ft.results (one_result m x ft valid t);
      };
    }

-- one row more
pub record RowsTo (m : Module) (n : ℕ) (rows : List Callee) : Type 0 where
  pub many : length rows ≡ n
  pub each : (x : ℕ) (c : Callee) → slice_get rows x ≡ Some c → IsCallee m x c
