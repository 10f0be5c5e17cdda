-- Imports of a valid module.
use Rattle.std.proofs.Common.{◌≡◌, ◌<◌, ℕ, List, length, get_or, sym, ap, subst, ◌∙◌}
use Rattle.std.specs.Prelude.{IsTrue, Option, Some, None, slice_get, option_and_then}
use Rattle.std.proofs.lemmas.Option.{slice_get-get_or}
use Rattle.wasm_ast.specs.declared.imports.Import.{Import}
use Rattle.wasm_ast.specs.declared.modules.Module.{Module}
use Rattle.wasm_ast.specs.Spaces.{imported_type}
use Rattle.wasm_ast.specs.declared.hosts.HostName.{HostName}
use Rattle.wasm_ast.specs.Hosts.{host_named, host_of, agrees}
use Rattle.wasm_ast.specs.Validity.{Valid}
use Rattle.wasm_ast.proofs.Valids.{host_at}

pub record Found (m : Module) (k : ℕ) (i : Import) : Type 0 where
  pub there : slice_get m.imports k ≡ Some i

pub found_import : (m n : Module) (imports : List Import) (k : ℕ) (i : Import) → m ≡ n → imports ≡ m.imports → k < length n.imports → i ≡ get_or imports k i → Found n k i
found_import m n imports k i e f lt g =
    let same : imports ≡ n.imports = f ∙ ap (λ (x : Module). x.imports) e in
    record { there = slice_get-get_or n.imports k i lt ∙ ap (λ x. Some x) (sym (subst (λ xs. i ≡ get_or xs k i) same g)) }

refused : (o : Option HostName) (n : Module) (i : Import) → None ≡ o → IsTrue (agrees o (imported_type n i.kind)) → ⊥
refused None n i e h = cc
refused (Some x) n i e h = cc

pub never_other : (m : Module) (k : ℕ) (i : Import) (name : List ℕ) → Valid m → Found m k i → name ≡ i.name → None ≡ host_named name → ⊥
never_other m k i name valid found e f = refused (host_named i.name) m i (f ∙ ap host_named e) (host_at m k i valid found.there)

pub is_named : (m : Module) (k : ℕ) (i : Import) (name : List ℕ) (h : HostName) → Found m k i → name ≡ i.name → Some h ≡ host_named name → host_of m k ≡ Some h
is_named m k i name h found e f = ap (option_and_then (λ (x : Import). host_named x.name)) found.there ∙ sym (f ∙ ap host_named e)
