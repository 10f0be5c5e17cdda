-- The entry point of a valid module.
use Rattle.std.proofs.Common.{◌≡◌, sym, subst}
use Rattle.std.specs.Prelude.{None}
use Rattle.wasm_ast.specs.declared.modules.Module.{Module}
use Rattle.wasm_ast.specs.Validity.{Valid, handle_of, handle_fault}
use Rattle.wasm_ast.proofs.Valids.{kept}

pub always_there : (m : Module) → Valid m → None ≡ handle_of m → ⊥
always_there m valid e =
    let fault : handle_fault None ≡ None = subst (λ o. handle_fault o ≡ None) (sym e) (kept m valid).handle in
    cc
