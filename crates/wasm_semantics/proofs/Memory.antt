-- A thread of a module with another memory that the module may have.
use Rattle.std.proofs.Common.{◌≡◌, ℕ, List, [], ◌∷◌, length, refl, ap, ◌∙◌, arith}
use Rattle.std.specs.Prelude.{Option, Some, None}
use Rattle.wasm_ast.specs.declared.memory_types.MemoryType.{MemoryType}
use Rattle.wasm_ast.specs.declared.modules.Module.{Module}
use Rattle.wasm_ast.specs.Spaces.{memory_of}
use Rattle.wasm_ast.specs.declared.hosts.HostName.{HostName}
use Rattle.wasm_semantics.specs.Threads.{Thread}
use Rattle.wasm_semantics.specs.Units.{with_memory}
use Rattle.wasm_semantics.specs.OfModule.{IsMemory, IsOf, IsWaiting}

no_bytes : (bytes : List ℕ) → length bytes ≡ 0 → bytes ≡ []
no_bytes [] e = refl
no_bytes (b ∷ bytes) e = absurd (omega arith)

pub same_length : (o : Option MemoryType) (a b : List ℕ) → length b ≡ length a → IsMemory o a → IsMemory o b
same_length None a b e h = no_bytes b (e ∙ ap length h)
same_length (Some t) a b e h = (h.0, e ∙ h.1, h.2, h.3)

pub another_is_of : (m : Module) (t : Thread) (memory : List ℕ) → IsOf m t → IsMemory (memory_of m) memory → IsOf m (with_memory t memory)
another_is_of m t memory h fits = record { store = record { memory = fits; globals = h.store.globals; length = h.store.length; table = h.store.table }; running = h.running }

pub another_waits : (m : Module) (c : HostName) (t : Thread) (memory : List ℕ) → IsWaiting m c t → IsWaiting m c (with_memory t memory)
another_waits m c t memory h = h
