-- A refusal is for the module's one fault.
use Rattle.std.proofs.Common.{◌≡◌, refl}
use Rattle.std.specs.Prelude.{Option, Some, None}
use Rattle.wasm_ast.specs.declared.modules.Module.{Module}
use Rattle.wasm_ast.specs.Faults as fault
use Rattle.wasm_ast.specs.Faults.{Fault}
use Rattle.wasm_ast.specs.Validity.{Invalidity, Valid}
use Rattle.wasm_ast.proofs.OneFault.{one_fault, no_fault}
use Rattle.wasm_validate.specs.declared.invalid.Invalid.{Invalid}
use Rattle.wasm_validate.specs.declared.invalid.Invalid.TheVariants as invalid
use Rattle.wasm_validate.specs.Invalids.{fault_of, OfFault, IsRefused, IsToldAs}

pub only_for_memory : (m : Module) (told : Invalid) → IsRefused m told → Valid m → told ≡ invalid.NoMemory
only_for_memory m (invalid.Float place) h v = absurd (no_fault m (fault.Float place) v h)
only_for_memory m (invalid.Import i) h v = absurd (no_fault m (fault.Import i) v h)
only_for_memory m (invalid.Structure n) h v = absurd (no_fault m (fault.Structure n) v h)
only_for_memory m invalid.NoHandle h v = absurd (no_fault m fault.NoHandle v h)
only_for_memory m (invalid.Segment place) h v = absurd (no_fault m (fault.Segment place) v h)
only_for_memory m (invalid.IllTyped k) h v = absurd (no_fault m (fault.IllTyped k) v h)
only_for_memory m invalid.NoMemory h v = refl

same : (m : Module) (o : Option Fault) (f : Fault) → OfFault (Invalidity m) o → Invalidity m f → OfFault (λ g. g ≡ f) o
same m None f h e = tt
same m (Some g) f h e = one_fault m g f h e

pub tells_the_fault : (m : Module) (told : Invalid) (f : Fault) → IsRefused m told → Invalidity m f → IsToldAs f told
tells_the_fault m told f h e = same m (fault_of told) f h e
