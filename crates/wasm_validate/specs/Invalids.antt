-- The first test that a module fails, as the code tells of it.
use Rattle.std.specs.Prelude.{◌≡◌, Option, Some, None}
use Rattle.wasm_ast.specs.Faults as fault
use Rattle.wasm_ast.specs.Faults.{Fault}
use Rattle.wasm_ast.specs.declared.modules.Module.{Module}
use Rattle.wasm_ast.specs.Validity.{Invalidity}
use Rattle.wasm_validate.specs.declared.invalid.Invalid.{Invalid}
use Rattle.wasm_validate.specs.declared.invalid.Invalid.TheVariants as invalid

-- the fault that is told of; none where it is out of memory
abbrev pub fault_of : Invalid → Option Fault
fault_of (invalid.Float place) = Some (fault.Float place)
fault_of (invalid.Import i) = Some (fault.Import i)
fault_of (invalid.Structure n) = Some (fault.Structure n)
fault_of invalid.NoHandle = Some fault.NoHandle
fault_of (invalid.Segment place) = Some (fault.Segment place)
fault_of (invalid.IllTyped k) = Some (fault.IllTyped k)
fault_of invalid.NoMemory = None

-- P of a fault, if there is one
abbrev pub OfFault : (Fault → Type 0) → Option Fault → Type 0
OfFault P None = Unit {0}
OfFault P (Some f) = P f

-- this fault is what is told, unless out of memory
abbrev pub IsToldAs : Fault → Invalid → Type 0
IsToldAs f told = OfFault (λ g. g ≡ f) (fault_of told)

-- the module is refused for what is told, unless out of memory
abbrev pub IsRefused : Module → Invalid → Type 0
IsRefused m told = OfFault (Invalidity m) (fault_of told)
