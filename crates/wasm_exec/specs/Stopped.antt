-- Why a run stopped.
use Rattle.std.specs.Prelude.{Option, Some, None}
use Rattle.wasm_ast.specs.declared.hosts.HostName.{HostName}
use Rattle.wasm_exec.specs.declared.stops.Stop.{Stop}
use Rattle.wasm_exec.specs.declared.stops.Stop.TheVariants as stop

-- the call of the host
abbrev pub call_in : Stop → Option HostName
call_in stop.Spent = None
call_in stop.Done = None
call_in (stop.Trapped t) = None
call_in (stop.Call asked) = Some asked.name
call_in stop.NoMemory = None
