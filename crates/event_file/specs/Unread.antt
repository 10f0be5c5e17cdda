-- Why a line could not be read: for a fault of it, or out of memory.
use Rattle.std.specs.Prelude.{Option, None, Some}
use Rattle.event_file.specs.declared.fault.LineFault.{LineFault}
use Rattle.event_file.specs.declared.words.Unread.{Unread}
use Rattle.event_file.specs.declared.words.Unread.TheVariants.{Fault, NoMemory}

-- the fault for which a line could not be read, and none where it was out of memory
abbrev pub fault_of : Unread → Option LineFault
fault_of (Fault fault) = Some fault
fault_of NoMemory = None
