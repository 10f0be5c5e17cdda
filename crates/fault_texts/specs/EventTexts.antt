-- The line of the first bad line of an event file.
use Rattle.std.specs.Prelude.{ℕ, List, ◌++◌, codes, decimal}
use Rattle.event_file.specs.declared.fault.LineError.{LineError}
use Rattle.event_file.specs.declared.fault.LineFault.{LineFault}
use Rattle.event_file.specs.declared.fault.LineFault.TheVariants as fault

-- the kind of a bad line of the event file
abbrev pub line_fault_text : LineFault → List ℕ
line_fault_text fault.LineTooLong = codes "line-too-long"
line_fault_text fault.Word = codes "word"
line_fault_text fault.Count = codes "count"
line_fault_text fault.UnknownLabel = codes "unknown-label"
line_fault_text fault.UnknownClient = codes "unknown-client"
line_fault_text fault.UnknownFunction = codes "unknown-function"
line_fault_text fault.BadId = codes "bad-id"
line_fault_text fault.BadHex = codes "bad-hex"
line_fault_text fault.TooBig = codes "too-big"
line_fault_text fault.BadNumber = codes "bad-number"

-- its number and its kind
abbrev pub bad_line_text : LineError → List ℕ
bad_line_text error = codes "events line " ++ decimal error.line ++ codes ": " ++ line_fault_text error.fault ++ codes "\n"
