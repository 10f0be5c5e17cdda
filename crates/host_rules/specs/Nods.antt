-- A module that replies with nothing, for a worked example of a guest that is made of modules.
use Rattle.std.specs.Prelude.{List, [], ◌∷◌, None}
use lib.Chars.{codes}
use Rattle.trapeze_lines.specs.declared.line.Line.{Line}
use Rattle.wasm_ast.specs.declared.val_types.ValType.TheVariants.{I32}
use Rattle.wasm_ast.specs.declared.exports.ExportKind.TheVariants as export
use Rattle.wasm_ast.specs.declared.imports.ImportKind.TheVariants as import
use Rattle.wasm_ast.specs.declared.trees.Instr.{Instr}
use Rattle.wasm_ast.specs.declared.trees.Instr.TheVariants as instr
use Rattle.wasm_ast.specs.declared.modules.Module.{Module}
use Rattle.event_file.specs.declared.entry.Event.{Event}
use Rattle.host_rules.specs.Modules.{guest_of}
use Rattle.host_rules.specs.States.{start}
use Rattle.host_rules.specs.Play.{trace, items_of}
use Rattle.host_rules.specs.Examples.{village, roomy}

-- reply(0, 0)
abbrev pub nod_code : List Instr
nod_code = instr.I32Const 0 ∷ instr.I32Const 0 ∷ instr.Call 0 ∷ []

-- its module: no memory, one host call, one function
abbrev pub nod : Module
nod = record {
  types = record { params = I32 ∷ I32 ∷ []; results = [] } ∷ record { params = []; results = [] } ∷ [];
  imports = record { «module» = codes "trapeze"; name = codes "reply"; kind = import.Function 0 } ∷ [];
  functions = 1 ∷ [];
  tables = [];
  memories = [];
  globals = [];
  exports = record { name = codes "handle"; kind = export.Function; index = 1 } ∷ [];
  start = None;
  elements = [];
  pieces = [];
  bodies = record { locals = []; code = record { items = nod_code } } ∷ [];
}

-- what is told of events where the first function is this module
abbrev pub told_of_nods : List Event → List Line
told_of_nods events = trace (village roomy) (guest_of (nod ∷ [])) (start []) (items_of events)
