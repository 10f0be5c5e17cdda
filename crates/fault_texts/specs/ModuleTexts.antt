-- The words of the faults of a module, and their lines.
use Rattle.std.specs.Prelude.{ℕ, List, ◌++◌, codes, decimal, Option, None, Some}
use Rattle.wasm_ast.specs.declared.places.FloatPlace.{FloatPlace}
use Rattle.wasm_ast.specs.declared.places.FloatPlace.TheVariants as float
use Rattle.wasm_ast.specs.declared.places.SegmentPlace.{SegmentPlace}
use Rattle.wasm_ast.specs.declared.places.SegmentPlace.TheVariants as segment
use Rattle.wasm_code.specs.declared.error.DecodeError.{DecodeError}
use Rattle.wasm_code.specs.declared.error.DecodeError.TheVariants as decode
use Rattle.wasm_validate.specs.declared.invalid.Invalid.{Invalid as InvalidFault}
use Rattle.wasm_validate.specs.declared.invalid.Invalid.TheVariants as invalid
use Rattle.fault_texts.specs.declared.modules.ModuleFault.{ModuleFault}
use Rattle.fault_texts.specs.declared.modules.ModuleFault.TheVariants.{Decode, Invalid}

-- where a module speaks of a float
abbrev pub float_text : FloatPlace → List ℕ
float_text (float.Types i) = codes "types " ++ decimal i
float_text (float.Globals i) = codes "globals " ++ decimal i
float_text (float.Bodies i) = codes "body " ++ decimal i
float_text (float.Elements i) = codes "elements " ++ decimal i
float_text (float.Data i) = codes "data " ++ decimal i

-- a segment of a module
abbrev pub segment_text : SegmentPlace → List ℕ
segment_text (segment.Element i) = codes "element " ++ decimal i
segment_text (segment.Data i) = codes "data " ++ decimal i

-- why bytes are no module
abbrev pub decode_text : DecodeError → List ℕ
decode_text (decode.Malformed at) = codes "malformed " ++ decimal at
decode_text (decode.TooDeep at) = codes "too-deep " ++ decimal at
decode_text (decode.TooManyLocals body) = codes "too-many-locals " ++ decimal body
decode_text decode.NoMemory = codes "out of memory"

-- why a module is not valid
abbrev pub invalid_text : InvalidFault → List ℕ
invalid_text (invalid.Float place) = codes "float " ++ float_text place
invalid_text (invalid.Import i) = codes "import " ++ decimal i
invalid_text (invalid.Structure rule) = codes "structure " ++ decimal rule
invalid_text invalid.NoHandle = codes "no-handle"
invalid_text (invalid.Segment place) = codes "segment " ++ segment_text place
invalid_text (invalid.IllTyped body) = codes "ill-typed " ++ decimal body
invalid_text invalid.NoMemory = codes "out of memory"

-- why a file gives no module
abbrev pub module_text : ModuleFault → List ℕ
module_text (Decode fault) = decode_text fault
module_text (Invalid fault) = invalid_text fault

-- words, and then a number, if there is one
abbrev pub numbered_text : List ℕ → Option ℕ → List ℕ
numbered_text words None = words
numbered_text words (Some number) = words ++ decimal number

-- a line that begins so, has a name and says these words
abbrev pub words_line : List ℕ → List ℕ → List ℕ → List ℕ
words_line begins name words = begins ++ name ++ codes ": " ++ words ++ codes "\n"

-- the line of the module of a function of this name
abbrev pub module_line : List ℕ → ModuleFault → List ℕ
module_line name fault = words_line (codes "module ") name (module_text fault)

-- the line of bytes that spell no module, and are of no function
abbrev pub decode_line : DecodeError → List ℕ
decode_line fault = codes "module: " ++ decode_text fault ++ codes "\n"
