-- What an answer says of a module.
use Rattle.std.proofs.Common.{List, ℕ}
use Rattle.wasm_code.proofs.Answered.{Reads}
use Rattle.wasm_decode.specs.Grammar.{Spells}
use Rattle.wasm_decode.specs.Sections.{module_of}
use Rattle.wasm_decode.proofs.ModulesBothWays.{module_sound, module_complete}

pub module_is : (bytes : List ℕ) → Reads (λ m. Spells m bytes) (module_of bytes)
module_is bytes = record { sound = module_sound bytes; complete = module_complete bytes }
