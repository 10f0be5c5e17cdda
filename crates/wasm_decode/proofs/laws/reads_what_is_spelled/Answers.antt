use Rattle.wasm_decode.proofs.ModulesBothWays.{module_sound, module_complete}
use Rattle.wasm_decode.proofs.laws.reads_what_is_spelled.Goals as goal

pub returns-clause-sound : goal.returns-clause-sound
returns-clause-sound c = module_sound

pub returns-clause-complete : goal.returns-clause-complete
returns-clause-complete c = module_complete
